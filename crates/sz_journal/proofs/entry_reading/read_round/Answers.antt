-- What is read is the round; and where its numbers or its tables are missing there is none.
use Rattle.std.proofs.Common.{◌≡◌, ◌∙◌, sym, ap}
use Rattle.std.specs.declared.result.Result.TheVariants.{Err}
use Rattle.std.proofs.lemmas.Result.{err_from_is_err_and}
use Rattle.sz_journal.specs.declared.entry_error.EntryError.TheVariants as errors
use Rattle.sz_journal.specs.EntryReading.{entry_error, progress_at}
use Rattle.sz_journal.proofs.EntryRoundLemmas.{stopped, error_told, round_read, no_progress_no_round, no_tables_no_round}
use Rattle.sz_journal.proofs.entry_reading.read_round.Goals as goal

pub returns-in_err-progress-clause-not_entry : goal.returns-in_err-progress-clause-not_entry
returns-in_err-progress-clause-not_entry c = λ is round of.
    let p = err_from_is_err_and c.from_residual.result c.from_residual.ensures.1 in
    let flat = c.args.bytes.now in
    no_progress_no_round flat
    (stopped (progress_at flat) c.in_err-progress.field-0.0 c.in_err-progress.ensures.value
    (let both = sym p.1 ∙ is in let e = p.2 in cc)) round of

pub returns-in_err-saved-clause-not_entry : goal.returns-in_err-saved-clause-not_entry
returns-in_err-saved-clause-not_entry c = λ is round of.
    let p = err_from_is_err_and c.from_residual-in_err-saved.result c.from_residual-in_err-saved.ensures.1 in
    let error = c.in_err-saved.field-0.0 in
    let told : entry_error error ≡ errors.NotEntry = let both = sym p.1 ∙ is in let e = p.2 in cc in
    no_tables_no_round
    c.args.bytes.now c.in_ok-progress.progress c.in_ok-progress.rest.now c.in_ok-progress.ensures.value
    (λ tables saves. c.in_err-saved.ensures.not_saved (ap Err (error_told error told)) tables saves) round of

pub returns-clause-value : goal.returns-clause-value
returns-clause-value c =
    round_read c.args.bytes.now c.in_ok-progress.progress c.in_ok-progress.rest.now c.in_ok-saved.saved
    c.in_ok-progress.ensures.value c.in_ok-saved.ensures.value
