-- What `clap` answers is what the words give.
use Rattle.std.proofs.Common.{◌∙◌, sym, map}
use Rattle.std.specs.Prelude.{string_bytes}
use Rattle.clap.specs.Words.{app_of}
use Rattle.sz_words.proofs.AnswerLemmas.{failed, found_parts}
use Rattle.sz_words.proofs.UnfitLemmas.{unfit}
use Rattle.sz_words.proofs.words.matches_of.Goals as goal

pub returns-then-not-dashes_fit-clause-usage : goal.returns-then-not-dashes_fit-clause-usage
returns-then-not-dashes_fit-clause-usage c is =
    unfit (map string_bytes c.args.words.now) (sym c.dashes_fit.ensures.value ∙ c.if-not-dashes_fit.true)

pub returns-in-Ok-clause-value : goal.returns-in-Ok-clause-value
returns-in-Ok-clause-value c =
    found_parts (map string_bytes c.args.words.now)
    (app_of c.in_ok-asked.field-0) c.in-Ok.matches c.in_ok-asked.ensures.value
    (sym c.dashes_fit.ensures.value ∙ c.if-not-dashes_fit.false) c.in-Ok.ensures.kinds c.in-Ok.ensures.matches

pub returns-in-Err-clause-usage : goal.returns-in-Err-clause-usage
returns-in-Err-clause-usage c is =
    failed (map string_bytes c.args.words.now) (app_of c.in_ok-asked.field-0) c.in-Err.error c.in_ok-asked.ensures.value
    (sym c.dashes_fit.ensures.value ∙ c.if-not-dashes_fit.false) c.in-Err.ensures.kinds (c.cause_of.ensures.usage is)
