-- The program's file is read, and its text is answered.
use Rattle.std.proofs.Common.{◌≡◌, [], ◌∷◌, ◌++◌, List, ℕ, sym, ap, ◌∙◌, subst}
use Rattle.std.specs.Prelude.{Err, Ok}
use Rattle.std.proofs.lemmas.Result.{err_from_is_err_and}
use Rattle.sz_io.specs.Rose.{Rose}
use Rattle.sz_io.specs.Calls.{NamesGain}
use Rattle.szl.specs.Failing.{status_of}
use Rattle.sz_refusals.specs.Texts.{most_program_bytes}
use Rattle.szl.specs.Judgement.{IsRead}
use Rattle.szl.specs.JournalRuns.{AnswersJob, IsTextOutcome, but_one}
use Rattle.szl.specs.Opening.{ReadsText, past_program, ran_out, status_of_answer}
use Rattle.szl.specs.ProgramRuns.{vec_items_of}
use Rattle.szl.specs.Promise.{AreReadToEnd}
use Rattle.szl.specs.ResumePromise.{IfSpelled, IsNameFor, KeepsDisk}
use Rattle.szl.specs.Resuming.{kept_job}
use Rattle.szl.proofs.ResumeLemmas.{file_unread, text_resumed, nothing_kept, text_told}
use Rattle.szl.proofs.SettingsLemmas.{both_when_ok, both_read}
use Rattle.szl.proofs.KeepLemmas.{not_done, entries_untouched}
use Rattle.szl.proofs.resuming.resume_with.Goals as goal

-- the file couldn't be read
pub returns-in_err-text-clause-value : goal.returns-in_err-text-clause-value
returns-in_err-text-clause-value g c =
    let p = err_from_is_err_and c.from_residual.result c.from_residual.ensures.1 in
    let s = c.args.settings.now in
    let files = g.F.Files in
    let old = c.args.files.now in
    let new = c.read_program.new.files in
    let f = c.in_err-text.field-0.0 in
    rw (p.1, p.2) (file_unread files s c.args.proto.now.types c.args.proto.now.bytes.items old (g.K.Disk.bytes c.args.disk.now) f new
    (subst (λ (n : List ℕ). ReadsText (files.held old n) most_program_bytes past_program (Rose (files.faults old) (files.faults new)) (Err f))
    c.as_str.ensures.value c.in_err-text.ensures.text)
    (subst (NamesGain (ran_out {A = List ℕ} (Err f)) (files.names old) (files.names new)) c.as_str.ensures.value c.in_err-text.ensures.names)
    c.in_err-text.ensures.opened)

pub returns-in_err-text-clause-stopped : goal.returns-in_err-text-clause-stopped
returns-in_err-text-clause-stopped g c text reading told read =
    let p = err_from_is_err_and c.from_residual.result c.from_residual.ensures.1 in
    let s = c.args.settings.now in
    let f = c.in_err-text.field-0.0 in
    let disk = c.args.disk.now in
    rw (p.1, p.2) (nothing_kept g.K.Disk s c.args.proto.now.types (kept_job s text c.args.proto.now.bytes.items)
    (g.F.Files.held c.args.files.now s.input) (status_of f) reading disk (not_done f) (g.met.K.Disk.only_now disk))

pub returns-in_err-text-clause-entries : goal.returns-in_err-text-clause-entries
returns-in_err-text-clause-entries g c =
    entries_untouched g.K.Disk (IsNameFor c.args.settings.now) c.args.disk.now (g.met.K.Disk.only_now c.args.disk.now)

-- the text is answered
pub returns-clause-value : goal.returns-clause-value
returns-clause-value g c =
    let s = c.args.settings.now in
    let files = g.F.Files in
    let old = c.args.files.now in
    let mid = c.read_program.new.files in
    let new = c.resume_text.new.files in
    let types = c.args.proto.now.types in
    let proto = c.args.proto.now.bytes.items in
    let journal = g.K.Disk.bytes c.args.disk.now in
    let bytes = c.in_ok-text.text.items in
    let answer = vec_items_of c.resume_text.result in
    text_resumed files s types proto old journal mid new bytes answer (Rose (files.faults old) (files.faults mid))
    (subst (λ (n : List ℕ). ReadsText (files.held old n) most_program_bytes past_program (Rose (files.faults old) (files.faults mid)) (Ok bytes))
    c.as_str.ensures.value c.in_ok-text.ensures.text)
    (c.in_ok-text.ensures.names ∙ ap (λ n. files.names old ++ n ∷ []) c.as_str.ensures.value)
    c.in_ok-text.ensures.kept c.resume_text.ensures.kept (c.in_ok-text.ensures.opened (λ e. cc) (λ e. cc))
    (subst (λ (t : List ℕ). AnswersJob files (IsTextOutcome s types t (kept_job s t proto) (files.held mid s.input) journal) (s.input ∷ []) but_one mid new
    answer) c.deref.ensures.value c.resume_text.ensures.value)

pub returns-clause-stopped : goal.returns-clause-stopped
returns-clause-stopped g c text reading told read =
    let s = c.args.settings.now in
    let files = g.F.Files in
    let old = c.args.files.now in
    let mid = c.read_program.new.files in
    let types = c.args.proto.now.types in
    let proto = c.args.proto.now.bytes.items in
    let st = status_of_answer (vec_items_of c.resume_text.result) in
    let same = text_told (files.held old s.program) text c.in_ok-text.text.items
    (Rose (files.faults old) (files.faults mid)) told
    (subst (λ (n : List ℕ). ReadsText (files.held old n) most_program_bytes past_program (Rose (files.faults old) (files.faults mid))
    (Ok c.in_ok-text.text.items)) c.as_str.ensures.value c.in_ok-text.ensures.text) in
    let here : c.deref.result.now ≡ text = c.deref.ensures.value ∙ same in
    subst (λ h. KeepsDisk g.K.Disk s (IfSpelled s types reading) (kept_job s text proto) h st c.args.disk.now c.resume_text.new.disk)
    (c.in_ok-text.ensures.kept.held_same s.input)
    (subst (λ (t : List ℕ). KeepsDisk g.K.Disk s (IfSpelled s types reading) (kept_job s t proto) (files.held mid s.input) st c.args.disk.now
    c.resume_text.new.disk) here
    (c.resume_text.ensures.stopped reading (subst (λ (t : List ℕ). IsRead t reading) (sym here) read)))

-- the program and the input were read to their ends
pub returns-clause-end : goal.returns-clause-end
returns-clause-end g c =
    let s = c.args.settings.now in
    both_when_ok c.resume_text.result
    (λ names end. subst (λ program. AreReadToEnd g.F.Files c.args.files.now c.resume_text.new.files (program ∷ s.input ∷ [])) c.as_str.ensures.value
    (both_read g.F.Files c.as_str.result.now c.args.files.now s.input c.read_program.new.files c.resume_text.new.files
    c.in_ok-text.ensures.names names c.in_ok-text.ensures.kept c.resume_text.ensures.kept c.in_ok-text.ensures.end end))
    c.resume_text.ensures.names c.resume_text.ensures.end
