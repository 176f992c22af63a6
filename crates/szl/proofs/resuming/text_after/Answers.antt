-- The input is opened, and run on after the rounds of the journal.
use Rattle.std.proofs.Common.{◌≡◌, [], ◌++◌, refl, ap, ◌∙◌, subst, arith}
use Rattle.std.specs.Prelude.{Err, Ok, IfSome, IsSome}
use Rattle.std.proofs.lemmas.Result.{err_from_is_err_and}
use Rattle.sz_io.specs.Opened.{names_after}
use Rattle.sz_mean.specs.Marked.{all_tables}
use Rattle.sz_journal.specs.Journal.{rounds_of}
use Rattle.sz_resume.specs.Runs.{TellsShort}
use Rattle.szl.specs.declared.status.Status.TheVariants as status
use Rattle.szl.specs.Failing.{status_of}
use Rattle.szl.specs.JournalRuns.{failure_of_halt}
use Rattle.szl.specs.ProgramRuns.{failure_of_opening}
use Rattle.szl.specs.Resuming.{source_of}
use Rattle.szl.proofs.AfterRoundsLemmas.{unopened, no_memory, halted, texts, gate_of}
use Rattle.szl.proofs.FileLemmas.{rose_since, keeps_opened, opens_one, read_to_end}
use Rattle.szl.proofs.KeepLemmas.{keeps_none, keeps_stopped, keeps_ended, not_done, rounds_untouched}
use Rattle.szl.proofs.OpenedLemmas.{opened_one}
use Rattle.szl.proofs.ResumedJobLemmas.{some_records, runs_as, found_as, left_as, held_as}
use Rattle.szl.proofs.resuming.text_after.Goals as goal

-- the file couldn't be opened
pub returns-in_err-file-clause-value : goal.returns-in_err-file-clause-value
returns-in_err-file-clause-value g c name is_of =
    let p = err_from_is_err_and c.from_residual.result c.from_residual.ensures.1 in
    let files = g.F.Files in
    let old = c.args.files.now in
    let e = c.in_err-file.field-0.0 in
    rw (p.1, p.2) (unopened files c.args.settings.now c.args.run.now.job name (rounds_of c.args.journal.now.tail) old c.open_file.new.self
    (g.K.Disk.bytes c.args.disk.now) e (λ is. c.in_err-file.ensures.failed (ap Err is))
    (c.in_err-file.ensures.names ∙ ap (λ name. names_after (files.names old) name (Err e)) c.as_str.ensures.value))

pub returns-in_err-file-clause-stopped : goal.returns-in_err-file-clause-stopped
returns-in_err-file-clause-stopped g c input held name told rests is_of found =
    let p = err_from_is_err_and c.from_residual.result c.from_residual.ensures.1 in
    let f = failure_of_opening c.in_err-file.field-0.0 in
    let disk = c.args.disk.now in
    rw (p.1, p.2) (keeps_none name c.args.run.now.job (source_of c.args.settings.now input) g.K.Disk held (rounds_of c.args.journal.now.tail) found (status_of f)
    (not_done f) disk (g.met.K.Disk.only_now disk))

pub returns-in_err-file-clause-entries : goal.returns-in_err-file-clause-entries
returns-in_err-file-clause-entries g c name held rests is_told is_of =
    let disk = c.args.disk.now in
    rounds_untouched g.K.Disk name (all_tables c.args.run.now.job.compiled) (rounds_of c.args.journal.now.tail) disk held (g.met.K.Disk.only_now disk) rests is_told
    is_of.spells

-- there are no tables
pub returns-in_err-all-clause-value : goal.returns-in_err-all-clause-value
returns-in_err-all-clause-value g c name is_of =
    let p = err_from_is_err_and c.from_residual-in_err-all.result c.from_residual-in_err-all.ensures.1 in
    let files = g.F.Files in
    let job = c.args.run.now.job in
    let s = c.args.settings.now in
    let old = c.args.files.now in
    let mid = c.open_file.new.self in
    let new = c.resume_file.new.files in
    let file = c.in_ok-file.file in
    let halt = c.in_err-all.field-0.0 in
    let j = c.args.journal.now.tail in
    let held = c.in_ok-file.ensures.bytes ∙ ap (files.held old) c.as_str.ensures.value in
    let names = c.resume_file.ensures.kept.names_same
    ∙ c.in_ok-file.ensures.names ∙ ap (λ name. names_after (files.names old) name (Ok file)) c.as_str.ensures.value in
    let one = opens_one files job s old mid new file c.in_ok-file.ensures.fresh c.open_file.ensures.kept c.resume_file.ensures.kept
    c.in_ok-file.ensures.given in
    rw (p.1, p.2) (halted files s job name (rounds_of j) old new (g.K.Disk.bytes c.args.disk.now)
    (some_records s c.args.run.now c.requires.read_as c.requires.can_resume.some) j refl halt
    (runs_as s c.args.run.now c.requires.read_as name j (files.held old s.input) (g.K.Disk.bytes c.args.disk.now) (Err halt)
    (λ bytes image told there found. c.in_err-all.ensures.value bytes image name (held ∙ told) there found))
    (subst (λ h. IfSome h (λ input. TellsShort j input (Err halt))) held c.in_err-all.ensures.short)
    (λ gate is. let at = c.in_err-all.ensures.gate gate (ap Err is) in (at.0 ∙ gate_of name j is_of at.1, at.1))
    (λ is. rose_since files job s old mid new c.open_file.ensures.kept.faults_later (c.in_err-all.ensures.failed (ap Err is)))
    (opened_one files old new s.input [] 1 _ (omega arith) names (λ read memory. refl) (λ read memory. one)))

pub returns-in_err-all-clause-stopped : goal.returns-in_err-all-clause-stopped
returns-in_err-all-clause-stopped g c input held name told rests is_of found =
    let s = c.args.settings.now in
    let run = c.args.run.now in
    let read_as = c.requires.read_as in
    let rounds = rounds_of c.args.journal.now.tail in
    let p = err_from_is_err_and c.from_residual-in_err-all.result c.from_residual-in_err-all.ensures.1 in
    let files = g.F.Files in
    let f = failure_of_halt c.in_err-all.field-0.0 in
    let left = c.in_ok-file.ensures.bytes ∙ ap (files.held c.args.files.now) c.as_str.ensures.value ∙ told in
    rw (p.1, p.2) (keeps_stopped name c.args.run.now.job (source_of c.args.settings.now input) g.K.Disk held (rounds_of c.args.journal.now.tail) (status_of f)
    c.args.disk.now c.resume_file.new.disk (not_done f) (λ is_told. left_as s run read_as g.K.Disk name held rounds input (λ added. Unit {0}) c.args.disk.now c.resume_file.new.disk
    (c.in_err-all.ensures.stopped input held name left rests is_told is_of (found_as s run read_as name held rounds input found))))

-- there was no memory for the text
pub returns-in_err-text_of-clause-value : goal.returns-in_err-text_of-clause-value
returns-in_err-text_of-clause-value g c name is_of =
    let p = err_from_is_err_and c.from_residual-in_err-text_of.result c.from_residual-in_err-text_of.ensures.1 in
    let files = g.F.Files in
    let job = c.args.run.now.job in
    let s = c.args.settings.now in
    let old = c.args.files.now in
    let mid = c.open_file.new.self in
    let new = c.resume_file.new.files in
    let file = c.in_ok-file.file in
    let names = c.resume_file.ensures.kept.names_same
    ∙ c.in_ok-file.ensures.names ∙ ap (λ name. names_after (files.names old) name (Ok file)) c.as_str.ensures.value in
    let one = opens_one files job s old mid new file c.in_ok-file.ensures.fresh c.open_file.ensures.kept c.resume_file.ensures.kept
    c.in_ok-file.ensures.given in
    rw (p.1, p.2) (no_memory files s job name (rounds_of c.args.journal.now.tail) old new (g.K.Disk.bytes c.args.disk.now)
    (opened_one files old new s.input [] 1 status.NoMemory (omega arith) names (λ read memory. refl) (λ read memory. one)))

pub returns-in_err-text_of-clause-stopped : goal.returns-in_err-text_of-clause-stopped
returns-in_err-text_of-clause-stopped g c input held name told rests is_of found =
    let s = c.args.settings.now in
    let run = c.args.run.now in
    let read_as = c.requires.read_as in
    let rounds = rounds_of c.args.journal.now.tail in
    let now = rounds_of c.resume_file.new.journal.tail in
    let p = err_from_is_err_and c.from_residual-in_err-text_of.result c.from_residual-in_err-text_of.ensures.1 in
    let files = g.F.Files in
    let left = c.in_ok-file.ensures.bytes ∙ ap (files.held c.args.files.now) c.as_str.ensures.value ∙ told in
    rw (p.1, p.2) (keeps_ended name c.args.run.now.job (source_of c.args.settings.now input) g.K.Disk held (rounds_of c.args.journal.now.tail) status.NoMemory
    c.args.disk.now c.resume_file.new.disk (rounds_of c.resume_file.new.journal.tail) (λ is_told. left_as s run read_as g.K.Disk name held rounds input (λ added. now ≡ rounds ++ added) c.args.disk.now c.resume_file.new.disk
    (c.in_ok-all.ensures.stopped input held name left rests is_told is_of (found_as s run read_as name held rounds input found))) c.in_ok-all.ensures.grows
    (held_as s run read_as g.K.Disk name input c.resume_file.new.disk now
    (c.in_ok-all.ensures.ended input held name left rests is_of (found_as s run read_as name held rounds input found))))

-- the text is that of all tables
pub returns-clause-value : goal.returns-clause-value
returns-clause-value g c name is_of =
    let files = g.F.Files in
    let job = c.args.run.now.job in
    let s = c.args.settings.now in
    let old = c.args.files.now in
    let mid = c.open_file.new.self in
    let new = c.resume_file.new.files in
    let file = c.in_ok-file.file in
    let all = c.in_ok-all.all in
    let j = c.args.journal.now.tail in
    let held = c.in_ok-file.ensures.bytes ∙ ap (files.held old) c.as_str.ensures.value in
    let names = c.resume_file.ensures.kept.names_same
    ∙ c.in_ok-file.ensures.names ∙ ap (λ name. names_after (files.names old) name (Ok file)) c.as_str.ensures.value in
    let one = opens_one files job s old mid new file c.in_ok-file.ensures.fresh c.open_file.ensures.kept c.resume_file.ensures.kept
    c.in_ok-file.ensures.given in
    texts files s job name (rounds_of j) old new (g.K.Disk.bytes c.args.disk.now) (some_records s c.args.run.now c.requires.read_as c.requires.can_resume.some) j refl all
    c.in_ok-text_of.field-0.items
    (runs_as s c.args.run.now c.requires.read_as name j (files.held old s.input) (g.K.Disk.bytes c.args.disk.now) (Ok all)
    (λ bytes image told there found. c.in_ok-all.ensures.value bytes image name (held ∙ told) there found))
    (subst (λ h. IfSome h (λ input. TellsShort j input (Ok all))) held c.in_ok-all.ensures.short)
    c.in_ok-text_of.ensures.value
    (opened_one files old new s.input [] 1 status.Done (omega arith) names (λ read memory. refl) (λ read memory. one))

pub returns-clause-stopped : goal.returns-clause-stopped
returns-clause-stopped g c input held name told rests is_of found =
    let s = c.args.settings.now in
    let run = c.args.run.now in
    let read_as = c.requires.read_as in
    let rounds = rounds_of c.args.journal.now.tail in
    let now = rounds_of c.resume_file.new.journal.tail in
    let files = g.F.Files in
    let left = c.in_ok-file.ensures.bytes ∙ ap (files.held c.args.files.now) c.as_str.ensures.value ∙ told in
    keeps_ended name c.args.run.now.job (source_of c.args.settings.now input) g.K.Disk held (rounds_of c.args.journal.now.tail) status.Done
    c.args.disk.now c.resume_file.new.disk (rounds_of c.resume_file.new.journal.tail) (λ is_told. left_as s run read_as g.K.Disk name held rounds input (λ added. now ≡ rounds ++ added) c.args.disk.now c.resume_file.new.disk
    (c.in_ok-all.ensures.stopped input held name left rests is_told is_of (found_as s run read_as name held rounds input found))) c.in_ok-all.ensures.grows
    (held_as s run read_as g.K.Disk name input c.resume_file.new.disk now
    (c.in_ok-all.ensures.ended input held name left rests is_of (found_as s run read_as name held rounds input found)))

-- all other files are as they were
pub returns-in_err-all-clause-kept : goal.returns-in_err-all-clause-kept
returns-in_err-all-clause-kept g c =
    keeps_opened g.F.Files c.args.run.now.job c.args.settings.now c.args.files.now c.open_file.new.self c.resume_file.new.files c.in_ok-file.file
    c.in_ok-file.ensures.fresh c.open_file.ensures.kept c.resume_file.ensures.kept

pub returns-in_err-text_of-clause-kept : goal.returns-in_err-text_of-clause-kept
returns-in_err-text_of-clause-kept g c =
    keeps_opened g.F.Files c.args.run.now.job c.args.settings.now c.args.files.now c.open_file.new.self c.resume_file.new.files c.in_ok-file.file
    c.in_ok-file.ensures.fresh c.open_file.ensures.kept c.resume_file.ensures.kept

pub returns-clause-kept : goal.returns-clause-kept
returns-clause-kept g c =
    keeps_opened g.F.Files c.args.run.now.job c.args.settings.now c.args.files.now c.open_file.new.self c.resume_file.new.files c.in_ok-file.file
    c.in_ok-file.ensures.fresh c.open_file.ensures.kept c.resume_file.ensures.kept

-- the file is at its end
pub returns-clause-end : goal.returns-clause-end
returns-clause-end g c =
    let files = g.F.Files in
    let old = c.args.files.now in
    let new = c.resume_file.new.files in
    let file = c.in_ok-file.file in
    let bytes = c.in_ok-file.ensures.bytes ∙ ap (files.held old) c.as_str.ensures.value in
    read_to_end files c.args.run.now.job c.args.settings.now old c.open_file.new.self new file c.in_ok-file.ensures.fresh c.open_file.ensures.kept
    c.resume_file.ensures.kept c.in_ok-file.ensures.given c.in_ok-all.ensures.end
    (subst (λ h. IfSome h (λ _. IsSome (files.left new file))) bytes c.in_ok-all.ensures.told)
