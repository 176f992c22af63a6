-- The text is read as a program, which is answered.
use Rattle.std.proofs.Common.{◌≡◌, ap, subst, [], ◌∷◌, List, ℕ}
use Rattle.std.proofs.lemmas.Result.{err_from_is_err_and}
use Rattle.sz_tree.specs.View.{program_of}
use Rattle.sz_mean.specs.Marked.{marked}
use Rattle.sz_journal.specs.declared.job.JobBytes.{JobBytes}
use Rattle.szl.specs.declared.status.Status.TheVariants as status
use Rattle.szl.specs.Failing.{status_of}
use Rattle.szl.specs.Judgement.{spells}
use Rattle.szl.specs.JournalRuns.{AnswersJob, IsProgramOutcome, IfBegun, but_one}
use Rattle.szl.specs.Opening.{status_of_answer}
use Rattle.szl.specs.ProgramRuns.{vec_items_of}
use Rattle.szl.specs.ResumePromise.{IsNameFor, KeepsDisk}
use Rattle.szl.specs.Resuming.{kept_job}
use Rattle.szl.proofs.ResumeLemmas.{text_unread, program_refused, no_memory_for, program_resumed, nothing_kept, text_keeps}
use Rattle.szl.proofs.KeepLemmas.{not_done, entries_untouched, entries_named}
use Rattle.szl.proofs.resuming.resume_text.Goals as goal

-- the text has no tree
pub returns-in_err-tree-clause-value : goal.returns-in_err-tree-clause-value
returns-in_err-tree-clause-value g c =
    let p = err_from_is_err_and c.from_residual.result c.from_residual.ensures.1 in
    let s = c.args.settings.now in
    let text = c.args.text.now in
    rw (p.1, p.2) (text_unread g.F.Files s c.args.proto.now.types text (kept_job s text c.args.proto.now.bytes.items) c.args.files.now
    (g.K.Disk.bytes c.args.disk.now) c.in_err-tree.field-0.0 c.in_err-tree.ensures.refused)

pub returns-in_err-tree-clause-stopped : goal.returns-in_err-tree-clause-stopped
returns-in_err-tree-clause-stopped g c reading read =
    let p = err_from_is_err_and c.from_residual.result c.from_residual.ensures.1 in
    let s = c.args.settings.now in
    let f = c.in_err-tree.field-0.0 in
    let disk = c.args.disk.now in
    rw (p.1, p.2) (nothing_kept g.K.Disk s c.args.proto.now.types (kept_job s c.args.text.now c.args.proto.now.bytes.items)
    (g.F.Files.held c.args.files.now s.input) (status_of f) reading disk (not_done f) (g.met.K.Disk.only_now disk))

pub returns-in_err-tree-clause-entries : goal.returns-in_err-tree-clause-entries
returns-in_err-tree-clause-entries g c =
    entries_untouched g.K.Disk (IsNameFor c.args.settings.now) c.args.disk.now (g.met.K.Disk.only_now c.args.disk.now)

-- the tree is refused
pub returns-in_err-program-clause-value : goal.returns-in_err-program-clause-value
returns-in_err-program-clause-value g c =
    let p = err_from_is_err_and c.from_residual-in_err-program.result c.from_residual-in_err-program.ensures.1 in
    let s = c.args.settings.now in
    let text = c.args.text.now in
    rw (p.1, p.2) (program_refused g.F.Files s c.args.proto.now.types text (kept_job s text c.args.proto.now.bytes.items) c.args.files.now
    (g.K.Disk.bytes c.args.disk.now) (program_of c.in_ok-tree.tree) c.requires.short c.in_ok-tree.ensures.found c.in_err-program.field-0.0
    c.in_err-program.ensures.refused)

pub returns-in_err-program-clause-stopped : goal.returns-in_err-program-clause-stopped
returns-in_err-program-clause-stopped g c reading read =
    let p = err_from_is_err_and c.from_residual-in_err-program.result c.from_residual-in_err-program.ensures.1 in
    let s = c.args.settings.now in
    let f = c.in_err-program.field-0.0 in
    let disk = c.args.disk.now in
    rw (p.1, p.2) (nothing_kept g.K.Disk s c.args.proto.now.types (kept_job s c.args.text.now c.args.proto.now.bytes.items)
    (g.F.Files.held c.args.files.now s.input) (status_of f) reading disk (not_done f) (g.met.K.Disk.only_now disk))

pub returns-in_err-program-clause-entries : goal.returns-in_err-program-clause-entries
returns-in_err-program-clause-entries g c =
    entries_untouched g.K.Disk (IsNameFor c.args.settings.now) c.args.disk.now (g.met.K.Disk.only_now c.args.disk.now)

-- there was no memory for the job's bytes
pub returns-in_err-bytes-clause-value : goal.returns-in_err-bytes-clause-value
returns-in_err-bytes-clause-value g c =
    let p = err_from_is_err_and c.from_residual-in_err-bytes.result c.from_residual-in_err-bytes.ensures.1 in
    let s = c.args.settings.now in
    let text = c.args.text.now in
    rw (p.1, p.2) (no_memory_for g.F.Files s c.args.proto.now.types text (kept_job s text c.args.proto.now.bytes.items) c.args.files.now
    (g.K.Disk.bytes c.args.disk.now) (spells (program_of c.in_ok-tree.tree)) (c.requires.short, c.in_ok-tree.ensures.found))

pub returns-in_err-bytes-clause-stopped : goal.returns-in_err-bytes-clause-stopped
returns-in_err-bytes-clause-stopped g c reading read =
    let p = err_from_is_err_and c.from_residual-in_err-bytes.result c.from_residual-in_err-bytes.ensures.1 in
    let s = c.args.settings.now in
    let disk = c.args.disk.now in
    rw (p.1, p.2) (nothing_kept g.K.Disk s c.args.proto.now.types (kept_job s c.args.text.now c.args.proto.now.bytes.items)
    (g.F.Files.held c.args.files.now s.input) status.NoMemory reading disk (λ e. cc) (g.met.K.Disk.only_now disk))

pub returns-in_err-bytes-clause-entries : goal.returns-in_err-bytes-clause-entries
returns-in_err-bytes-clause-entries g c =
    entries_untouched g.K.Disk (IsNameFor c.args.settings.now) c.args.disk.now (g.met.K.Disk.only_now c.args.disk.now)

-- the program's tables can be saved, and the job's numbers are those of the settings
pub resume_program-requires-clause-can_save : goal.resume_program-requires-clause-can_save
resume_program-requires-clause-can_save g c κs within = c.in_ok-program.ensures.spelled c.args.text.now c.requires.short c.in_ok-tree.ensures.found

pub resume_program-requires-clause-budget : goal.resume_program-requires-clause-budget
resume_program-requires-clause-budget g c κs within = ap (λ (n : JobBytes). n.budget) c.in_ok-bytes.ensures.value

pub resume_program-requires-clause-skip : goal.resume_program-requires-clause-skip
resume_program-requires-clause-skip g c κs within = ap (λ (n : JobBytes). n.skip) c.in_ok-bytes.ensures.value

-- the program is answered
pub returns-clause-value : goal.returns-clause-value
returns-clause-value g c =
    let s = c.args.settings.now in
    let text = c.args.text.now in
    let old = c.args.files.now in
    let new = c.resume_program.new.files in
    let program = marked c.in_ok-program.program s.ignore_undefs in
    let answer = vec_items_of c.resume_program.result in
    let journal = g.K.Disk.bytes c.args.disk.now in
    let name_is = subst (λ (b : List ℕ). c.in_ok-bytes.bytes ≡ kept_job s text b) c.deref.ensures.value c.in_ok-bytes.ensures.value in
    program_resumed g.F.Files s c.args.proto.now.types text (kept_job s text c.args.proto.now.bytes.items) old journal (program_of c.in_ok-tree.tree)
    c.requires.short c.in_ok-tree.ensures.found new program answer c.in_ok-program.ensures.found
    (subst (λ n. AnswersJob g.F.Files (IsProgramOutcome s program n (g.F.Files.held old s.input) journal) (s.input ∷ []) but_one old new answer) name_is
    c.resume_program.ensures.value)

pub returns-clause-stopped : goal.returns-clause-stopped
returns-clause-stopped g c reading read =
    let s = c.args.settings.now in
    let text = c.args.text.now in
    let old = c.args.files.now in
    let program = marked c.in_ok-program.program s.ignore_undefs in
    let st = status_of_answer (vec_items_of c.resume_program.result) in
    let told = g.F.Files.held old s.input in
    let disk = c.args.disk.now in
    let new = c.resume_program.new.disk in
    let name = kept_job s text c.args.proto.now.bytes.items in
    let name_is = subst (λ (b : List ℕ). c.in_ok-bytes.bytes ≡ kept_job s text b) c.deref.ensures.value c.in_ok-bytes.ensures.value in
    text_keeps g.K.Disk s c.args.proto.now.types name told st text (program_of c.in_ok-tree.tree) program reading disk new c.requires.short
    c.in_ok-tree.ensures.found c.in_ok-program.ensures.found read
    (subst (λ n. KeepsDisk g.K.Disk s (IfBegun s program) n told st disk new) name_is c.resume_program.ensures.stopped)

pub returns-clause-entries : goal.returns-clause-entries
returns-clause-entries g c =
    let s = c.args.settings.now in
    let text = c.args.text.now in
    let name_is = subst (λ (b : List ℕ). c.in_ok-bytes.bytes ≡ kept_job s text b) c.deref.ensures.value c.in_ok-bytes.ensures.value in
    entries_named g.K.Disk s c.in_ok-bytes.bytes text c.args.proto.now.bytes.items name_is c.args.disk.now c.resume_program.new.disk
    c.resume_program.ensures.stopped.entries
