use Rattle.std.proofs.Common.{◌≡◌, ◌∙◌, sym, ap, subst, map, rules}
use Rattle.std.specs.Prelude.{string_bytes, Err}
use Rattle.sz_io.specs.Rose.{Rose}
use Rattle.sz_words.specs.Settings.{settings_in}
use Rattle.szl.specs.declared.status.Status.TheVariants as status
use Rattle.szl.specs.Opening.{status_of_answer}
use Rattle.szl.specs.Promise.{MeansSource}
use Rattle.szl.specs.ProgramRuns.{vec_items_of}
use Rattle.szl.specs.ResumePromise.{IfJob, MeansJob, KeepsJournal, job_asked}
use Rattle.szl.proofs.MainLemmas.{means_done, means_failure}
use Rattle.szl.proofs.CompleteLemmas.{completes}
use Rattle.szl.proofs.SavedLemmas.{printed_saves}
use Rattle.szl.proofs.ResumedMainLemmas.{job_done, job_failed, each_job, completes_job, keeps_under, printed_done, read_told, write_told}
use Rattle.szl.proofs.KeepLemmas.{not_done}
use Rattle.szl.proofs.top.szl_disk_main_on.Goals as goal

-- a failure is told
pub returns-in-Err-clause-outcome : goal.returns-in-Err-clause-outcome
returns-in-Err-clause-outcome g c =
    let words = map string_bytes c.args.words.now in
    let files = g.F.Files in
    let out = g.O.Sink in
    let err = g.E.Sink in
    let old = c.args.files.now in
    let new = c.answer_on_disk-answer.new.files in
    let made = vec_items_of c.answer_on_disk-answer.result in
    let disk = c.args.disk.now in
    subst (λ st. IfJob (job_asked c.args.setup.has_disk (settings_in words))
    (λ s. MeansJob files out err g.K.Disk s st old new c.args.out.now c.print.new.out c.args.err.now c.tell.new.err disk)
    (MeansSource files out err words st old new c.args.out.now c.print.new.out c.args.err.now c.tell.new.err)) (sym c.status.ensures.value)
    (each_job (job_asked c.args.setup.has_disk (settings_in words)) _ _ _ _
    (λ s a. job_failed files g.K.Disk s old disk out err new c.args.out.now c.print.new.out c.args.err.now c.tell.new.err c.in-Err.failure c.tell.result made a
    c.in-Err.ensures.value c.in-Err.ensures.nothing c.tell.ensures.told c.tell.ensures.line)
    (λ a. means_failure files out err words old new c.args.out.now c.print.new.out c.args.err.now c.tell.new.err c.in-Err.failure c.tell.result made a
    c.in-Err.ensures.value c.in-Err.ensures.nothing c.tell.ensures.told c.tell.ensures.line)
    c.answer_on_disk-answer.ensures.value)

pub returns-in-Err-clause-journal : goal.returns-in-Err-clause-journal
returns-in-Err-clause-journal g c =
    let made = vec_items_of c.answer_on_disk-answer.result in
    subst (λ st. IfJob (job_asked c.args.setup.has_disk (settings_in (map string_bytes c.args.words.now)))
    (λ s. KeepsJournal g.F.Files g.K.Disk s st c.args.files.now c.args.disk.now c.answer_on_disk-answer.new.disk)
    (c.answer_on_disk-answer.new.disk ≡ c.args.disk.now)) (sym c.status.ensures.value)
    (each_job (job_asked c.args.setup.has_disk (settings_in (map string_bytes c.args.words.now))) _ _ _ _
    (λ s k. keeps_under g.F.Files g.K.Disk s (status_of_answer made) _ c.args.files.now c.args.disk.now c.answer_on_disk-answer.new.disk
    (λ e. absurd (not_done c.tell.result e)) k) (λ same. same) c.answer_on_disk-answer.ensures.stopped)

-- all is printed
pub returns-in-Ok-clause-outcome : goal.returns-in-Ok-clause-outcome
returns-in-Ok-clause-outcome g c =
    let words = map string_bytes c.args.words.now in
    let files = g.F.Files in
    let old = c.args.files.now in
    let new = c.answer_on_disk-answer.new.files in
    let made = vec_items_of c.answer_on_disk-answer.result in
    each_job (job_asked c.args.setup.has_disk (settings_in words)) _ _ _ _
    (λ s a. job_done files g.K.Disk s old c.args.disk.now g.O.Sink g.E.Sink new c.args.out.now c.print.new.out c.args.err.now made c.in-Ok.field-0 a
    c.in-Ok.ensures.value c.in-Ok.ensures.nothing)
    (λ a. means_done files g.O.Sink g.E.Sink words old new c.args.out.now c.print.new.out c.args.err.now made c.in-Ok.field-0 a c.in-Ok.ensures.value
    c.in-Ok.ensures.nothing)
    c.answer_on_disk-answer.ensures.value

pub returns-in-Ok-clause-journal : goal.returns-in-Ok-clause-journal
returns-in-Ok-clause-journal g c =
    let made = vec_items_of c.answer_on_disk-answer.result in
    each_job (job_asked c.args.setup.has_disk (settings_in (map string_bytes c.args.words.now))) _ _ _ _
    (λ s k. keeps_under g.F.Files g.K.Disk s (status_of_answer made) _ c.args.files.now c.args.disk.now c.answer_on_disk-answer.new.disk
    (λ e. printed_done made c.in-Ok.field-0 _ _ c.in-Ok.ensures.value) k) (λ same. same) c.answer_on_disk-answer.ensures.stopped

-- a line is written of a failure alone
pub returns-in-Err-clause-quiet : goal.returns-in-Err-clause-quiet
returns-in-Err-clause-quiet g c is = absurd (not_done c.tell.result (sym c.status.ensures.value ∙ is))

-- what was printed is what was saved
pub returns-in-Ok-clause-saved : goal.returns-in-Ok-clause-saved
returns-in-Ok-clause-saved g c done =
    printed_saves g.F.Files (g.O.Sink.taken c.args.out.now) (g.O.Sink.taken c.print.new.out) c.args.files.now (settings_in (map string_bytes c.args.words.now))
    c.answer_on_disk-answer.result c.in-Ok.field-0 c.in-Ok.ensures.value c.answer_on_disk-answer.ensures.saved

-- a read or a write that failed was counted
pub returns-in-Err-clause-read_failed : goal.returns-in-Err-clause-read_failed
returns-in-Err-clause-read_failed g c is =
    read_told g.F.Files g.K.Disk c.args.files.now c.answer_on_disk-answer.new.files c.args.disk.now
    (job_asked c.args.setup.has_disk (settings_in (map string_bytes c.args.words.now))) (settings_in (map string_bytes c.args.words.now))
    (vec_items_of c.answer_on_disk-answer.result) c.answer_on_disk-answer.ensures.value c.in-Err.failure c.tell.result c.tell.ensures.told
    (g.O.Sink.taken c.args.out.now) (g.O.Sink.taken c.print.new.out) c.in-Err.ensures.value (sym c.status.ensures.value ∙ is)

pub returns-in-Err-clause-write_failed : goal.returns-in-Err-clause-write_failed
returns-in-Err-clause-write_failed g c is =
    write_told g.F.Files g.K.Disk c.args.files.now c.answer_on_disk-answer.new.files c.args.disk.now
    (job_asked c.args.setup.has_disk (settings_in (map string_bytes c.args.words.now))) (settings_in (map string_bytes c.args.words.now))
    (vec_items_of c.answer_on_disk-answer.result) c.answer_on_disk-answer.ensures.value c.in-Err.failure c.tell.result c.tell.ensures.told
    (g.O.Sink.taken c.args.out.now) (g.O.Sink.taken c.print.new.out) c.in-Err.ensures.value
    (Rose (g.O.Sink.faults c.args.out.now) (g.O.Sink.faults c.print.new.out)) (λ same. c.in-Err.ensures.failed (ap Err same))
    (sym c.status.ensures.value ∙ is)

pub returns-in-Err-clause-disk_failed : goal.returns-in-Err-clause-disk_failed
returns-in-Err-clause-disk_failed g c = search rules

-- so where none was counted, and none of the disk, none stands in the outcome's place
pub returns-in-Err-clause-complete : goal.returns-in-Err-clause-complete
returns-in-Err-clause-complete g c no_read no_write =
    let words = map string_bytes c.args.words.now in
    each_job (job_asked c.args.setup.has_disk (settings_in words)) _ _ _ _
    (λ s m no_disk. completes_job g.F.Files g.O.Sink g.E.Sink g.K.Disk s c.status.result c.args.files.now c.answer_on_disk-answer.new.files
    c.args.out.now c.print.new.out c.args.err.now c.tell.new.err c.args.disk.now m (λ is. no_read (returns-in-Err-clause-read_failed g c is))
    (λ is. no_write (returns-in-Err-clause-write_failed g c is)) (λ is. no_disk (returns-in-Err-clause-disk_failed g c is)))
    (λ m. completes g.F.Files g.O.Sink g.E.Sink words c.status.result c.args.files.now c.answer_on_disk-answer.new.files c.args.out.now
    c.print.new.out c.args.err.now c.tell.new.err m (λ is. no_read (returns-in-Err-clause-read_failed g c is))
    (λ is. no_write (returns-in-Err-clause-write_failed g c is)))
    (returns-in-Err-clause-outcome g c)

pub returns-in-Ok-clause-complete : goal.returns-in-Ok-clause-complete
returns-in-Ok-clause-complete g c no_read no_write =
    let words = map string_bytes c.args.words.now in
    each_job (job_asked c.args.setup.has_disk (settings_in words)) _ _ _ _
    (λ s m no_disk. completes_job g.F.Files g.O.Sink g.E.Sink g.K.Disk s status.Done c.args.files.now c.answer_on_disk-answer.new.files
    c.args.out.now c.print.new.out c.args.err.now c.args.err.now c.args.disk.now m (λ is. cc) (λ is. cc) (λ is. cc))
    (λ m. completes g.F.Files g.O.Sink g.E.Sink words status.Done c.args.files.now c.answer_on_disk-answer.new.files c.args.out.now
    c.print.new.out c.args.err.now c.args.err.now m (λ is. cc) (λ is. cc))
    (returns-in-Ok-clause-outcome g c)
