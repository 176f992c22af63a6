use Rattle.std.proofs.Common.{sym, ap, subst}
use Rattle.std.proofs.lemmas.Result.{err_from_is_err_and}
use Rattle.sz_mean.specs.Marked.{marked}
use Rattle.sz_attempt.specs.declared.job.Job.{Job}
use Rattle.szl.specs.ProgramRuns.{CanSave, vec_items_of}
use Rattle.szl.proofs.AnswerLemmas.{static_fails, input_run}
use Rattle.szl.proofs.SavedLemmas.{map_ok, program_saves}
use Rattle.szl.proofs.answer.answer_program.Goals as goal

-- a static faults, or there was no memory for the job
pub returns-in_err-job-clause-value : goal.returns-in_err-job-clause-value
returns-in_err-job-clause-value g c =
    let p = err_from_is_err_and c.from_residual.result c.from_residual.ensures.1 in
    let s = c.args.settings.now in
    rw (p.1, p.2) (static_fails g.F.Files s.frame s.input c.args.files.now (marked c.args.program s.ignore_undefs) s c.in_err-job.field-0.0
    c.in_err-job.ensures.value)

-- the job can be run
pub tables_of_file-requires-clause-job : goal.tables_of_file-requires-clause-job
tables_of_file-requires-clause-job g c κs within = c.in_ok-job.ensures.value.can_run

pub tables_of_file-requires-clause-attempts : goal.tables_of_file-requires-clause-attempts
tables_of_file-requires-clause-attempts g c κs within = c.in_ok-job.ensures.value.attempts

pub tables_of_file-requires-clause-workers : goal.tables_of_file-requires-clause-workers
tables_of_file-requires-clause-workers g c κs within = c.in_ok-job.ensures.value.are_workers

-- its tables can be saved, if they are to be
pub tables_of_file-requires-clause-can_save : goal.tables_of_file-requires-clause-can_save
tables_of_file-requires-clause-can_save g c κs within =
    subst (CanSave c.args.settings.now.save) (sym (ap (λ (j : Job). j.compiled) c.in_ok-job.ensures.value.is_job_of.same)) c.requires.can_save

-- the program was run over the input
pub returns-clause-value : goal.returns-clause-value
returns-clause-value g c =
    let s = c.args.settings.now in
    let made = c.in_ok-job.ensures.value in
    input_run g.F.Files c.args.files.now c.tables_of_file.new.files (marked c.args.program s.ignore_undefs) s made.slots made.means
    (vec_items_of c.tables_of_file.result) c.in_ok-job.job made.is_job_of c.tables_of_file.ensures.value

-- and its tables were saved
pub returns-clause-saved : goal.returns-clause-saved
returns-clause-saved g c =
    let s = c.args.settings.now in
    let made = c.in_ok-job.ensures.value in
    map_ok c.tables_of_file.result
    (λ bytes saves saving. program_saves g.F.Files (marked c.args.program s.ignore_undefs) s c.requires.bounds made.slots made.means c.in_ok-job.job
    made.is_job_of c.args.files.now bytes.items (saves saving))
    c.tables_of_file.ensures.saved
