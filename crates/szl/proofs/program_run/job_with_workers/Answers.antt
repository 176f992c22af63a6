use Rattle.std.proofs.Common.{sym, ap, subst}
use Rattle.std.proofs.lemmas.Result.{err_from_is_err_and}
use Rattle.std.specs.Prelude.{Ok, Err, ◌≤◌}
use Rattle.sz_core.specs.Sound.{IsSound}
use Rattle.sz_mean.specs.Marked.{Marked}
use Rattle.sz_attempt.specs.declared.job.Job.{Job}
use Rattle.szl.specs.ProgramRuns.{GivesStatics, IsJobOf}
use Rattle.szl.proofs.AnswerLemmas.{is_job}
use Rattle.szl.proofs.program_run.job_with_workers.Goals as goal

-- there was no memory for the code
pub returns-in_err-compiled : goal.returns-in_err-compiled
returns-in_err-compiled c = let p = err_from_is_err_and c.from_residual.result c.from_residual.ensures.1 in record { value = rw (p.1, p.2) tt }

-- a static faults
pub returns-in_err-statics : goal.returns-in_err-statics
returns-in_err-statics c =
    let p = err_from_is_err_and c.from_residual-in_err-statics.result c.from_residual-in_err-statics.ensures.1 in
    record {
      value = rw (p.1, p.2) (subst (λ program. GivesStatics program c.args.settings.now.budget (Err c.in_err-statics.field-0.0))
          c.in_ok-compiled.ensures.value c.in_err-statics.ensures.value);
    }

-- there was no memory for the job
pub returns-in_err-job : goal.returns-in_err-job
returns-in_err-job c =
    let p = err_from_is_err_and c.from_residual-in_err-job.result c.from_residual-in_err-job.ensures.1 in record { value = rw (p.1, p.2) tt }

-- the job has the program's statics, and can be run
pub returns : goal.returns
returns c =
    let s = c.args.settings.now in
    let slots = c.in_ok-statics.statics in
    let job = c.in_ok-job.job in
    record {
      value = record {
        slots = slots;
        means = subst (λ program. GivesStatics program s.budget (Ok slots)) c.in_ok-compiled.ensures.value c.in_ok-statics.ensures.value;
        is_job_of = subst (λ program. IsJobOf program slots s job) c.in_ok-compiled.ensures.value c.in_ok-job.ensures.value;
        can_run = is_job c.in_ok-compiled.compiled slots s job c.in_ok-job.ensures.value
            (subst (λ (m : Marked). IsSound m.core) (sym c.in_ok-compiled.ensures.value) c.requires.sound) c.in_ok-statics.ensures.fit c.requires.bounds;
        attempts = subst (λ n. (1 ≤ n) × (n ≤ 8)) (sym (ap (λ (j : Job). j.attempts) c.in_ok-job.ensures.value.same))
            (c.requires.bounds.least_attempts, c.requires.bounds.most_attempts);
        are_workers = (c.workers_for-workers.ensures.some, c.workers_for-workers.ensures.most);
      };
    }
