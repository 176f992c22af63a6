-- A job that is resumed is made as the settings ask for it.
use Rattle.std.proofs.Common.{refl, sym, ap, subst}
use Rattle.std.proofs.lemmas.Result.{err_from_is_err_and}
use Rattle.sz_attempt.specs.declared.job.Job.{Job}
use Rattle.sz_mean.specs.Marked.{all_tables}
use Rattle.sz_save.specs.Saving.{HaveSpelling}
use Rattle.szl.proofs.resuming.resumed_job.Goals as goal

-- a static faults, or there was no memory
pub returns-in_err-job : goal.returns-in_err-job
returns-in_err-job c =
    let p = err_from_is_err_and c.from_residual.result c.from_residual.ensures.1 in
    rw (p.1, p.2) (record { value = c.in_err-job.ensures.value })

-- its tables can be saved
pub returns : goal.returns
returns c =
    let made = c.in_ok-job.ensures.value in
    record {
      value = record {
        is_for = made;
        read_as = record { frame = refl; shard = refl };
        can_resume = record {
          is_job = made.can_run;
          attempts = made.attempts;
          are_workers = made.are_workers;
          some = c.requires.bounds.shard;
          spelled = subst HaveSpelling (sym (ap (λ (j : Job). all_tables j.compiled) made.is_job_of.same)) (c.requires.can_save refl);
        };
      };
    }
