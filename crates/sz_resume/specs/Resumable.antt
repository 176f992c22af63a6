-- A job that is resumed: what has to be so of it, and what it is run over.
use Rattle.std.specs.Prelude.{ℕ, ◌≤◌, List}
use Rattle.sz_mean.specs.Marked.{all_tables}
use Rattle.sz_save.specs.Saving.{HaveSpelling}
use Rattle.sz_attempt.specs.Shards.{IsJob}
use Rattle.sz_resume.specs.declared.resumed_job.ResumedJob.{ResumedJob}
use Rattle.sz_resume.specs.Standing.{Source}

-- The job can be resumed: so many workers can run it over such shards, and each of its rounds can be saved
pub record CanResume (run : ResumedJob) : Type 0 where
  pub is_job : IsJob run.job
  pub attempts : (1 ≤ run.job.attempts) × (run.job.attempts ≤ 8)
  pub are_workers : (1 ≤ run.workers) × (run.workers ≤ 64)
  pub some : 1 ≤ run.shard
  pub spelled : HaveSpelling (all_tables run.job.compiled)

-- what the job is run over, where its input has these bytes
abbrev pub source_in : ResumedJob → List ℕ → Source
source_in run bytes = record { frame = run.frame; most = run.shard; bytes = bytes }
