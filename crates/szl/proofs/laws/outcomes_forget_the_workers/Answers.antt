use Rattle.szl.proofs.WorkersLemmas.{same_outcome_of_settings, same_selftest, same_resumed, one_job}
use Rattle.szl.proofs.laws.outcomes_forget_the_workers.Goals as goal

-- no part of an outcome reads them
pub returns : goal.returns
returns c = record {
  run = λ s workers twice file reading cut merged. same_outcome_of_settings s workers twice cut file reading merged;
  selftest = same_selftest;
  resume = same_resumed;
  job = one_job;
}
