use Rattle.szl.proofs.DeathsLemmas.{same_after_deaths, as_if_none_died}
use Rattle.szl.proofs.laws.outcomes_forget_the_deaths.Goals as goal

-- an outcome reads which shards are lost alone
pub returns : goal.returns
returns c = record {
  same = λ s attempts kills file reading cut merged. same_after_deaths s attempts kills cut file reading merged;
  none_lost = as_if_none_died;
}
