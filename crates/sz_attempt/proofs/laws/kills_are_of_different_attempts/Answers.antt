use Rattle.sz_attempt.proofs.ListedLemmas.{kills_differ}
use Rattle.sz_attempt.proofs.laws.kills_are_of_different_attempts.Goals as goal

pub returns : goal.returns
returns c = record { once = λ text kills s k i j is. kills_differ text kills is s k i j }
