use Rattle.sz_attempt.proofs.ListedLemmas.{died_after, dies_by, lives_else}
use Rattle.sz_attempt.proofs.laws.attempts_end_as_listed.Goals as goal

pub returns : goal.returns
returns c = record { died = died_after; first = dies_by; lives = lives_else }
