use Rattle.sz_attempt.proofs.ListedLemmas.{is_lost_where}
use Rattle.sz_attempt.proofs.laws.shards_are_lost_with_all_attempts.Goals as goal

pub returns : goal.returns
returns c = record { lost = is_lost_where }
