use Rattle.sz_gen_tests.proofs.GivenLemmas.{is_round}
use Rattle.sz_gen_tests.proofs.given.round_of_two.Goals as goal

pub returns-clause-round : goal.returns-clause-round
returns-clause-round c =
    is_round c.in_ok-records.records c.in_ok-shards.shards c.in_ok-records.ensures.count c.in_ok-shards.ensures.value
