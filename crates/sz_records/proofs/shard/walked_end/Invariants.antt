use Rattle.sz_records.proofs.ShardLemmas.{IsRead}
use Rattle.sz_records.proofs.shard.walked_end.Given as goal

abbrev pub invariant-loop-last : goal.invariant-loop-last
invariant-loop-last l = IsRead l.records.items l.from l.most l.last l.bytes
