use Rattle.sz_records.proofs.ShardLemmas as shards
use Rattle.sz_records.proofs.shard.shards_are_unique.Goals as goal

pub returns : goal.returns
returns c = record { unique = shards.shards_are_unique }
