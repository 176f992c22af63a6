use Rattle.szl.proofs.ShardLemmas.{sizes_are_shards}
use Rattle.szl.proofs.laws.sizes_are_shards.Goals as goal

-- the sizes are those of shards
pub returns : goal.returns
returns c = record { cut = sizes_are_shards }
