use Rattle.std.proofs.Common.{[], ◌∷◌}
use Rattle.sz_workers.proofs.PartLemmas.{apart_one}
use Rattle.sz_workers.proofs.pool.add_shard.Goals as goal

-- the shard isn't there yet
pub absorb-requires-clause-apart : goal.absorb-requires-clause-apart
absorb-requires-clause-apart g c = (
  c.args.pool.now.shards,
  c.args.place ∷ [],
  c.requires.holds,
  c.requires.one,
  apart_one c.args.pool.now.shards c.args.place c.requires.absent,
)
