-- The numbers so far were appended.
use Rattle.std.proofs.Common.{◌≡◌, ◌++◌, take, flat_map}
use Rattle.sz_flat.specs.Spelling.{length_bytes}
use Rattle.sz_journal.proofs.put.put_shards.Given as goal

abbrev pub invariant-loop-shard : goal.invariant-loop-shard
invariant-loop-shard l = l.out.items ≡ l.initial.out.items ++ flat_map length_bytes (take l.shard-index l.shards)
