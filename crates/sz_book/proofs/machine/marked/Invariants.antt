use Rattle.std.proofs.Common.{◌≡◌, ◌++◌, drop}
use Rattle.sz_book.specs.Cores.{marked_from}
use Rattle.sz_book.proofs.machine.marked.Given as goal

-- what is marked after the marks that were seen follows the places that were found
abbrev pub invariant-loop-shard : goal.invariant-loop-shard
invariant-loop-shard l = l.shards ++ marked_from l.shard (drop l.shard l.marks) ≡ marked_from 0 l.marks
