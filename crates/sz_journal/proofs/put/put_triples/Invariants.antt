-- The kills so far were appended.
use Rattle.std.proofs.Common.{◌≡◌, ◌++◌, take, flat_map}
use Rattle.sz_journal.specs.Jobs.{triple_bytes}
use Rattle.sz_journal.proofs.put.put_triples.Given as goal

abbrev pub invariant-loop-kill : goal.invariant-loop-kill
invariant-loop-kill l = l.out.items ≡ l.initial.out.items ++ flat_map triple_bytes (take l.kill-index l.kills)
