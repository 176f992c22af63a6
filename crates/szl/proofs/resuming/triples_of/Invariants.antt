-- The kills in front are there as triples.
use Rattle.std.proofs.Common.{◌≡◌, map, take}
use Rattle.szl.specs.Resuming.{triple_of}
use Rattle.szl.proofs.resuming.triples_of.Given as goal

abbrev pub invariant-loop-kill : goal.invariant-loop-kill
invariant-loop-kill l = l.triples ≡ map triple_of (take l.kill-index l.kills)
