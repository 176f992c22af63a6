-- The kills still to come decide.
use Rattle.std.proofs.Common.{◌≡◌, drop}
use Rattle.sz_words.specs.Lists.{is_killed}
use Rattle.sz_words.proofs.lists.is_killed.Given as goal

abbrev pub invariant-loop-kill : goal.invariant-loop-kill
invariant-loop-kill l = is_killed l.shard l.number (drop l.kill-index l.kills) ≡ is_killed l.shard l.number l.kills
