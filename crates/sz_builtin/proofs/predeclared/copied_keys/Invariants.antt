-- What is copied so far are the keys of the front.
use Rattle.std.proofs.Common.{◌≡◌, take}
use Rattle.std.specs.Map.{keys_of}
use Rattle.sz_builtin.proofs.predeclared.copied_keys.Given as goal

abbrev pub invariant-loop-place : goal.invariant-loop-place
invariant-loop-place l = l.list ≡ keys_of (take l.place l.pairs)
