-- What is copied so far is the front.
use Rattle.std.proofs.Common.{◌≡◌, map, take}
use Rattle.sz_types.specs.Seen.{seen}
use Rattle.sz_types.proofs.copying.copy_tys.Given as goal

abbrev pub invariant-loop-ty : goal.invariant-loop-ty
invariant-loop-ty l = map seen l.made.items ≡ map seen (take l.ty-index l.ty-items)
