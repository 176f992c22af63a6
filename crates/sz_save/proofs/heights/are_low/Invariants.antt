-- What is left decides.
use Rattle.std.proofs.Common.{◌≡◌, drop, map}
use Rattle.sz_types.specs.Seen.{seen}
use Rattle.sz_save.specs.Saving as saving
use Rattle.sz_save.proofs.heights.are_low.Given as goal

abbrev pub invariant-loop-ty : goal.invariant-loop-ty
invariant-loop-ty l = saving.are_low (map seen (drop l.ty-index l.types)) ≡ saving.are_low (map seen l.types)
