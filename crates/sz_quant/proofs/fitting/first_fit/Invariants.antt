-- The first of the parts that are left is the first of all.
use Rattle.std.proofs.Common.{◌≡◌, drop, map}
use Rattle.sz_quant.specs.Fitting.{first_fit}
use Rattle.sz_quant.specs.Seen.{seen_ref}
use Rattle.sz_quant.proofs.fitting.first_fit.Given as goal

abbrev pub invariant-loop-part : goal.invariant-loop-part
invariant-loop-part l =
    first_fit l.variables (map seen_ref (drop l.part-index l.parts)) ≡ first_fit l.variables (map seen_ref l.parts)
