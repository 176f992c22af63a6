-- The parts that are left decide.
use Rattle.std.proofs.Common.{◌≡◌, drop, map}
use Rattle.std.specs.List.{list_any}
use Rattle.sz_quant.specs.Fitting.{is_one_of}
use Rattle.sz_quant.specs.Seen.{seen_ref}
use Rattle.sz_quant.proofs.fitting.has_one_of.Given as goal

abbrev pub invariant-loop-part : goal.invariant-loop-part
invariant-loop-part l =
    list_any (is_one_of l.variables) (map seen_ref (drop l.part-index l.parts))
    ≡ list_any (is_one_of l.variables) (map seen_ref l.parts)
