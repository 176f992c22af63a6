-- The variables that are left, after what is known by now, are all of them; all else stays.
use Rattle.std.proofs.Common.{◌≡◌, drop, map}
use Rattle.sz_check_names.specs.Knowledge.{blocks_of}
use Rattle.sz_check_rules.specs.Quantifying.{bind_inside}
use Rattle.sz_check.specs.Quantified.{variable_of}
use Rattle.sz_check.proofs.quantified.bind_inside.Given as goal

abbrev pub invariant-loop-variable : goal.invariant-loop-variable
invariant-loop-variable l = record {
  judged : bind_inside (map variable_of (drop l.variable-index l.variables)) (blocks_of l.known)
      ≡ bind_inside (map variable_of l.variables) (blocks_of l.fn.known);
  outside : l.known.outside ≡ l.fn.known.outside;
  locals : l.known.locals ≡ l.fn.known.locals;
}
