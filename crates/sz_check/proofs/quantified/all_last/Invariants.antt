-- The variables that are left, after one that speaks of all candidates or none, are all of them.
use Rattle.std.proofs.Common.{◌≡◌, drop, map, false}
use Rattle.sz_check_rules.specs.Quantifying.{all_last}
use Rattle.sz_check.specs.Quantified.{variable_of}
use Rattle.sz_check.proofs.quantified.all_last.Given as goal

abbrev pub invariant-loop-variable : goal.invariant-loop-variable
invariant-loop-variable l = all_last (map variable_of (drop l.variable-index l.variables)) l.after
    ≡ all_last (map variable_of l.variables) false
