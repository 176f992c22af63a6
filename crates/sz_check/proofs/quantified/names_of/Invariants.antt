-- The names so far, and those that are left, are all of them.
use Rattle.std.proofs.Common.{◌≡◌, ◌++◌, drop, map}
use Rattle.sz_check_rules.specs.Quantifying.{names_of}
use Rattle.sz_check.specs.Quantified.{variable_of}
use Rattle.sz_check.proofs.quantified.names_of.Given as goal

abbrev pub invariant-loop-variable : goal.invariant-loop-variable
invariant-loop-variable l =
    l.names ++ names_of (map variable_of (drop l.variable-index l.variables)) ≡ names_of (map variable_of l.variables)
