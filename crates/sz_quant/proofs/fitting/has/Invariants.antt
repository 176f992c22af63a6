-- The variables that are left decide.
use Rattle.std.proofs.Common.{◌≡◌, drop}
use Rattle.sz_quant.specs.Fitting.{has_name}
use Rattle.sz_quant.proofs.fitting.has.Given as goal

abbrev pub invariant-loop-variable : goal.invariant-loop-variable
invariant-loop-variable l = has_name l.name.text (drop l.variable-index l.variables) ≡ has_name l.name.text l.variables
