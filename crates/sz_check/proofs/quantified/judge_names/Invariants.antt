-- The names that are left, after what is declared by now, are all of them; what is outside the innermost block stays.
use Rattle.std.proofs.Common.{◌≡◌, drop}
use Rattle.sz_types.specs.Seen.{seen}
use Rattle.sz_check_rules.specs.Quantifying.{judge_names}
use Rattle.sz_check.specs.Quantified.{declared_of}
use Rattle.sz_check.proofs.quantified.judge_names.Given as goal

abbrev pub invariant-loop-name : goal.invariant-loop-name
invariant-loop-name l = record {
  judged : judge_names l.quantity (seen l.ty) (drop l.name-index l.names) (declared_of l.known l.variables.items)
      ≡ judge_names l.quantity (seen l.ty) l.names (declared_of l.fn.known l.fn.variables.items);
  outside : l.known.outside ≡ l.fn.known.outside;
}
