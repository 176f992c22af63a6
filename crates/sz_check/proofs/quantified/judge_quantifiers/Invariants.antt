-- The quantifiers that are left, after what is declared by now, are all of them; what is outside the innermost block
-- stays.
use Rattle.std.proofs.Common.{◌≡◌, [], drop, map}
use Rattle.sz_tree.specs.View.{quantifier_of}
use Rattle.sz_check_rules.specs.Quantifying.{judge_quantifiers}
use Rattle.sz_check.specs.Quantified.{declared_of}
use Rattle.sz_check.proofs.quantified.judge_quantifiers.Given as goal

abbrev pub invariant-loop-quantifier : goal.invariant-loop-quantifier
invariant-loop-quantifier l = record {
  judged : judge_quantifiers (map quantifier_of (drop l.quantifier-index l.quantifiers))
      (declared_of l.known l.variables.items)
      ≡ judge_quantifiers (map quantifier_of l.quantifiers) (declared_of l.fn.known []);
  outside : l.known.outside ≡ l.fn.known.outside;
}
