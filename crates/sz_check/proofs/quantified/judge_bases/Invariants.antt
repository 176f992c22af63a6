-- What is made, and what the variables that are left are judged to be, is what all are judged to be; all else stays.
use Rattle.std.proofs.Common.{◌≡◌, ◌∷◌, drop, map}
use Rattle.sz_quant.specs.Seen.{bound_of}
use Rattle.sz_core.specs.View.{quantified_of}
use Rattle.sz_check_names.specs.Knowledge.{blocks_of}
use Rattle.sz_check_names.specs.Turns.{following}
use Rattle.sz_check_rules.specs.Quantifying.{judge_bases}
use Rattle.sz_check.specs.Quantified.{variable_of}
use Rattle.sz_check.proofs.quantified.judge_bases.Given as goal

abbrev pub invariant-loop-i : goal.invariant-loop-i
invariant-loop-i l = record {
  judged : following (λ x xs. x ∷ xs) (map quantified_of l.made.items)
      (judge_bases (blocks_of l.known) (map variable_of (drop l.i l.variables)) (map bound_of (drop l.i l.bounds)))
      ≡ judge_bases (blocks_of l.fn.known) (map variable_of l.variables) (map bound_of l.bounds);
  outside : l.known.outside ≡ l.fn.known.outside;
  locals : l.known.locals ≡ l.fn.known.locals;
}
