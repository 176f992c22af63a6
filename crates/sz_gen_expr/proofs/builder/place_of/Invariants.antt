use Rattle.sz_types.specs.Same.{alike}
use Rattle.sz_types.specs.Seen.{seen as shape_of}
use Rattle.sz_gen_expr.proofs.Numbers.{IsFrom}
use Rattle.sz_gen_expr.proofs.builder.place_of.Given as goal

-- no type so far is the same
abbrev pub invariant-loop-at : goal.invariant-loop-at
invariant-loop-at l = IsFrom (λ s. alike s (shape_of l.fn.ty)) l.fn.types l.at
