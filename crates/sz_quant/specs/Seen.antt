-- Bounds, and expressions that are lent, as plain data.
use Rattle.std.specs.Borrow.{Bor}
use Rattle.sz_tree.specs.declared.expr.Expr.{Expr}
use Rattle.sz_tree.specs.Expressions.{Exp}
use Rattle.sz_tree.specs.View.{tree_of}
use Rattle.sz_quant.specs.declared.bound.Bound.{Bound}
use Rattle.sz_quant.specs.Fitting.{BoundForm}

-- the bound
abbrev pub bound_of : Bound → BoundForm
bound_of b = record { base = tree_of b.base; slice = b.slice }

-- the expression that is lent
abbrev pub seen_ref : Bor Expr → Exp
seen_ref tree = tree_of tree.now
