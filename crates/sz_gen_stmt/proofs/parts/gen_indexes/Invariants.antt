-- What is left to append, after what there is now, makes the whole.
use Rattle.std.proofs.Common.{map, drop}
use Rattle.sz_core.specs.View.{step_of}
use Rattle.sz_gen_expr.specs.declared.builder.Builder.{Builder}
use Rattle.sz_gen_stmt.specs.Making.{AppendsIndexes}
use Rattle.sz_gen_stmt.proofs.parts.gen_indexes.Given as goal

abbrev pub invariant-loop-step : goal.invariant-loop-step
invariant-loop-step l =
    (new : Builder) → AppendsIndexes l.into new (map step_of (drop l.step-index l.path))
    → AppendsIndexes l.fn.into new (map step_of l.path)
