-- What is left to append, after what there is now, makes the whole.
use Rattle.std.proofs.Common.{map, drop}
use Rattle.sz_core.specs.Programs.{functions_of}
use Rattle.sz_core.specs.View.{item_of}
use Rattle.sz_gen_expr.specs.declared.builder.Builder.{Builder}
use Rattle.sz_gen_stmt.specs.Making.{ExtendsFunctions}
use Rattle.sz_gen_stmt.proofs.program.gen_functions.Given as goal

abbrev pub invariant-loop-item : goal.invariant-loop-item
invariant-loop-item l =
    (new : Builder) → ExtendsFunctions l.into new (functions_of (map item_of (drop l.item-index l.items)))
    → ExtendsFunctions l.fn.into new (functions_of (map item_of l.items))
