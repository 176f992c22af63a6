-- What is left to append, after what there is now, makes the whole.
use Rattle.std.proofs.Common.{map, drop, length}
use Rattle.sz_core.specs.Programs.{statics_of}
use Rattle.sz_core.specs.View.{item_of}
use Rattle.sz_gen_expr.specs.declared.builder.Builder.{Builder}
use Rattle.sz_gen_stmt.specs.Making.{ExtendsStatics}
use Rattle.sz_gen_stmt.proofs.program.gen_statics.Given as goal

abbrev pub invariant-loop-item : goal.invariant-loop-item
invariant-loop-item l =
    (new : Builder)
    → ExtendsStatics l.into new (length l.into.statics) (statics_of (map item_of (drop l.item-index l.items)))
    → ExtendsStatics l.fn.into new (length l.fn.into.statics) (statics_of (map item_of l.items))
