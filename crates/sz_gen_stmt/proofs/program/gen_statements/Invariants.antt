-- What is left to append, after what there is now, makes the whole.
use Rattle.std.proofs.Common.{map, drop}
use Rattle.sz_core.specs.Statements.{stms_of}
use Rattle.sz_core.specs.Programs.{statements_of}
use Rattle.sz_core.specs.View.{item_of}
use Rattle.sz_gen_expr.specs.declared.builder.Builder.{Builder}
use Rattle.sz_gen_rules.specs.StatementCode.{no_exits}
use Rattle.sz_gen_stmt.specs.Making.{AppendsStms}
use Rattle.sz_gen_stmt.proofs.program.gen_statements.Given as goal

abbrev pub invariant-loop-item : goal.invariant-loop-item
invariant-loop-item l =
    (new : Builder)
    → AppendsStms l.into new (stms_of (statements_of (map item_of (drop l.item-index l.items)))) no_exits
    → AppendsStms l.fn.into new (stms_of (statements_of (map item_of l.items))) no_exits
