use Rattle.std.proofs.Common.{rules, ◌<◌, length, map, sym, subst}
use Rattle.sz_types.specs.Data.{fields_of}
use Rattle.sz_types.specs.Seen.{seen, seen_field}
use Rattle.sz_core.specs.Nodes.{nodes_of}
use Rattle.sz_core.specs.View.{node_of}
use Rattle.sz_check_names.specs.Outcome.{Judges}
use Rattle.sz_check_expr.proofs.CallLemmas.{tuple_is}
use Rattle.sz_check_expr.proofs.composite.made_tuple.Goals as goal

-- there is a part
pub returns-else-is_empty : goal.returns-else-is_empty
returns-else-is_empty c =
    let some : 0 < length c.args.trees.now = search rules in
    let same =
    tuple_is c.args.place (seen c.args.ty.now) (fields_of (map seen_field c.args.fields.now)) c.args.trees.now
    (nodes_of (map node_of c.args.nodes.items)) some in
    record { value = subst (Judges node_of c.tuple_of.result) (sym same) c.tuple_of.ensures.value }
