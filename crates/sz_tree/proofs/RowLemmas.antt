-- The parts of a tree that stand in a vector.
use Rattle.std.proofs.Common.{◌≡◌, List, refl, ap, ◌∙◌}
use Rattle.std.specs.Prelude.{map}
use Rattle.std.specs.Global.{Vec}
use Rattle.sz_types.specs.declared.place.Place.{Place}
use Rattle.sz_tree.specs.declared.expr.Expr.{Expr, Row_of-Expr, end_of-Expr, more_of-Expr, Row_of-Pair, end_of-Pair, more_of-Pair, items-the_row-Expr, items_hidden-the_row-Expr-0, items-the_row-Pair}
use Rattle.sz_tree.specs.declared.expr.Expr.TheBlock.{hidden-the_row-Expr-0, hidden-the_row-Pair-1, items_hidden-the_row-Pair-1}
use Rattle.sz_tree.specs.declared.expr.Expr.TheVariants as exprs
use Rattle.sz_tree.specs.declared.expr.Pair.{Pair}
use Rattle.sz_tree.specs.declared.types.TypeTree.{TypeTree, Row_of-Param, end_of-Param, more_of-Param, items-the_row-Param, Row_of-ProtoField, end_of-ProtoField, more_of-ProtoField, items-the_row-ProtoField}
use Rattle.sz_tree.specs.declared.types.TypeTree.TheBlock.{hidden-the_row-Param-0, items_hidden-the_row-Param-0, hidden-the_row-ProtoField-1, items_hidden-the_row-ProtoField-1}
use Rattle.sz_tree.specs.declared.types.TypeTree.TheVariants as trees
use Rattle.sz_tree.specs.declared.types.Param.{Param}
use Rattle.sz_tree.specs.declared.types.ProtoField.{ProtoField}
use Rattle.sz_tree.specs.declared.stmt.Stmt.{Stmt, Row_of-Stmt, end_of-Stmt, more_of-Stmt, items-the_row-Stmt}
use Rattle.sz_tree.specs.declared.stmt.Stmt.TheBlock.{hidden-the_row-Stmt-0, items_hidden-the_row-Stmt-0}
use Rattle.sz_tree.specs.declared.stmt.Stmt.TheVariants as stmts
use Rattle.sz_tree.specs.Names.{Ident}
use Rattle.sz_tree.specs.Expressions.{call, list, mapping, more, pair, exps_of, pairs_of}
use Rattle.sz_tree.specs.Types.{tuple, proto, param, proto_field, params_of, fields_of}
use Rattle.sz_tree.specs.Statements.{block, function, stm, stms_of}
use Rattle.sz_tree.specs.View.{tree_of, trees_of_row, pair_of, pairs_of_row, type_of, param_of, params_of_row, field_of, fields_of_row, stm_of, stms_of_row}

trees_of_row_is : (n : _) (row : Row_of-Expr n) → trees_of_row row ≡ exps_of (map tree_of (items-the_row-Expr n row))
trees_of_row_is n end_of-Expr = refl
trees_of_row_is n (more_of-Expr e es) = ap (more (tree_of e)) (trees_of_row_is _ es)

pairs_of_row_is : (n : _) (row : Row_of-Pair n) → pairs_of_row row ≡ pairs_of (map pair_of (items-the_row-Pair n row))
pairs_of_row_is n end_of-Pair = refl
pairs_of_row_is n (more_of-Pair k v ps) = ap (pair (tree_of k) (tree_of v)) (pairs_of_row_is _ ps)

params_of_row_is : (n : _) (row : Row_of-Param n)
    → params_of_row row ≡ params_of (map param_of (items-the_row-Param n row))
params_of_row_is n end_of-Param = refl
params_of_row_is n (more_of-Param m t ps) = ap (param m (type_of t)) (params_of_row_is _ ps)

fields_of_row_is : (n : _) (row : Row_of-ProtoField n)
    → fields_of_row row ≡ fields_of (map field_of (items-the_row-ProtoField n row))
fields_of_row_is n end_of-ProtoField = refl
fields_of_row_is n (more_of-ProtoField m t k l fs) = ap (proto_field m (type_of t) k l) (fields_of_row_is _ fs)

stms_of_row_is : (n : _) (row : Row_of-Stmt n) → stms_of_row row ≡ stms_of (map stm_of (items-the_row-Stmt n row))
stms_of_row_is n end_of-Stmt = refl
stms_of_row_is n (more_of-Stmt s ss) = ap (stm (stm_of s)) (stms_of_row_is _ ss)

pub tree_of_call : (n : Ident) (v : Vec Expr) → tree_of (exprs.Call n v) ≡ call n (exps_of (map tree_of v.items))
tree_of_call n v = ap (call n) (trees_of_row_is _ (hidden-the_row-Expr-0 v)
    ∙ ap (λ (es : List Expr). exps_of (map tree_of es)) (items_hidden-the_row-Expr-0 v))

pub tree_of_list : (p : Place) (v : Vec Expr) → tree_of (exprs.List p v) ≡ list p (exps_of (map tree_of v.items))
tree_of_list p v = ap (list p) (trees_of_row_is _ (hidden-the_row-Expr-0 v)
    ∙ ap (λ (es : List Expr). exps_of (map tree_of es)) (items_hidden-the_row-Expr-0 v))

pub tree_of_map : (p : Place) (v : Vec Pair) → tree_of (exprs.Map p v) ≡ mapping p (pairs_of (map pair_of v.items))
tree_of_map p v = ap (mapping p) (pairs_of_row_is _ (hidden-the_row-Pair-1 v)
    ∙ ap (λ (ps : List Pair). pairs_of (map pair_of ps)) (items_hidden-the_row-Pair-1 v))

pub type_of_tuple : (p : Place) (v : Vec Param) → type_of (trees.Tuple p v) ≡ tuple p (params_of (map param_of v.items))
type_of_tuple p v = ap (tuple p) (params_of_row_is _ (hidden-the_row-Param-0 v)
    ∙ ap (λ (ps : List Param). params_of (map param_of ps)) (items_hidden-the_row-Param-0 v))

pub type_of_proto : (p : Place) (v : Vec ProtoField)
    → type_of (trees.Proto p v) ≡ proto p (fields_of (map field_of v.items))
type_of_proto p v = ap (proto p) (fields_of_row_is _ (hidden-the_row-ProtoField-1 v)
    ∙ ap (λ (fs : List ProtoField). fields_of (map field_of fs)) (items_hidden-the_row-ProtoField-1 v))

pub stm_of_block : (p : Place) (v : Vec Stmt) → stm_of (stmts.Block p v) ≡ block p (stms_of (map stm_of v.items))
stm_of_block p v = ap (block p) (stms_of_row_is _ (hidden-the_row-Stmt-0 v)
    ∙ ap (λ (ss : List Stmt). stms_of (map stm_of ss)) (items_hidden-the_row-Stmt-0 v))

pub stm_of_function : (n : Ident) (ps : Vec Param) (t : TypeTree) (v : Vec Stmt) → stm_of (stmts.Function n ps t v)
    ≡ function n (params_of (map param_of ps.items)) (type_of t) (stms_of (map stm_of v.items))
stm_of_function n ps t v =
    ap (function n (params_of (map param_of ps.items)) (type_of t)) (stms_of_row_is _ (hidden-the_row-Stmt-0 v)
    ∙ ap (λ (ss : List Stmt). stms_of (map stm_of ss)) (items_hidden-the_row-Stmt-0 v))
