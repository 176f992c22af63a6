-- What is seen of the parts of a tree that stand in a vector.
use Rattle.std.proofs.Common.{◌≡◌, ℕ, List, refl, ap, ◌∙◌}
use Rattle.std.specs.Prelude.{map}
use Rattle.std.specs.Global.{Vec}
use Rattle.sz_types.specs.declared.operator.Builtin.{Builtin}
use Rattle.sz_types.specs.Seen.{seen}
use Rattle.sz_core.specs.declared.expr.CoreExpr.{CoreExpr}
use Rattle.sz_core.specs.declared.expr.CorePair.{CorePair}
use Rattle.sz_core.specs.declared.expr.Form.{Row_of-CoreExpr, end_of-CoreExpr, more_of-CoreExpr, items-the_row-CoreExpr, Row_of-CorePair, end_of-CorePair}
use Rattle.sz_core.specs.declared.expr.Form.{more_of-CorePair, items-the_row-CorePair}
use Rattle.sz_core.specs.declared.expr.Form.TheBlock.{hidden-the_row-CoreExpr-0, items_hidden-the_row-CoreExpr-0, hidden-the_row-CorePair-1}
use Rattle.sz_core.specs.declared.expr.Form.TheBlock.{items_hidden-the_row-CorePair-1}
use Rattle.sz_core.specs.declared.expr.Form.TheVariants as forms
use Rattle.sz_core.specs.declared.stmt.CoreStmt.{CoreStmt, Row_of-CoreStmt, end_of-CoreStmt, more_of-CoreStmt, items-the_row-CoreStmt}
use Rattle.sz_core.specs.declared.stmt.CoreStmt.TheBlock.{hidden-the_row-CoreStmt-0, items_hidden-the_row-CoreStmt-0}
use Rattle.sz_core.specs.declared.stmt.CoreStmt.TheVariants as stmts
use Rattle.sz_core.specs.Nodes.{node, call, builtin, array, tuple, mapping, with_node, with_pairing, nodes_of, pairings_of}
use Rattle.sz_core.specs.Statements.{block, with_stm, stms_of}
use Rattle.sz_core.specs.View.{form_of, node_of, pairing_of, nodes_of_row, pairings_of_row, stm_of, stms_of_row}

nodes_of_row_is : (n : _) (row : Row_of-CoreExpr n)
    → nodes_of_row row ≡ nodes_of (map node_of (items-the_row-CoreExpr n row))
nodes_of_row_is n end_of-CoreExpr = refl
nodes_of_row_is n (more_of-CoreExpr p t f es) = ap (with_node (node p (seen t) (form_of f))) (nodes_of_row_is _ es)

pairings_of_row_is : (n : _) (row : Row_of-CorePair n)
    → pairings_of_row row ≡ pairings_of (map pairing_of (items-the_row-CorePair n row))
pairings_of_row_is n end_of-CorePair = refl
pairings_of_row_is n (more_of-CorePair p t f q u g ps) =
    ap (with_pairing (node p (seen t) (form_of f)) (node q (seen u) (form_of g))) (pairings_of_row_is _ ps)

stms_of_row_is : (n : _) (row : Row_of-CoreStmt n)
    → stms_of_row row ≡ stms_of (map stm_of (items-the_row-CoreStmt n row))
stms_of_row_is n end_of-CoreStmt = refl
stms_of_row_is n (more_of-CoreStmt s ss) = ap (with_stm (stm_of s)) (stms_of_row_is _ ss)

-- expressions in a vector
in_vector : (v : Vec CoreExpr) → nodes_of_row (hidden-the_row-CoreExpr-0 v) ≡ nodes_of (map node_of v.items)
in_vector v = nodes_of_row_is _ (hidden-the_row-CoreExpr-0 v)
    ∙ ap (λ (es : List CoreExpr). nodes_of (map node_of es)) (items_hidden-the_row-CoreExpr-0 v)

pub form_of_call : (f : ℕ) (v : Vec CoreExpr) → form_of (forms.Call f v) ≡ call f (nodes_of (map node_of v.items))
form_of_call f v = ap (call f) (in_vector v)

pub form_of_builtin : (b : Builtin) (v : Vec CoreExpr)
    → form_of (forms.Builtin b v) ≡ builtin b (nodes_of (map node_of v.items))
form_of_builtin b v = ap (builtin b) (in_vector v)

pub form_of_array : (v : Vec CoreExpr) → form_of (forms.Array v) ≡ array (nodes_of (map node_of v.items))
form_of_array v = ap array (in_vector v)

pub form_of_tuple : (v : Vec CoreExpr) → form_of (forms.Tuple v) ≡ tuple (nodes_of (map node_of v.items))
form_of_tuple v = ap tuple (in_vector v)

pub form_of_map : (v : Vec CorePair) → form_of (forms.Map v) ≡ mapping (pairings_of (map pairing_of v.items))
form_of_map v =
    ap mapping (pairings_of_row_is _ (hidden-the_row-CorePair-1 v)
    ∙ ap (λ (ps : List CorePair). pairings_of (map pairing_of ps)) (items_hidden-the_row-CorePair-1 v))

pub stm_of_block : (v : Vec CoreStmt) → stm_of (stmts.Block v) ≡ block (stms_of (map stm_of v.items))
stm_of_block v =
    ap block (stms_of_row_is _ (hidden-the_row-CoreStmt-0 v)
    ∙ ap (λ (ss : List CoreStmt). stms_of (map stm_of ss)) (items_hidden-the_row-CoreStmt-0 v))
