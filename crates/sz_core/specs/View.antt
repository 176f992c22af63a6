-- The trees of the code, as contracts see them.
use Rattle.std.specs.Prelude.{map}
use Rattle.std.specs.Option.{option_map}
use Rattle.sz_types.specs.Seen.{seen as shape_of}
use Rattle.sz_types.specs.SeenTables.{seen_table}
use Rattle.sz_value.specs.Seen.{seen as datum_of}
use Rattle.sz_core.specs.declared.expr.CoreExpr.{CoreExpr}
use Rattle.sz_core.specs.declared.expr.CorePair.{CorePair}
use Rattle.sz_core.specs.declared.expr.Form.{Form as CoreForm, Row_of-CoreExpr, end_of-CoreExpr, more_of-CoreExpr, Row_of-CorePair, end_of-CorePair}
use Rattle.sz_core.specs.declared.expr.Form.{more_of-CorePair}
use Rattle.sz_core.specs.declared.expr.Form.TheVariants as forms
use Rattle.sz_core.specs.declared.stmt.CoreStep.{CoreStep}
use Rattle.sz_core.specs.declared.stmt.CoreStep.TheVariants as steps
use Rattle.sz_core.specs.declared.stmt.CoreQuantity.{CoreQuantity}
use Rattle.sz_core.specs.declared.stmt.CoreQuantity.TheVariants as quantities
use Rattle.sz_core.specs.declared.stmt.Quantified.{Quantified as CoreQuantified}
use Rattle.sz_core.specs.declared.stmt.CoreStmt.{CoreStmt, Row_of-CoreStmt, end_of-CoreStmt, more_of-CoreStmt}
use Rattle.sz_core.specs.declared.stmt.CoreStmt.TheVariants as stmts
use Rattle.sz_core.specs.declared.program.Signature.{Signature as CoreSignature}
use Rattle.sz_core.specs.declared.program.Function.{Function as CoreFunction}
use Rattle.sz_core.specs.declared.program.Static.{Static as CoreStatic}
use Rattle.sz_core.specs.declared.program.Item.{Item as CoreItem}
use Rattle.sz_core.specs.declared.program.Item.TheVariants as items
use Rattle.sz_core.specs.Nodes.{nodes_of, Node, node, Form, constant, local, static, input, call, builtin, def, convert, array, tuple, mapping, index, slice}
use Rattle.sz_core.specs.Nodes.{field, unary, binary, both, either, Nodes, no_nodes, with_node, Pairings, no_pairings, with_pairing}
use Rattle.sz_core.specs.Statements.{Step, at_index, at_field, Stm, block, clear, keep, store, evaluate, branch, while, do_while, for_loop, break, continue}
use Rattle.sz_core.specs.Statements.{Quantity, some, each, all, Quantified, when, return_value, end_record, emit, Stms, no_stms, with_stm, stms_of}
use Rattle.sz_core.specs.Programs.{Signature, Function, Static, Item, table, function, statement}
use Rattle.sz_core.specs.Programs as program

abbrev mutual
  -- what an expression is
  pub form_of : CoreForm → Form
  form_of (forms.Constant v) = constant (datum_of v)
  form_of (forms.Local n) = local n
  form_of (forms.Static n) = static n
  form_of forms.Input = input
  form_of (forms.Call' f s es) = call f (nodes_of_row es)
  form_of (forms.Builtin' b s es) = builtin b (nodes_of_row es)
  form_of (forms.Def' b p t f) = def (node p (shape_of t) (form_of f))
  form_of (forms.Convert' b p t f) = convert (node p (shape_of t) (form_of f))
  form_of (forms.Array' s es) = array (nodes_of_row es)
  form_of (forms.Tuple' s es) = tuple (nodes_of_row es)
  form_of (forms.Map' s ps) = mapping (pairings_of_row ps)
  form_of (forms.Index' b p t f c q u g) = index (node p (shape_of t) (form_of f)) (node q (shape_of u) (form_of g))
  form_of (forms.Slice' b p t f c q u g d r v h) =
      slice (node p (shape_of t) (form_of f)) (node q (shape_of u) (form_of g)) (node r (shape_of v) (form_of h))
  form_of (forms.Field' b p t f n) = field (node p (shape_of t) (form_of f)) n
  form_of (forms.Unary' o b p t f) = unary o (node p (shape_of t) (form_of f))
  form_of (forms.Binary' o b p t f c q u g) =
      binary o (node p (shape_of t) (form_of f)) (node q (shape_of u) (form_of g))
  form_of (forms.And' b p t f c q u g) = both (node p (shape_of t) (form_of f)) (node q (shape_of u) (form_of g))
  form_of (forms.Or' b p t f c q u g) = either (node p (shape_of t) (form_of f)) (node q (shape_of u) (form_of g))

  -- the expressions of a row
  pub nodes_of_row : {m : _} → Row_of-CoreExpr m → Nodes
  nodes_of_row end_of-CoreExpr = no_nodes
  nodes_of_row (more_of-CoreExpr p t f es) = with_node (node p (shape_of t) (form_of f)) (nodes_of_row es)

  -- the keys and values of a row
  pub pairings_of_row : {m : _} → Row_of-CorePair m → Pairings
  pairings_of_row end_of-CorePair = no_pairings
  pairings_of_row (more_of-CorePair p t f q u g ps) =
      with_pairing (node p (shape_of t) (form_of f)) (node q (shape_of u) (form_of g)) (pairings_of_row ps)

-- an expression
abbrev pub node_of : CoreExpr → Node
node_of e = node e.place (shape_of e.ty) (form_of e.form)

-- a key and its value
abbrev pub pairing_of : CorePair → Node × Node
pairing_of p = (node_of p.key, node_of p.value)

-- a step into a value
abbrev pub step_of : CoreStep → Step
step_of (steps.Index e) = at_index (node_of e)
step_of (steps.Field n) = at_field n

-- a variable of `when`, and how it is quantified
abbrev pub quantity_of : CoreQuantity → Quantity
quantity_of quantities.«Some» = some
quantity_of quantities.Each = each
quantity_of quantities.All = all

abbrev pub quantified_of : CoreQuantified → Quantified
quantified_of v = record { quantity = quantity_of v.quantity; local = v.local; base = node_of v.base; slice = v.slice }

abbrev mutual
  -- a statement
  pub stm_of : CoreStmt → Stm
  stm_of (stmts.Block' s ss) = block (stms_of_row ss)
  stm_of (stmts.Clear n) = clear n
  stm_of (stmts.Keep p n e) = keep p n (node_of e)
  stm_of (stmts.Store p n ss e) = store p n (map step_of ss.items) (node_of e)
  stm_of (stmts.Evaluate p e) = evaluate p (node_of e)
  stm_of (stmts.Branch' p c a s b t) = branch p (node_of c) (stm_of s) (stm_of t)
  stm_of (stmts.While' p c a s) = while p (node_of c) (stm_of s)
  stm_of (stmts.DoWhile' p a s c) = do_while p (stm_of s) (node_of c)
  stm_of (stmts.For' p c a t b s) = for_loop p (option_map node_of c) (stm_of t) (stm_of s)
  stm_of stmts.Break = break
  stm_of stmts.Continue = continue
  stm_of (stmts.Return p e) = return_value p (node_of e)
  stm_of (stmts.EndRecord p) = end_record p
  stm_of (stmts.Emit p n es e w) = emit p n (nodes_of (map node_of es.items)) (node_of e) (option_map node_of w)
  stm_of (stmts.When' p vs c a s) = when p (map quantified_of vs.items) (node_of c) (stm_of s)

  -- the statements of a row
  pub stms_of_row : {m : _} → Row_of-CoreStmt m → Stms
  stms_of_row end_of-CoreStmt = no_stms
  stms_of_row (more_of-CoreStmt s ss) = with_stm (stm_of s) (stms_of_row ss)

-- a signature, a function and a static
abbrev pub signature_of : CoreSignature → Signature
signature_of s = record { parameters = s.parameters; result = shape_of s.result; emits = s.emits }

abbrev pub function_of : CoreFunction → Function
function_of f = record {
  signature = signature_of f.signature;
  locals = f.locals;
  body = stms_of (map stm_of f.body.items);
}

abbrev pub static_of : CoreStatic → Static
static_of s = record { place = s.place; type = shape_of s.ty; value = node_of s.value }

-- what stands at the top level
abbrev pub item_of : CoreItem → Item
item_of (items.Table d) = table (seen_table d)
item_of (items.Function f) = function (function_of f)
item_of (items.Static s) = program.static (static_of s)
item_of (items.Statement s) = statement (stm_of s)
