-- The trees of the code, as contracts see them.
use Rattle.std.specs.Prelude.{Option, Some, None, map}
use Rattle.std.specs.Option.{option_map}
use Rattle.sz_tree.specs.declared.literal.Literal.{Literal}
use Rattle.sz_tree.specs.declared.literal.Literal.TheVariants as literals
use Rattle.sz_tree.specs.declared.expr.Expr.{Expr, Row_of-Expr, end_of-Expr, more_of-Expr, Row_of-Pair, end_of-Pair, more_of-Pair}
use Rattle.sz_tree.specs.declared.expr.Expr.TheVariants as exprs
use Rattle.sz_tree.specs.declared.expr.Pair.{Pair}
use Rattle.sz_tree.specs.declared.types.TypeTree.{TypeTree, Row_of-Param, end_of-Param, more_of-Param, Row_of-ProtoField, end_of-ProtoField, more_of-ProtoField}
use Rattle.sz_tree.specs.declared.types.TypeTree.TheVariants as trees
use Rattle.sz_tree.specs.declared.types.Param.{Param}
use Rattle.sz_tree.specs.declared.types.ProtoField.{ProtoField}
use Rattle.sz_tree.specs.declared.stmt.Step.{Step}
use Rattle.sz_tree.specs.declared.stmt.Step.TheVariants as steps
use Rattle.sz_tree.specs.declared.stmt.Path.{Path}
use Rattle.sz_tree.specs.declared.stmt.Simple.{Simple}
use Rattle.sz_tree.specs.declared.stmt.Simple.TheVariants as simples
use Rattle.sz_tree.specs.declared.stmt.First.{First}
use Rattle.sz_tree.specs.declared.stmt.First.TheVariants as firsts
use Rattle.sz_tree.specs.declared.stmt.Elem.{Elem}
use Rattle.sz_tree.specs.declared.stmt.Table.{Table}
use Rattle.sz_tree.specs.declared.stmt.Quantifier.{Quantifier}
use Rattle.sz_tree.specs.declared.stmt.Stmt.{Stmt, Row_of-Stmt, end_of-Stmt, more_of-Stmt, Held-Stmt-If-3, None', Some'}
use Rattle.sz_tree.specs.declared.stmt.Stmt.TheVariants as stmts
use Rattle.sz_tree.specs.declared.tree.Tree.{Tree}
use Rattle.sz_tree.specs.Names.{Ident}
use Rattle.sz_tree.specs.Expressions.{Lit, number, string, bytes, character, boolean, Exp, literal, named, call, def, paren, convert, list, mapping, index, slice, field, unary, binary, Exps, end, more, Pairs, no_pairs, pair, exps_of}
use Rattle.sz_tree.specs.Types.{Typ, basic, type_name, array, map_type, tuple, proto, Params, no_params, param, Fields, no_fields, proto_field, FieldForm, params_of}
use Rattle.sz_tree.specs.Statements.{StepForm, at_index, at_field, PathForm, SimpleForm, assign, increment, decrement, call_of, FirstForm, first_declare, first_define, first_simple, ElemForm, TableForm, QuantifierForm, Stm, empty, block, declare, define, static, typedef, table, function, simple, while, do_while, for_loop, break, continue, return, emit, when, Stms, no_stms, stm, stms_of, if_of}

-- a literal
abbrev pub literal_of : Literal → Lit
literal_of (literals.Number n) = number n
literal_of (literals.Str s) = string s
literal_of (literals.Bytes s) = bytes s.items
literal_of (literals.Character c) = character c
literal_of (literals.Bool b) = boolean b

abbrev mutual
  -- an expression
  pub tree_of : Expr → Exp
  tree_of (exprs.Literal p l) = literal p (literal_of l)
  tree_of (exprs.Named n) = named n
  tree_of (exprs.Call' n s es) = call n (trees_of_row es)
  tree_of (exprs.Def' p b e) = def p (tree_of e)
  tree_of (exprs.Paren' p b e) = paren p (tree_of e)
  tree_of (exprs.Convert' p t b e) = convert p t (tree_of e)
  tree_of (exprs.List' p s es) = list p (trees_of_row es)
  tree_of (exprs.Map' p s ps) = mapping p (pairs_of_row ps)
  tree_of (exprs.Index' p b e c i) = index p (tree_of e) (tree_of i)
  tree_of (exprs.Slice' p b e c i d j) = slice p (tree_of e) (tree_of i) (tree_of j)
  tree_of (exprs.Field' p b e n) = field p (tree_of e) n
  tree_of (exprs.Unary' p o b e) = unary p o (tree_of e)
  tree_of (exprs.Binary' p o b l c r) = binary p o (tree_of l) (tree_of r)

  -- the expressions of a row
  pub trees_of_row : {m : _} → Row_of-Expr m → Exps
  trees_of_row end_of-Expr = end
  trees_of_row (more_of-Expr e es) = more (tree_of e) (trees_of_row es)

  -- the pairs of a row
  pub pairs_of_row : {m : _} → Row_of-Pair m → Pairs
  pairs_of_row end_of-Pair = no_pairs
  pairs_of_row (more_of-Pair k v ps) = pair (tree_of k) (tree_of v) (pairs_of_row ps)

-- a key and its value
abbrev pub pair_of : Pair → Exp × Exp
pair_of p = (tree_of p.key, tree_of p.value)

abbrev mutual
  -- a type
  pub type_of : TypeTree → Typ
  type_of (trees.Basic p b) = basic p b
  type_of (trees.Named n) = type_name n
  type_of (trees.Array' p b t) = array p (type_of t)
  type_of (trees.Map' p n b k c v) = map_type p n (type_of k) (type_of v)
  type_of (trees.Tuple' p s ps) = tuple p (params_of_row ps)
  type_of (trees.Proto' p s fs) = proto p (fields_of_row fs)

  -- the names and types of a row
  pub params_of_row : {m : _} → Row_of-Param m → Params
  params_of_row end_of-Param = no_params
  params_of_row (more_of-Param n t ps) = param n (type_of t) (params_of_row ps)

  -- the fields of a row
  pub fields_of_row : {m : _} → Row_of-ProtoField m → Fields
  fields_of_row end_of-ProtoField = no_fields
  fields_of_row (more_of-ProtoField n t k l fs) = proto_field n (type_of t) k l (fields_of_row fs)

-- a name and its type
abbrev pub param_of : Param → Ident × Typ
param_of p = (p.name, type_of p.of)

-- a field of a message
abbrev pub field_of : ProtoField → FieldForm
field_of f = record { name = f.name; of = type_of f.of; number = f.number; label = f.label }

-- a step of a path, and a path
abbrev pub step_of : Step → StepForm
step_of (steps.Index e) = at_index (tree_of e)
step_of (steps.Field n) = at_field n

abbrev pub path_of : Path → PathForm
path_of p = record { name = p.name; steps = map step_of p.steps.items }

-- a statement that may stand as a step of a `for`, and the first part of one
abbrev pub simple_of : Simple → SimpleForm
simple_of (simples.Assign p e) = assign (path_of p) (tree_of e)
simple_of (simples.Increment n) = increment n
simple_of (simples.Decrement n) = decrement n
simple_of (simples.Call n es) = call_of n (exps_of (map tree_of es.items))

abbrev pub first_of : First → FirstForm
first_of (firsts.Declare n t e) = first_declare n (type_of t) (tree_of e)
first_of (firsts.Define n e) = first_define n (tree_of e)
first_of (firsts.Simple s) = first_simple (simple_of s)

-- an index or a part of a table, and what stands after `table`
abbrev pub elem_of : Elem → ElemForm
elem_of e = record { name = e.name; of = type_of e.of }

abbrev pub table_of : Table → TableForm
table_of t = record {
  kind = t.kind;
  argument = t.argument;
  indexes = map elem_of t.indexes.items;
  of = elem_of t.of;
  weight = option_map elem_of t.weight;
}

-- a quantifier
abbrev pub quantifier_of : Quantifier → QuantifierForm
quantifier_of q = record { names = q.names.items; quantity = q.quantity; of = type_of q.of }

abbrev mutual
  -- a statement
  pub stm_of : Stmt → Stm
  stm_of (stmts.Empty p) = empty p
  stm_of (stmts.Block' p s ss) = block p (stms_of_row ss)
  stm_of (stmts.Declare n t e) = declare n (type_of t) (option_map tree_of e)
  stm_of (stmts.Define n e) = define n (tree_of e)
  stm_of (stmts.Static p n t e) = static p n (type_of t) (tree_of e)
  stm_of (stmts.«Type» p n t) = typedef p n (type_of t)
  stm_of (stmts.Table n t) = table n (table_of t)
  stm_of (stmts.Function' n ps t s ss) = function n (params_of (map param_of ps.items)) (type_of t) (stms_of_row ss)
  stm_of (stmts.Simple s) = simple (simple_of s)
  stm_of (stmts.If' p c b s o) = if_of p (tree_of c) (stm_of s) (else_of o)
  stm_of (stmts.While' p c b s) = while p (tree_of c) (stm_of s)
  stm_of (stmts.DoWhile' p b s c) = do_while p (stm_of s) (tree_of c)
  stm_of (stmts.For' p f c t b s) =
      for_loop p (option_map first_of f) (option_map tree_of c) (option_map simple_of t) (stm_of s)
  stm_of (stmts.Break p) = break p
  stm_of (stmts.Continue p) = continue p
  stm_of (stmts.Return p e) = return p (option_map tree_of e)
  stm_of (stmts.Emit p n is e w) = emit p n (exps_of (map tree_of is.items)) (tree_of e) (option_map tree_of w)
  stm_of (stmts.When' p qs c b s) = when p (map quantifier_of qs.items) (tree_of c) (stm_of s)

  -- the statements of a row
  pub stms_of_row : {m : _} → Row_of-Stmt m → Stms
  stms_of_row end_of-Stmt = no_stms
  stms_of_row (more_of-Stmt s ss) = stm (stm_of s) (stms_of_row ss)

  -- the part after `else`, if there is one
  pub else_of : Held-Stmt-If-3 → Option Stm
  else_of None' = None
  else_of (Some' b s) = Some (stm_of s)

-- a program
abbrev pub program_of : Tree → Stms
program_of t = stms_of (map stm_of t.statements.items)
