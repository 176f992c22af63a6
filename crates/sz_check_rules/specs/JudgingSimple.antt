-- Statements without statements in them: declarations, assignments, calls, `return` and `emit`.
use Rattle.std.specs.Prelude.{ℕ, pos, [], length, Bool, true, false, is_some, Option, Some, None, Ok}
use Rattle.sz_types.specs.Data.{Shape}
use Rattle.sz_types.specs.Rows.{sum_row, difference_row}
use Rattle.sz_types.specs.Tables.{Declaration}
use Rattle.sz_types.specs.declared.place.Place.{Place}
use Rattle.sz_types.specs.declared.operator.BinOp.{BinOp}
use Rattle.sz_types.specs.declared.operator.BinOp.TheVariants.{Add, Sub}
use Rattle.sz_value.specs.Data.{Datum}
use Rattle.sz_tree.specs.Names.{Ident}
use Rattle.sz_tree.specs.Expressions.{Exp, Exps}
use Rattle.sz_tree.specs.Expressions as exps
use Rattle.sz_tree.specs.Statements.{PathForm, SimpleForm, assign, increment, decrement, call_of, FirstForm, first_declare, first_define, first_simple}
use Rattle.sz_tree.specs.Types.{Typ}
use Rattle.sz_core.specs.Nodes.{Node, Nodes, node, type_of}
use Rattle.sz_core.specs.Nodes as forms
use Rattle.sz_core.specs.Statements as core
use Rattle.sz_check_rules.specs.Refusals.{Judged, ◌>>=◌, unless, wrong_kind, wrong_type, wrong_weight, misplaced}
use Rattle.sz_check_rules.specs.Names.{Meaning, look_up}
use Rattle.sz_check_rules.specs.Names as names
use Rattle.sz_check_rules.specs.JudgingTypes.{judge_type}
use Rattle.sz_check_rules.specs.Agreeing.{in_turn, agree, agrees, counted, converted}
use Rattle.sz_check_rules.specs.JudgingExpressions.{judge_exps}
use Rattle.sz_check_rules.specs.JudgingOperators.{test}
use Rattle.sz_check_rules.specs.Scene.{Scene, with_variable}
use Rattle.sz_check_rules.specs.Scenes.{Later, judge, judge_if_some}
use Rattle.sz_check_rules.specs.JudgingPaths.{judge_path}

-- `name: type;`
abbrev pub judge_declaration : Scene → Ident → Typ → Judged Later
judge_declaration s n t = do
  u ← judge_type s.blocks t
  after ← with_variable n u s
  Ok (record { scene = after; stm = core.clear (length s.locals) })

-- `name: type = e;`
abbrev pub judge_initialised : Scene → Ident → Typ → Exp → Judged Later
judge_initialised s n t e = do
  u ← judge_type s.blocks t
  m ← judge s (Some u) e
  value ← converted u e m
  after ← with_variable n u s
  Ok (record { scene = after; stm = core.keep n.place (length s.locals) value })

-- `name := e;`
abbrev pub judge_definition : Scene → Ident → Exp → Judged Later
judge_definition s n e = do
  value ← judge s None e
  after ← with_variable n (type_of value) s
  Ok (record { scene = after; stm = core.keep n.place (length s.locals) value })

-- `path = e`
abbrev pub judge_assignment : Scene → PathForm → Exp → Judged core.Stm
judge_assignment s path e = do
  t ← judge_path s path
  value ← judge s (Some t.type) e
  _ ← agrees (Some t.type) e value
  Ok (core.store path.name.place t.local t.steps value)

-- `name++` or `name--`: `name = name + 1` or `name = name - 1`, all of it at the place of the name
abbrev pub judge_change : Scene → Ident → BinOp → (Shape → Shape → Option Shape) → Judged core.Stm
judge_change s n o row = do
  t ← judge_path s (record { name = n; steps = [] })
  changed t.local t.type (row t.type Shape.int)
  where
    changed : ℕ → Shape → Option Shape → Judged core.Stm
    changed k t (Some u) =
        let one = node n.place Shape.int (forms.constant (Datum.int (pos 1))) in
        Ok (core.store n.place k [] (node n.place u (forms.binary o (node n.place t (forms.local k)) one)))
    changed k t None = wrong_type n.place

-- an assignment or a call
abbrev pub judge_simple : Scene → SimpleForm → Judged core.Stm
judge_simple s (assign path e) = judge_assignment s path e
judge_simple s (increment n) = judge_change s n Add sum_row
judge_simple s (decrement n) = judge_change s n Sub difference_row
judge_simple s (call_of n es) = do
  m ← judge s None (exps.call n es)
  Ok (core.evaluate n.place m)

-- the first part of a `for`
abbrev pub judge_first : Scene → Option FirstForm → Judged Later
judge_first s None = Ok (record { scene = s; stm = core.nothing })
judge_first s (Some (first_declare n t e)) = judge_initialised s n t e
judge_first s (Some (first_define n e)) = judge_definition s n e
judge_first s (Some (first_simple t)) = do
  m ← judge_simple s t
  Ok (record { scene = s; stm = m })

-- what is done between the turns of a `for`
abbrev pub judge_between : Scene → Option SimpleForm → Judged core.Stm
judge_between s None = Ok core.nothing
judge_between s (Some t) = judge_simple s t

-- a test that may be missing
abbrev pub test_if_some : Option Exp → Option Node → Judged Unit
test_if_some (Some c) (Some n) = test c n
test_if_some _ _ = Ok tt

-- `return;` outside functions, and `return e;` inside
abbrev pub judge_return : Scene → Place → Option Shape → Option Exp → Judged core.Stm
judge_return s p None None = Ok (core.end_record p)
judge_return s p (Some t) (Some e) = do
  value ← judge s (Some t) e
  _ ← agrees (Some t) e value
  Ok (core.return_value p value)
judge_return s p _ _ = misplaced p

-- a table by its number, with its declaration
pub record Numbered : Type 0 where
  pub number : ℕ
  pub declaration : Declaration

abbrev pub table_named : Ident → Meaning → Judged Numbered
table_named n (names.table k d) = Ok (record { number = k; declaration = d })
table_named n _ = wrong_kind n

-- the weight of an emit has the type that the table's weights have, if both are there
abbrev pub weight_agrees : Option Shape → Option Exp → Option Node → Judged Unit
weight_agrees (Some t) (Some e) (Some n) = agrees (Some t) e n
weight_agrees _ _ _ = Ok tt

-- both, or none
abbrev pub same_presence : Bool → Bool → Bool
same_presence true b = b
same_presence false true = false
same_presence false false = true

-- the parts of an emit
pub record Emitted : Type 0 where
  pub indexes : Nodes
  pub value : Node
  pub weight : Option Node

abbrev pub judge_emitted : Scene → Declaration → Exps → Exp → Option Exp → Judged Emitted
judge_emitted s d es e w = do
  indexes ← judge_exps s.blocks true (in_turn d.indexes) es
  value ← judge s (Some d.element) e
  weight ← judge_if_some s d.weight w
  Ok (record { indexes = indexes; value = value; weight = weight })

-- the parts of an emit are as the table's declaration asks; the places are that of the emit and that of the table's
-- name
abbrev pub emitted_fits : Declaration → Place → Place → Exps → Exp → Option Exp → Emitted → Judged Unit
emitted_fits d p q es e w x = do
  _ ← agree (in_turn d.indexes) es x.indexes
  _ ← agrees (Some d.element) e x.value
  _ ← weight_agrees d.weight w x.weight
  _ ← counted (length d.indexes) es q
  unless (same_presence (is_some d.weight) (is_some w)) (wrong_weight p)

-- `emit name[e].. <- e weight e;`
abbrev pub judge_emit : Scene → Place → Ident → Exps → Exp → Option Exp → Judged core.Stm
judge_emit s p n es e w = do
  m ← look_up n s.blocks
  t ← table_named n m
  x ← judge_emitted s t.declaration es e w
  _ ← emitted_fits t.declaration p n.place es e w x
  Ok (core.emit p t.number x.indexes x.value x.weight)

-- a statement that declares nothing for those after it
abbrev pub done : Scene → Judged core.Stm → Judged Later
done s judged = do
  m ← judged
  Ok (record { scene = s; stm = m })
