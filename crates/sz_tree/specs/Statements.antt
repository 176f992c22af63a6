-- Statements as contracts see them.
use Rattle.std.specs.Prelude.{ℕ, ◌+◌, ℤ, Option, Some, None, List, [], ◌∷◌, max}
use Rattle.sz_types.specs.declared.place.Place.{Place}
use Rattle.sz_tree.specs.declared.stmt.Quantity.{Quantity}
use Rattle.sz_tree.specs.Names.{Ident}
use Rattle.sz_tree.specs.Expressions.{Exp, Exps, height, heights}
use Rattle.sz_tree.specs.Types.{Typ, Params, type_height, param_heights}

-- a step of a path
pub data StepForm : Type 0 where
  at_index : Exp → StepForm
  at_field : Ident → StepForm

-- what is assigned to
pub record PathForm : Type 0 where
  pub name : Ident
  pub steps : List StepForm

-- a statement that may stand as a step of a `for`
pub data SimpleForm : Type 0 where
  assign : PathForm → Exp → SimpleForm
  increment : Ident → SimpleForm
  decrement : Ident → SimpleForm
  call_of : Ident → Exps → SimpleForm

-- the first part of a `for`
pub data FirstForm : Type 0 where
  first_declare : Ident → Typ → Exp → FirstForm
  first_define : Ident → Exp → FirstForm
  first_simple : SimpleForm → FirstForm

-- an index or a part of a table
pub record ElemForm : Type 0 where
  pub name : Option Ident
  pub of : Typ

-- what stands after `table`
pub record TableForm : Type 0 where
  pub kind : Ident
  pub argument : Option ℤ
  pub indexes : List ElemForm
  pub of : ElemForm
  pub weight : Option ElemForm

-- a quantifier of a `when`
pub record QuantifierForm : Type 0 where
  pub names : List Ident
  pub quantity : Quantity
  pub of : Typ

mutual
  -- a statement, by the rule that spells it
  pub data Stm : Type 0 where
    empty : Place → Stm
    block : Place → Stms → Stm
    declare : Ident → Typ → Option Exp → Stm
    define : Ident → Exp → Stm
    static : Place → Ident → Typ → Exp → Stm
    typedef : Place → Ident → Typ → Stm
    table : Ident → TableForm → Stm
    function : Ident → Params → Typ → Stms → Stm
    simple : SimpleForm → Stm
    if_only : Place → Exp → Stm → Stm
    if_else : Place → Exp → Stm → Stm → Stm
    while : Place → Exp → Stm → Stm
    do_while : Place → Stm → Exp → Stm
    for_loop : Place → Option FirstForm → Option Exp → Option SimpleForm → Stm → Stm
    break : Place → Stm
    continue : Place → Stm
    return : Place → Option Exp → Stm
    emit : Place → Ident → Exps → Exp → Option Exp → Stm
    when : Place → List QuantifierForm → Exp → Stm → Stm

  -- statements, one after the other
  pub data Stms : Type 0 where
    no_stms : Stms
    stm : Stm → Stms → Stms

-- the same as a list
abbrev pub stms_of : List Stm → Stms
stms_of [] = no_stms
stms_of (s ∷ ss) = stm s (stms_of ss)

-- an `if`, with or without its `else`
abbrev pub if_of : Place → Exp → Stm → Option Stm → Stm
if_of p c s None = if_only p c s
if_of p c s (Some t) = if_else p c s t

-- the place of the first token
abbrev pub simple_place : SimpleForm → Place
simple_place (assign p e) = p.name.place
simple_place (increment n) = n.place
simple_place (decrement n) = n.place
simple_place (call_of n es) = n.place

abbrev pub stm_place : Stm → Place
stm_place (empty p) = p
stm_place (block p ss) = p
stm_place (declare n t e) = n.place
stm_place (define n e) = n.place
stm_place (static p n t e) = p
stm_place (typedef p n t) = p
stm_place (table n t) = n.place
stm_place (function n ps t ss) = n.place
stm_place (simple s) = simple_place s
stm_place (if_only p c s) = p
stm_place (if_else p c s t) = p
stm_place (while p c s) = p
stm_place (do_while p s c) = p
stm_place (for_loop p f c s t) = p
stm_place (break p) = p
stm_place (continue p) = p
stm_place (return p e) = p
stm_place (emit p n is e w) = p
stm_place (when p qs c s) = p

-- the height of a part that may be left out
abbrev pub part_height : {A : Type 0} → (A → ℕ) → Option A → ℕ
part_height h None = 0
part_height h (Some x) = h x

-- the greatest height of the items
abbrev pub greatest : {A : Type 0} → (A → ℕ) → List A → ℕ
greatest h [] = 0
greatest h (x ∷ xs) = max (h x) (greatest h xs)

-- a path, an index of a table and a quantifier are as high as the highest of their parts; a name adds nothing to those
abbrev pub step_height : StepForm → ℕ
step_height (at_index e) = height e
step_height (at_field n) = 0

abbrev pub elem_height : ElemForm → ℕ
elem_height e = type_height e.of

abbrev pub quantifier_height : QuantifierForm → ℕ
quantifier_height q = type_height q.of

abbrev pub table_height : TableForm → ℕ
table_height t = max (greatest elem_height t.indexes) (max (elem_height t.of) (part_height elem_height t.weight))

-- name++ and name-- count as the assignments that they mean
unfoldable pub simple_height : SimpleForm → ℕ
simple_height (assign p e) = 1 + max (greatest step_height p.steps) (height e)
simple_height (increment n) = 3
simple_height (decrement n) = 3
simple_height (call_of n es) = 1 + max 1 (heights es)

-- the first part of a `for` is as high as the statement that it would be alone
unfoldable pub first_height : FirstForm → ℕ
first_height (first_declare n t e) = 1 + max (type_height t) (height e)
first_height (first_define n e) = 1 + height e
first_height (first_simple s) = simple_height s

unfoldable mutual
  -- 1 more than the greatest height of a part; a name is a part of height 1
  pub stm_height : Stm → ℕ
  stm_height (empty p) = 1
  stm_height (block p ss) = 1 + stm_heights ss
  stm_height (declare n t e) = 1 + max (type_height t) (part_height height e)
  stm_height (define n e) = 1 + height e
  stm_height (static p n t e) = 1 + max (type_height t) (height e)
  stm_height (typedef p n t) = 1 + type_height t
  stm_height (table n t) = 1 + table_height t
  stm_height (function n ps t ss) = 1 + max (max (param_heights ps) (type_height t)) (stm_heights ss)
  stm_height (simple s) = simple_height s
  stm_height (if_only p c s) = 1 + max (height c) (stm_height s)
  stm_height (if_else p c s t) = 1 + max (max (height c) (stm_height s)) (stm_height t)
  stm_height (while p c s) = 1 + max (height c) (stm_height s)
  stm_height (do_while p s c) = 1 + max (stm_height s) (height c)
  stm_height (for_loop p f c t s) = 1 + max (max (part_height first_height f) (part_height height c))
      (max (part_height simple_height t) (stm_height s))
  stm_height (break p) = 1
  stm_height (continue p) = 1
  stm_height (return p e) = 1 + part_height height e
  stm_height (emit p n is e w) = 1 + max (max (heights is) (height e)) (part_height height w)
  stm_height (when p qs c s) = 1 + max (greatest quantifier_height qs) (max (height c) (stm_height s))

  -- the greatest of the heights
  pub stm_heights : Stms → ℕ
  stm_heights no_stms = 0
  stm_heights (stm s ss) = max (stm_height s) (stm_heights ss)
