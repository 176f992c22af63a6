-- What expressions give: operands first, in reading order, then the ticks of the expression itself, then its value.
use Rattle.std.specs.Prelude.{ℕ, ◌+◌, List, [], ◌∷◌, true, false, Option, Some, None}
use Rattle.sz_types.specs.Data.{Shape}
use Rattle.sz_types.specs.declared.place.Place.{Place}
use Rattle.sz_value.specs.Data.{Datum, truth}
use Rattle.sz_core.specs.Nodes.{Node, node, Form, constant, local, static, input, call, builtin, def, convert, array, tuple, mapping, index, slice}
use Rattle.sz_core.specs.Nodes.{field, unary, binary, both, either, Nodes, no_nodes, with_node, Pairings, no_pairings, with_pairing}
use Rattle.sz_core.specs.Statements.{Step, at_index, at_field}
use Rattle.sz_world_rules.specs.World.{Doing, ◌>>=◌, ◌>>◌, give, pay}
use Rattle.sz_world_rules.specs.Slots.{Slot, slot_at, all_defined}
use Rattle.sz_world_rules.specs.Operations.{unary_of, binary_of, applied, element_of, slice_of, part_of, definedness, converted, array_of, tuple_of, map_of}
use Rattle.sz_world_rules.specs.Ticks.{no_weight, result_weight, binary_weight, builtin_weight, conversion_weight}

-- what calls do: of the function with this number, made at this place, with these arguments
abbrev pub Calls : Type 0
Calls = ℕ → Place → List Datum → Doing Slot

-- what stays fixed while statements run: what calls do, the statics, the record, and the table that counts the lines
-- that are passed over, if they are
pub record Setting : Type 0 where
  pub calls : Calls
  pub statics : List Slot
  pub input : Slot
  pub counting : Option ℕ

-- an expression's own tick is taken, with what its result adds to it, and then it gives the result
abbrev pub results : Place → (Slot → ℕ) → Slot → Doing Slot
results place added result = do
  pay (1 + added result) place
  give result

-- a call with these arguments; one with an undefined argument isn't made, and is undefined
abbrev pub called : Calls → ℕ → Place → Option (List Datum) → Doing Slot
called calls f place None = give None
called calls f place (Some arguments) = calls f place arguments

-- the right operand of `&&`, if the left one is true; else the left one decides
abbrev pub if_true : Slot → Doing Slot → Doing Slot
if_true (Some (truth true)) right = right
if_true left right = give left

-- the right operand of `||`, if the left one is false; else the left one decides
abbrev pub if_false : Slot → Doing Slot → Doing Slot
if_false (Some (truth false)) right = right
if_false left right = give left

module _ (s : Setting) (locals : List Slot) where
  abbrev mutual
    -- what an expression gives, in a setting and with these variables
    pub eval : Node → Doing Slot
    eval (node place t form) = eval_form place t form

    -- what an expression of this form gives, at this place and of this type
    pub eval_form : Place → Shape → Form → Doing Slot
    eval_form place t (constant d) = results place no_weight (Some d)
    eval_form place t (local n) = results place no_weight (slot_at locals n)
    eval_form place t (static n) = results place no_weight (slot_at s.statics n)
    eval_form place t input = results place no_weight s.input
    eval_form place t (call f es) = do
      arguments ← eval_all es
      pay 1 place
      called s.calls f place (all_defined arguments)
    eval_form place t (builtin b es) = do
      arguments ← eval_all es
      results place (builtin_weight b) (applied b arguments)
    eval_form place t (def e) = do
      x ← eval e
      results place no_weight (definedness x)
    eval_form place t (convert e) = do
      x ← eval e
      results place (conversion_weight t x) (converted t x)
    eval_form place t (array es) = do
      elements ← eval_all es
      results place result_weight (array_of elements)
    eval_form place t (tuple es) = do
      parts ← eval_all es
      results place result_weight (tuple_of parts)
    eval_form place t (mapping ps) = do
      parts ← eval_pairings ps
      results place result_weight (map_of parts)
    eval_form place t (index e i) = do
      x ← eval e
      y ← eval i
      results place no_weight (element_of x y)
    eval_form place t (slice e i j) = do
      x ← eval e
      y ← eval i
      z ← eval j
      results place result_weight (slice_of x y z)
    eval_form place t (field e n) = do
      x ← eval e
      results place no_weight (part_of n x)
    eval_form place t (unary o e) = do
      x ← eval e
      results place no_weight (unary_of o x)
    eval_form place t (binary o a b) = do
      x ← eval a
      y ← eval b
      results place (binary_weight o) (binary_of o x y)
    eval_form place t (both a b) = do
      x ← eval a
      y ← if_true x (eval b)
      results place no_weight y
    eval_form place t (either a b) = do
      x ← eval a
      y ← if_false x (eval b)
      results place no_weight y

    -- what expressions give, one after the other
    pub eval_all : Nodes → Doing (List Slot)
    eval_all no_nodes = give []
    eval_all (with_node e es) = do
      x ← eval e
      xs ← eval_all es
      give (x ∷ xs)

    -- what keys and values give, by turns
    pub eval_pairings : Pairings → Doing (List Slot)
    eval_pairings no_pairings = give []
    eval_pairings (with_pairing k v ps) = do
      x ← eval k
      y ← eval v
      xs ← eval_pairings ps
      give (x ∷ y ∷ xs)

  -- what the indexes among steps give, in order
  abbrev pub eval_indexes : List Step → Doing (List Slot)
  eval_indexes [] = give []
  eval_indexes (at_index e ∷ steps) = do
    x ← eval e
    xs ← eval_indexes steps
    give (x ∷ xs)
  eval_indexes (at_field n ∷ steps) = eval_indexes steps

  -- what an expression gives, where there is one
  abbrev pub eval_if_some : Option Node → Doing (Option Slot)
  eval_if_some None = give None
  eval_if_some (Some e) = do
    x ← eval e
    give (Some x)
