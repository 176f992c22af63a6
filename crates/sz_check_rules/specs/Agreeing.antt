-- What a place asks of the expressions that stand there, and where they first disagree.
use Rattle.std.specs.Prelude.{ℕ, ◌+◌, List, [], ◌∷◌, length, Bool, true, false, if◌then◌else◌, is_some, nat_eq, Option, Some, None, Ok, bytes_eq}
use Rattle.sz_types.specs.Data.{Shape, FieldShapes, no_fields, with_field, field}
use Rattle.sz_types.specs.Same.{alike}
use Rattle.sz_types.specs.Conversions.{converts_to}
use Rattle.sz_types.specs.Rows.{len_row, keys_row, haskey_row, strfind_row}
use Rattle.sz_types.specs.declared.place.Place.{Place}
use Rattle.sz_types.specs.declared.operator.Builtin.{Builtin}
use Rattle.sz_types.specs.declared.operator.Builtin.TheVariants.{Len, Keys, HasKey, StrFind}
use Rattle.sz_tree.specs.Expressions.{Exp, Exps, end, more, Pairs, pair, place_of}
use Rattle.sz_core.specs.Nodes.{Node, node, convert, Nodes, with_node, Pairings, with_pairing, type_of}
pub use Rattle.sz_core.specs.Typing.{field_types}
use Rattle.sz_check_rules.specs.Refusals.{Judged, ◌>>=◌, unless, wrong_type, wrong_count}

-- the types that a place asks of the expressions there, one by one: none, the same of each, or these in turn and then
-- none
pub data Asks : Type 0 where
  nothing : Asks
  each : Shape → Asks
  in_turn : List Shape → Asks

-- what is asked of the first expression
abbrev pub asked_first : Asks → Option Shape
asked_first nothing = None
asked_first (each t) = Some t
asked_first (in_turn []) = None
asked_first (in_turn (t ∷ ts)) = Some t

-- what is asked of those after it
abbrev pub asked_after : Asks → Asks
asked_after nothing = nothing
asked_after (each t) = each t
asked_after (in_turn []) = nothing
asked_after (in_turn (t ∷ ts)) = in_turn ts

-- the expression has the type that is asked, if one is; else it is the wrong one
abbrev pub agrees : Option Shape → Exp → Node → Judged Unit
agrees None e n = Ok tt
agrees (Some t) e n = unless (alike (type_of n) t) (wrong_type (place_of e))

-- each expression has the type that is asked of it, as far as types are asked; else the first that hasn't is the
-- wrong one
unfoldable pub agree : Asks → Exps → Nodes → Judged Unit
agree asks (more e es) (with_node n ns) = do
  _ ← agrees (asked_first asks) e n
  agree (asked_after asks) es ns
agree asks _ _ = Ok tt

-- the same of keys and values
unfoldable pub pairs_agree : Shape → Shape → Pairs → Pairings → Judged Unit
pairs_agree k v (pair a b ps) (with_pairing m n ns) = do
  _ ← agrees (Some k) a m
  _ ← agrees (Some v) b n
  pairs_agree k v ps ns
pairs_agree k v _ _ = Ok tt

-- how many expressions there are
abbrev pub count_of : Exps → ℕ
count_of end = 0
count_of (more e es) = 1 + count_of es

-- there are just so many expressions, or the count at the place is wrong
abbrev pub counted : ℕ → Exps → Place → Judged Unit
counted n es p = unless (nat_eq (count_of es) n) (wrong_count p)

-- how many fields there are
abbrev pub fields_count : FieldShapes → ℕ
fields_count fields = length (field_types fields)

-- a field by its place, counted from 0, and its type
pub record Found : Type 0 where
  pub place : ℕ
  pub type : Shape

-- the field with this name, where the first one has this place
abbrev pub field_named : List ℕ → ℕ → FieldShapes → Option Found
field_named name at no_fields = None
field_named name at (with_field (field other t number code) fields) =
    if bytes_eq name other then Some (record { place = at; type = t }) else field_named name (1 + at) fields

-- a value of the type that a declaration has: as it is, or converted, or of the wrong type
abbrev pub converted : Shape → Exp → Node → Judged Node
converted t e n =
    if alike (type_of n) t then Ok n
    else (if converts_to (type_of n) t then Ok (node (place_of e) t (convert n)) else wrong_type (place_of e))

-- an operand of a type that a row takes, or the wrong one
abbrev pub taken : Option Shape → Exp → Judged Unit
taken row e = unless (is_some row) (wrong_type (place_of e))

-- whether `strfind` can search for a value of this type
abbrev pub is_searched_for : Shape → Bool
is_searched_for Shape.str = true
is_searched_for Shape.bytes = true
is_searched_for _ = false

-- whether the type is that of maps
abbrev pub is_map : Shape → Bool
is_map (Shape.mapping k v) = true
is_map _ = false

-- the arguments of a predeclared function have types that it takes, as far as they are there; else the first that
-- hasn't is the wrong one
abbrev pub arguments_fit : Builtin → Exps → Nodes → Judged Unit
arguments_fit Len (more e es) (with_node n ns) = taken (len_row (type_of n)) e
arguments_fit Keys (more e es) (with_node n ns) = taken (keys_row (type_of n)) e
arguments_fit HasKey (more e end) (with_node n ns) = unless (is_map (type_of n)) (wrong_type (place_of e))
arguments_fit HasKey (more e (more k es)) (with_node n (with_node m ns)) = do
  _ ← unless (is_map (type_of n)) (wrong_type (place_of e))
  taken (haskey_row (type_of n) (type_of m)) k
arguments_fit StrFind (more e end) (with_node n ns) = unless (is_searched_for (type_of n)) (wrong_type (place_of e))
arguments_fit StrFind (more e (more k es)) (with_node n (with_node m ns)) = do
  _ ← unless (is_searched_for (type_of n)) (wrong_type (place_of e))
  taken (strfind_row (type_of n) (type_of m)) k
arguments_fit b es ns = Ok tt
