-- Which checked expressions have their types: each name is seen where it stands, each operator, predeclared function
-- and conversion has a row for its operands in the tables of types, and each composite is of a well-formed type and
-- stands where a type is asked of it.
use Rattle.std.specs.Prelude.{◌≡◌, ℕ, List, [], ◌∷◌, map, slice_get, Bool, true, Some}
use Rattle.std.specs.List.{Contains}
use Rattle.sz_types.specs.Data.{Shape, FieldShapes, no_fields, with_field, field}
use Rattle.sz_types.specs.Conversions.{converts_to}
use Rattle.sz_types.specs.Rows.{unary_row, binary_row, index_row, slice_row, builtin_row}
use Rattle.sz_types.specs.Tables.{Declaration}
use Rattle.sz_value.specs.Data.{Datum}
use Rattle.sz_core.specs.Nodes.{Node, node, Form, constant, local, static, input, call, builtin, def, convert, array, tuple, mapping, index, slice}
use Rattle.sz_core.specs.Nodes.{field as part, unary, binary, both, either, Nodes, no_nodes, with_node, Pairings, no_pairings, with_pairing, type_of, types_of}
use Rattle.sz_core.specs.Programs.{Signature}
use Rattle.sz_core.specs.WellFormed.{is_well_formed, are_well_formed}

-- what can be used at a place: the variables of the routine with their types, the numbers of those that are seen, and
-- the numbers of those that can't be assigned; the statics, functions and tables that are declared before; whether
-- the record is seen; and whether a function that emits may be called
pub record Sight : Type 0 where
  pub locals : List Shape
  pub seen : List ℕ
  pub fixed : List ℕ
  pub statics : List Shape
  pub functions : List Signature
  pub tables : List Declaration
  pub input : Bool
  pub may_emit : Bool

-- the type of a literal's value
abbrev pub HasLiteralType : Datum → Shape → Type 0
HasLiteralType (Datum.truth b) t = t ≡ Shape.truth
HasLiteralType (Datum.int n) t = t ≡ Shape.int
HasLiteralType (Datum.str s) t = t ≡ Shape.str
HasLiteralType (Datum.bytes s) t = t ≡ Shape.bytes
HasLiteralType _ t = ⊥

-- the fields of a tuple or of a message
abbrev pub HasFields : Shape → FieldShapes → Type 0
HasFields (Shape.tuple fields) fs = fs ≡ fields
HasFields (Shape.proto fields) fs = fs ≡ fields
HasFields _ fs = ⊥

-- the types of fields, in order
abbrev pub field_types : FieldShapes → List Shape
field_types no_fields = []
field_types (with_field (field name t number code) fields) = t ∷ field_types fields

-- the types of the results of functions, in order
abbrev pub results_of : List Signature → List Shape
results_of fs = map (λ (f : Signature). f.result) fs

-- what can be used at a place has well-formed types
pub record HasFormedTypes (g : Sight) : Type 0 where
  pub locals : are_well_formed g.locals ≡ true
  pub statics : are_well_formed g.statics ≡ true
  pub results : are_well_formed (results_of g.functions) ≡ true

-- each type of the list is this one
abbrev pub AreAll : Shape → List Shape → Type 0
AreAll t [] = Unit {0}
AreAll t (s ∷ ss) = (s ≡ t) × AreAll t ss

-- the expression has a type by itself. A composite has none: it takes the one that its place asks for, so it can't
-- stand where none is asked
abbrev pub HasOwnType : Node → Type 0
HasOwnType (node p t (array es)) = ⊥
HasOwnType (node p t (tuple es)) = ⊥
HasOwnType (node p t (mapping ps)) = ⊥
HasOwnType _ = Unit {0}

-- so has each of the expressions
abbrev pub HaveOwnTypes : Nodes → Type 0
HaveOwnTypes no_nodes = Unit {0}
HaveOwnTypes (with_node e es) = HasOwnType e × HaveOwnTypes es

-- there is an expression: a composite without parts is an array or a map
abbrev pub HasPart : Nodes → Type 0
HasPart no_nodes = ⊥
HasPart _ = Unit {0}

unfoldable mutual
  -- the expression has its type
  pub IsNode : Sight → Node → Type 0
  IsNode g (node p t f) = IsForm g t f

  -- an expression of this form has this type
  pub IsForm : Sight → Shape → Form → Type 0
  IsForm g t (constant d) = HasLiteralType d t
  IsForm g t (local n) = Contains g.seen n × (slice_get g.locals n ≡ Some t)
  IsForm g t (static n) = slice_get g.statics n ≡ Some t
  IsForm g t input = (g.input ≡ true) × (t ≡ Shape.bytes)
  IsForm g t (call f es) =
      AreNodes g es
      × ((s : Signature) × (slice_get g.functions f ≡ Some s) × (types_of es ≡ s.parameters) × (t ≡ s.result)
      × ((s.emits ≡ true) → g.may_emit ≡ true))
  IsForm g t (builtin b es) = AreNodes g es × (builtin_row b (types_of es) ≡ Some t) × HaveOwnTypes es
  IsForm g t (def e) = IsNode g e × (t ≡ Shape.truth) × HasOwnType e
  IsForm g t (convert e) = IsNode g e × (is_well_formed t ≡ true) × (converts_to (type_of e) t ≡ true) × HasOwnType e
  IsForm g t (array es) =
      AreNodes g es × (is_well_formed t ≡ true) × ((u : Shape) × (t ≡ Shape.array u) × AreAll u (types_of es))
  IsForm g t (tuple es) =
      AreNodes g es × (is_well_formed t ≡ true)
      × ((fs : FieldShapes) × HasFields t fs × (types_of es ≡ field_types fs)) × HasPart es
  IsForm g t (mapping ps) = (is_well_formed t ≡ true) × ((k v : Shape) × (t ≡ Shape.mapping k v) × ArePairings g k v ps)
  IsForm g t (index e i) = IsNode g e × IsNode g i × (index_row (type_of e) (type_of i) ≡ Some t)
      × HasOwnType e × HasOwnType i
  IsForm g t (slice e i j) =
      IsNode g e × IsNode g i × IsNode g j × (slice_row (type_of e) ≡ Some t) × (type_of i ≡ Shape.int)
      × (type_of j ≡ Shape.int) × HasOwnType e
  IsForm g t (part e n) =
      IsNode g e
      × ((fs : FieldShapes) × HasFields (type_of e) fs × (slice_get (field_types fs) n ≡ Some t)) × HasOwnType e
  IsForm g t (unary o e) = IsNode g e × (unary_row o (type_of e) ≡ Some t)
  IsForm g t (binary o a b) = IsNode g a × IsNode g b × (binary_row o (type_of a) (type_of b) ≡ Some t) × HasOwnType a
  IsForm g t (both a b) = IsNode g a × IsNode g b × (type_of a ≡ Shape.truth) × (type_of b ≡ Shape.truth)
      × (t ≡ Shape.truth)
  IsForm g t (either a b) = IsNode g a × IsNode g b × (type_of a ≡ Shape.truth) × (type_of b ≡ Shape.truth)
      × (t ≡ Shape.truth)

  -- each expression has its type
  pub AreNodes : Sight → Nodes → Type 0
  AreNodes g no_nodes = Unit {0}
  AreNodes g (with_node e es) = IsNode g e × AreNodes g es

  -- each key is of the first type, and each value of the second
  pub ArePairings : Sight → Shape → Shape → Pairings → Type 0
  ArePairings g k v no_pairings = Unit {0}
  ArePairings g k v (with_pairing a b ps) =
      IsNode g a × IsNode g b × (type_of a ≡ k) × (type_of b ≡ v) × ArePairings g k v ps

-- the expression is a call: of a function, of a predeclared one, or of a type by its name, which converts
abbrev pub IsCall : Node → Type 0
IsCall (node p t (call f es)) = Unit {0}
IsCall (node p t (builtin b es)) = Unit {0}
IsCall (node p t (convert e)) = Unit {0}
IsCall _ = ⊥
