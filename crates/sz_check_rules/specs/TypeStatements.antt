-- Statements at the top of a program that declare message types, each written out without other types' names.
use Rattle.std.specs.Prelude.{◌≡◌, ℕ, pos, List, [], ◌∷◌, Option, Some, None, IfSome, IsFalse, codes}
use Rattle.sz_types.specs.Data.{Shape, FieldShapes, field}
use Rattle.sz_types.specs.Data as shapes
use Rattle.sz_types.specs.declared.encoding.Encoding.{Encoding}
use Rattle.sz_types.specs.declared.encoding.Encoding.TheVariants.{Plain, Zigzag, Fixed32, Fixed64}
use Rattle.sz_tree.specs.declared.types.BasicType.TheVariants as basics
use Rattle.sz_tree.specs.Names.{Ident}
use Rattle.sz_tree.specs.Types.{Typ, basic, array, proto, Fields, no_fields, proto_field}
use Rattle.sz_tree.specs.Statements.{Stm, declare, define, static, typedef, table, function, Stms, no_stms, stm}
use Rattle.sz_check_rules.specs.Refusals.{has_name}
use Rattle.sz_check_rules.specs.JudgingWithTypes.{NamedShape}

-- the word behind a field is that of this encoding: none is that of the plain one
abbrev pub IsWord : Encoding → Option Ident → Type 0
IsWord Plain None = Unit {0}
IsWord Zigzag (Some word) = word.text ≡ codes "zigzag"
IsWord Fixed32 (Some word) = word.text ≡ codes "fixed32"
IsWord Fixed64 (Some word) = word.text ≡ codes "fixed64"
IsWord _ _ = ⊥

abbrev mutual
  -- the tree spells the type, which is one that a message can hold, wherever its parts stand
  pub Spells : Typ → Shape → Type 0
  Spells (basic p basics.Bool) Shape.truth = Unit {0}
  Spells (basic p basics.Int) Shape.int = Unit {0}
  Spells (basic p basics.Time) Shape.time = Unit {0}
  Spells (basic p basics.String) Shape.str = Unit {0}
  Spells (basic p basics.Bytes) Shape.bytes = Unit {0}
  Spells (array p t) (Shape.array s) = Spells t s
  Spells (proto p fs) (Shape.proto fields) = SpellFields fs fields
  Spells _ _ = ⊥

  -- the same of the fields of a message
  pub SpellFields : Fields → FieldShapes → Type 0
  SpellFields no_fields shapes.no_fields = Unit {0}
  SpellFields (proto_field n t k word fs) (shapes.with_field (field name s number code) fields) =
      (n.text ≡ name) × Spells t s × (k ≡ pos number) × IsWord code word × SpellFields fs fields
  SpellFields _ _ = ⊥

-- these statements declare just these types under their names, in order
abbrev pub DeclareTypes : List Stm → List NamedShape → Type 0
DeclareTypes [] [] = Unit {0}
DeclareTypes (typedef p n t ∷ ss) (named ∷ types) = (n.text ≡ named.0) × Spells t named.1 × DeclareTypes ss types
DeclareTypes _ _ = ⊥

-- these statements in front of a program
abbrev pub written_first : List Stm → Stms → Stms
written_first [] program = program
written_first (s ∷ ss) program = stm s (written_first ss program)

-- the name that a statement declares where it stands, if it declares one
abbrev pub declared_name : Stm → Option (List ℕ)
declared_name (declare n t e) = Some n.text
declared_name (define n e) = Some n.text
declared_name (static p n t e) = Some n.text
declared_name (typedef p n t) = Some n.text
declared_name (table n f) = Some n.text
declared_name (function n ps t ss) = Some n.text
declared_name _ = None

-- none of the program's statements at the top level declares one of these names
abbrev pub DeclaresNone : List (List ℕ) → Stms → Type 0
DeclaresNone names no_stms = Unit {0}
DeclaresNone names (stm s ss) = IfSome (declared_name s) (λ name. IsFalse (has_name name names)) × DeclaresNone names ss
