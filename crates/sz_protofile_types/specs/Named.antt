-- Types whose fields have names that a program can have.
use Rattle.std.specs.Prelude.{ℕ, ◌+◌, ◌≤◌, List, length}
use Rattle.std.specs.List.{Contains}
use Rattle.sz_types.specs.Data as data_of
use Rattle.sz_types.specs.Data.{Shape, FieldShapes, field, no_fields, with_field}
use Rattle.sz_lex.specs.Tokens.{IsLexeme}
use Rattle.sz_lex.specs.declared.token.Kind.TheVariants as kinds
use Rattle.sz_protofile.specs.Types.{TypeShape, HasTypes}

-- the name is one that a program can have, no reserved word among them, and has at most so many bytes
pub record IsFieldName (most : ℕ) (name : List ℕ) : Type 0 where
  pub is : IsLexeme kinds.Name name
  pub few : length name ≤ most

abbrev mutual
  -- at every level of the type the fields have such names
  pub AreNamed : ℕ → Shape → Type 0
  AreNamed most (data_of.array s) = AreNamed most s
  AreNamed most (data_of.mapping k v) = AreNamed most k × AreNamed most v
  AreNamed most (data_of.tuple fs) = FieldsAreNamed most fs
  AreNamed most (data_of.proto fs) = FieldsAreNamed most fs
  AreNamed most _ = Unit {0}

  -- the same of fields, and of their types
  pub FieldsAreNamed : ℕ → FieldShapes → Type 0
  FieldsAreNamed most no_fields = Unit {0}
  FieldsAreNamed most (with_field (field name s number code) fs) =
      IsFieldName most name × AreNamed most s × FieldsAreNamed most fs

-- the fields of each file's types have names that a program can have, with a byte more than the file at most
abbrev pub FieldsHaveNames : Type 0
FieldsHaveNames = (bytes : List ℕ) (types : List TypeShape) → HasTypes bytes types → (t : TypeShape) → Contains types t
    → AreNamed (length bytes + 1) t.shape
