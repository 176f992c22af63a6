-- The fields of messages, and which of them are kept.
use Rattle.std.specs.Prelude.{◌≡◌, ℕ, List, [], ◌∷◌, ◌++◌, Option, Some, None, Contains, if◌then◌else◌}
use Rattle.sz_types.specs.Data as data_of
use Rattle.sz_types.specs.Data.{Shape, FieldShape, field}
use Rattle.sz_types.specs.declared.encoding.Encoding.{Encoding}
use Rattle.sz_types.specs.declared.encoding.Encoding.TheVariants as encodings
use Rattle.sz_protofile.specs.Reading.{Spelling}
use Rattle.sz_protofile.specs.declared.line.Line.{Line}
use Rattle.sz_protofile.specs.declared.line.Line.TheVariants as lines
use Rattle.sz_protofile.specs.declared.line.FieldLine.{FieldLine}
use Rattle.sz_protofile.specs.declared.field.Plain.{Plain}
use Rattle.sz_protofile.specs.declared.field.PlainKind.TheVariants as kinds
use Rattle.sz_protofile.specs.declared.field.Sort.{Sort}
use Rattle.sz_protofile.specs.declared.field.Sort.TheVariants as sorts
use Rattle.sz_protofile.specs.declared.field.FieldIn.{FieldIn}
use Rattle.sz_protofile.specs.declared.scalar.Scalar.{Scalar}
use Rattle.sz_protofile.specs.declared.scope.Scope.{Scope}
use Rattle.sz_protofile.specs.Names.{has_name, unreserved, innermost, around_after}
use Rattle.sz_protofile.specs.Scalars.{scalar_of, plain_of, shape_of}
use Rattle.sz_protofile.specs.Lookup.{Known, looked_up}

-- what a field of a scalar's type is
abbrev pub sort_of_plain : Option Plain → Sort
sort_of_plain (Some p) = sorts.Kept p
sort_of_plain None = sorts.Unkept

-- what a field of an enum's type is: a whole number
abbrev pub whole : Plain
whole = record { kind = kinds.Whole; code = encodings.Plain }

-- what a field is whose type has this full name, if it has one, where these are the messages' names
abbrev pub sort_of_name : List (List ℕ) → Option (List ℕ) → Sort
sort_of_name messages (Some name) = if has_name name messages then sorts.Message name else sorts.Kept whole
sort_of_name messages None = sorts.Unkept

-- what a field is by the word for its type: the scalars come first
abbrev pub sort_by : Option Scalar → List (List ℕ) → Option (List ℕ) → Sort
sort_by (Some s) messages name = sort_of_plain (plain_of s)
sort_by None messages name = sort_of_name messages name

module _ (text : Spelling) (known : Known) (messages : List (List ℕ)) where
  abbrev pub field_in : List Scope → FieldLine → FieldIn
  field_in around f = record {
    owner = (innermost around).full;
    name = unreserved (text f.member.name);
    number = f.member.number;
    repeated = f.repeated;
    sort = sort_by (scalar_of (text f.word)) messages (looked_up known around (text f.word));
  }

  -- the field that a line has
  abbrev pub field_by : List Scope → Line → List FieldIn
  field_by around (lines.Field f) = field_in around f ∷ []
  field_by around line = []

  -- the fields that lines have, where these messages are open before them
  unfoldable pub fields_in : List Scope → List Line → List FieldIn
  fields_in around [] = []
  fields_in around (line ∷ more) = field_by around line ++ fields_in (around_after text around line) more

-- a message reaches itself, and what a message reaches of which it has a field
pub data Reaches (fields : List FieldIn) : List ℕ → List ℕ → Type 0 where
  itself : (m : List ℕ) → Reaches fields m m
  further : (f : FieldIn) (m n : List ℕ) → Contains fields f → f.sort ≡ sorts.Message m → Reaches fields m n
      → Reaches fields f.owner n

-- a field of this type: the array of it, if the field is repeated
abbrev pub as_field : FieldIn → Shape → Encoding → FieldShape
as_field f shape code = field f.name (if f.repeated then data_of.array shape else shape) f.number code

-- what a field adds to the type of its message, where each message has the type that `types` gives: it isn't kept if
-- its own type isn't, or if its message reaches the one in which it stands
pub data Adds (all : List FieldIn) (types : List ℕ → Shape) (f : FieldIn) : List FieldShape → Type 0 where
  nothing : f.sort ≡ sorts.Unkept → Adds all types f []
  plainly : (p : Plain) → f.sort ≡ sorts.Kept p → Adds all types f (as_field f (shape_of p.kind) p.code ∷ [])
  again : (m : List ℕ) → f.sort ≡ sorts.Message m → Reaches all m f.owner → Adds all types f []
  once : (m : List ℕ) → f.sort ≡ sorts.Message m → (Reaches all m f.owner → ⊥)
      → Adds all types f (as_field f (types m) encodings.Plain ∷ [])

-- the fields of a message's type, in order: what each of its fields adds
pub data Makes (all : List FieldIn) (types : List ℕ → Shape) (owner : List ℕ) : List FieldIn
    → List FieldShape → Type 0 where
  none : Makes all types owner [] []
  own : (f : FieldIn) (more : List FieldIn) (made rest : List FieldShape) → f.owner ≡ owner → Adds all types f made
      → Makes all types owner more rest → Makes all types owner (f ∷ more) (made ++ rest)
  other : (f : FieldIn) (more : List FieldIn) (rest : List FieldShape) → (f.owner ≡ owner → ⊥)
      → Makes all types owner more rest → Makes all types owner (f ∷ more) rest
