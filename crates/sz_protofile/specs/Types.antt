-- The types of a file's messages, and which files are refused.
use Rattle.std.specs.Prelude.{◌≡◌, ℕ, ◌+◌, ◌<◌, ◌≤◌, List, [], map, sum, Some, None, Contains}
use Rattle.sz_types.specs.declared.place.Place.{Place}
use Rattle.sz_types.specs.Data as data_of
use Rattle.sz_types.specs.Data.{Shape, FieldShape, FieldShapes, field, no_fields, with_field, fields_of}
use Rattle.sz_protofile.specs.Reading.{Spelling}
use Rattle.sz_protofile.specs.Lines.{HasLines}
use Rattle.sz_protofile.specs.Lines as reading
use Rattle.sz_protofile.specs.declared.line.Line.{Line}
use Rattle.sz_protofile.specs.declared.field.FieldIn.{FieldIn}
use Rattle.sz_protofile.specs.declared.fault.Fault.{Fault}
use Rattle.sz_protofile.specs.declared.scope.Scope.{Scope}
use Rattle.sz_protofile.specs.Names.{spelled, unreserved, messages_in}
use Rattle.sz_protofile.specs.Lookup.{known_in, message_names_in}
use Rattle.sz_protofile.specs.Faults.{file_fault}
use Rattle.sz_protofile.specs.Fields.{fields_in, Makes}

-- a type with its name
pub record TypeShape : Type 0 where
  pub name : List ℕ
  pub shape : Shape

-- the fields of all messages of a file
abbrev pub all_fields : Spelling → List Line → List FieldIn
all_fields text all = fields_in text (known_in text all) (message_names_in text [] [] all) [] all

-- each message has the type of what its fields add, where each has the type that `types` gives it
abbrev pub AreTypes : Spelling → List Line → (List ℕ → Shape) → Type 0
AreTypes text all types = (s : Scope) → Contains (messages_in text [] all) s
    → (made : List FieldShape) × (Makes (all_fields text all) types s.full (all_fields text all) made)
    × (types s.full ≡ data_of.proto (fields_of made))

-- ---- how many fields there are in a type, with those of the types inside it

abbrev mutual
  pub field_count : Shape → ℕ
  field_count data_of.truth = 0
  field_count data_of.int = 0
  field_count data_of.time = 0
  field_count data_of.str = 0
  field_count data_of.bytes = 0
  field_count (data_of.array s) = field_count s
  field_count (data_of.mapping k v) = field_count k + field_count v
  field_count (data_of.tuple fs) = field_counts fs
  field_count (data_of.proto fs) = field_counts fs

  pub field_count_in : FieldShape → ℕ
  field_count_in (field name s number code) = field_count s + 1

  pub field_counts : FieldShapes → ℕ
  field_counts no_fields = 0
  field_counts (with_field f fs) = field_count_in f + field_counts fs

-- the types of a file's messages have so many fields together
abbrev pub total : Spelling → List Line → (List ℕ → Shape) → ℕ
total text all types = sum (map (λ (s : Scope). field_count (types s.full)) (messages_in text [] all))

-- as many fields may the types of a file have
abbrev pub most_fields : ℕ
most_fields = 100000

-- the messages' names and types in the order in which the messages begin
abbrev pub named : Spelling → List Line → (List ℕ → Shape) → List TypeShape
named text all types =
    map (λ (s : Scope). record { name = unreserved s.joined; shape = types s.full }) (messages_in text [] all)

-- the bytes are a file with these lines, and nothing is wrong with it
pub record IsSound (bytes : List ℕ) (all : List Line) : Type 0 where
  pub lines : HasLines bytes all
  pub sound : file_fault (spelled bytes) all ≡ None

-- the bytes are a file with these types: nothing is wrong with it, and the types aren't too large
pub record HasTypes (bytes : List ℕ) (answer : List TypeShape) : Type 0 where
  pub all : List Line
  pub sound : IsSound bytes all
  pub types : List ℕ → Shape
  pub are : AreTypes (spelled bytes) all types
  pub within : total (spelled bytes) all types ≤ most_fields
  pub answer_is : answer ≡ named (spelled bytes) all types

-- the first place of a file
abbrev pub first_place : Place
first_place = record { line = 1; column = 1 }

-- a refusal without a name
abbrev pub refused_at : ℕ → Place → Fault
refused_at number p = record { number = number; place = p; name = None }

-- the bytes are refused before there are types: they have no lines, or something is wrong with these
pub data IsFaulty (bytes : List ℕ) : Fault → Type 0 where
  syntax : (p : Place) → reading.IsRefused bytes p → IsFaulty bytes (refused_at 2 p)
  wrong : (all : List Line) (f : Fault) → HasLines bytes all → file_fault (spelled bytes) all ≡ Some f
      → IsFaulty bytes f

-- the bytes are refused: before there are types, or because these are too large, whichever they are
pub data IsRefused (bytes : List ℕ) : Fault → Type 0 where
  faulty : (f : Fault) → IsFaulty bytes f → IsRefused bytes f
  large : (all : List Line) → IsSound bytes all
      → ((types : List ℕ → Shape) → AreTypes (spelled bytes) all types → most_fields < total (spelled bytes) all types)
      → IsRefused bytes (refused_at 6 first_place)
