-- The types of messages, made of fields in an order of rising ranks.
use Rattle.std.specs.Prelude.{◌≡◌, ℕ, ◌<◌, ◌≤◌, List, [], ◌∷◌, ◌++◌, nat_lt, nat_le, Bool, true, false, Option, map, sum, if◌then◌else◌}
use Rattle.std.specs.Option.{IfSome, IfNone}
use Rattle.std.specs.List.{filter}
use Rattle.std.specs.List.Sorted.{IsNonDecreasingBy}
use Rattle.std.specs.Str.{bytes_eq}
use Rattle.sz_types.specs.Data as data_of
use Rattle.sz_types.specs.Data.{Shape, FieldShape, fields_of}
use Rattle.sz_types.specs.declared.encoding.Encoding.TheVariants as encodings
use Rattle.sz_protofile.specs.Reading.{Spelling}
use Rattle.sz_protofile.specs.declared.line.Line.{Line}
use Rattle.sz_protofile.specs.declared.field.FieldIn.{FieldIn}
use Rattle.sz_protofile.specs.declared.field.Sort.{Sort}
use Rattle.sz_protofile.specs.declared.field.Sort.TheVariants as sorts
use Rattle.sz_protofile.specs.declared.scope.Scope.{Scope}
use Rattle.sz_protofile.specs.Names.{unreserved}
use Rattle.sz_protofile.specs.Scalars.{shape_of}
use Rattle.sz_protofile.specs.Fields.{as_field}
use Rattle.sz_protofile.specs.Types.{TypeShape, AreTypes, field_count, total, most_fields, named}
use Rattle.sz_protofile_types.specs.Ranks.{Ranking, rank}

-- whether a field stands in the message of this full name
abbrev pub stands_in : List ℕ → FieldIn → Bool
stands_in owner f = bytes_eq f.owner owner

-- the fields by rising ranks of the messages in which they stand, of each message in their order
pub record IsInOrder (r : Ranking) (fields ordered : List FieldIn) : Type 0 where
  pub rising : IsNonDecreasingBy (λ (f : FieldIn). rank r f.owner) ordered
  pub same : (owner : List ℕ) → filter (stands_in owner) ordered ≡ filter (stands_in owner) fields

-- the fields of messages that are made so far, by the full names of these
abbrev pub Made : Type 0
Made = List ℕ → List FieldShape

abbrev pub nothing_made : Made
nothing_made m = []

-- the type of the message of this full name
abbrev pub type_in : Made → List ℕ → Shape
type_in made m = data_of.proto (fields_of (made m))

module _ (r : Ranking) where
  -- what a field of this sort adds: nothing, where its message has no lower rank than the one in which it stands
  abbrev pub added_as : Made → FieldIn → Sort → List FieldShape
  added_as made f sorts.Unkept = []
  added_as made f (sorts.Kept p) = as_field f (shape_of p.kind) p.code ∷ []
  added_as made f (sorts.Message m) =
      if nat_lt (rank r m) (rank r f.owner) then as_field f (type_in made m) encodings.Plain ∷ [] else []

  abbrev pub added_by : Made → FieldIn → List FieldShape
  added_by made f = added_as made f f.sort

  -- a field more is made
  abbrev pub after_field : Made → FieldIn → Made
  after_field made f m = if bytes_eq f.owner m then made f.owner ++ added_by made f else made m

  -- what is made after these fields, one by one
  unfoldable pub made_after : Made → List FieldIn → Made
  made_after made [] = made
  made_after made (f ∷ more) = made_after (after_field made f) more

  -- what is made of these fields
  abbrev pub made_of : List FieldIn → Made
  made_of fields = made_after nothing_made fields

-- a message's type with its name
abbrev pub type_named : (List ℕ → Shape) → Scope → TypeShape
type_named types s = record { name = unreserved s.joined; shape = types s.full }

-- the number of the fields of the types of these messages
abbrev pub number_of_fields : (List ℕ → Shape) → List Scope → ℕ
number_of_fields types messages = sum (map (λ (s : Scope). field_count (types s.full)) messages)

-- the types of these messages, made of fields by rising ranks, or nothing, where they have too many fields together
pub record AreMadeIfFew (r : Ranking) (ordered : List FieldIn) (messages : List Scope)
    (answer : Option (List TypeShape)) : Type 0 where
  pub few : IfSome answer
      (λ types. (nat_le (number_of_fields (type_in (made_of r ordered)) messages) most_fields ≡ true)
      × (types ≡ map (type_named (type_in (made_of r ordered))) messages))
  pub many : IfNone answer (nat_le (number_of_fields (type_in (made_of r ordered)) messages) most_fields ≡ false)

-- a file has one list of types, however its messages' types are given, and so one number of fields in them
abbrev pub HaveOneType : Spelling → List Line → Type 0
HaveOneType text all = (types others : List ℕ → Shape) → AreTypes text all types → AreTypes text all others
    → (named text all types ≡ named text all others) × (total text all types ≡ total text all others)

-- the types of the file with these lines, or nothing, where these have too many fields together
pub record AreFound (text : Spelling) (all : List Line) (answer : Option (List TypeShape)) : Type 0 where
  pub found : IfSome answer
      (λ named_types. (types : List ℕ → Shape) × (AreTypes text all types) × (total text all types ≤ most_fields)
      × (named_types ≡ named text all types))
  pub none : IfNone answer ((types : List ℕ → Shape) → AreTypes text all types → most_fields < total text all types)
  pub one : HaveOneType text all
