-- What stands in front of bytes, and what follows it: names, types and declarations.
use Rattle.std.specs.Prelude.{◌≡◌, ℕ, zero, suc, ◌^◌, ◌==◌, ◌&&◌, nat_lt, nat_le, Bool, true, false, if◌then◌else◌, Option, Some, None, is_none, List, [], ◌∷◌, ◌++◌, length, take, drop, bytes_eq}
use Rattle.std.specs.Int.{Width, w32, to_be_bytes, from_be_bytes}
use Rattle.std.specs.declared.result.Result.{Result}
use Rattle.std.specs.declared.result.Result.TheVariants.{Ok, Err}
use Rattle.sz_types.specs.Data.{Shape, FieldShape, field, fields_of}
use Rattle.sz_types.specs.Tables.{Declaration}
use Rattle.sz_types.specs.declared.encoding.Encoding.{Encoding}
use Rattle.sz_types.specs.declared.encoding.Encoding.TheVariants.{Plain, Zigzag, Fixed32, Fixed64}
use Rattle.sz_types.specs.declared.table.TableKind.{TableKind}
use Rattle.sz_types.specs.declared.table.TableKind.TheVariants.{Sum, Maximum, Minimum, Set, Collection}
use Rattle.sz_core.specs.WellFormed.{is_allowed}
use Rattle.sz_lex.specs.Classes.{is_letter}
use Rattle.sz_lex.specs.Lookup.{word_of}
use Rattle.sz_lex.specs.Tokens.{all_word}
use Rattle.sz_save_format.specs.Types.{most_height}
use Rattle.sz_save_format.specs.declared.error.SavedError.{SavedError}
use Rattle.sz_save_format.specs.declared.error.SavedError.TheVariants.{NotSaved, NoMemory}

-- what bytes have in front, with the bytes behind it, or that they have no such thing in front
abbrev pub Decoder : Type 0 → Type 0
Decoder X = List ℕ → Option (X × List ℕ)

-- what is read next, from where something was found
abbrev pub and_then : {X Y : Type 0} → Option (X × List ℕ) → (X → Decoder Y) → Option (Y × List ℕ)
and_then None next = None
and_then (Some found) next = next found.0 found.1

-- one after the other
abbrev pub both : {X Y : Type 0} → Decoder X → Decoder Y → Decoder (X × Y)
both first second bytes = and_then (first bytes) (λ x rest. and_then (second rest) (λ y more. Some ((x, y), more)))

-- the same, if a test says yes
abbrev pub only : {X : Type 0} → Bool → Option X → Option X
only true found = found
only false found = None

-- what the first bytes of a list are read as, by a width and its number of bytes
unfoldable pub fixed_at : Width → ℕ → Decoder ℕ
fixed_at w k bytes =
    only (nat_lt (from_be_bytes w (take k bytes)) (256 ^ k)
    && bytes_eq (to_be_bytes w (from_be_bytes w (take k bytes)) ++ drop k bytes) bytes)
    (Some (from_be_bytes w (take k bytes), drop k bytes))

-- a length in 4 bytes
abbrev pub length_at : Decoder ℕ
length_at = fixed_at w32 4

-- the first byte
abbrev pub byte_at : Decoder ℕ
byte_at [] = None
byte_at (b ∷ bytes) = Some (b, bytes)

-- the byte of a kind, of which nothing is told
abbrev pub tag_at : ℕ → Decoder ℕ
tag_at kind [] = None
tag_at kind (b ∷ bytes) = only (b == kind) (Some (0, bytes))

-- what stands behind the byte of a kind
abbrev pub tagged : {X : Type 0} → ℕ → Decoder X → Decoder X
tagged kind read bytes = and_then (tag_at kind bytes) (λ _ rest. read rest)

-- what stands behind the first of these bytes
abbrev pub picked : {X : Type 0} → List (ℕ × Decoder X) → ℕ → Decoder X
picked [] kind bytes = None
picked (case ∷ cases) kind bytes = if kind == case.0 then case.1 bytes else picked cases kind bytes

-- one in front of others
abbrev pub put_first : {X : Type 0} → X → Option (List X × List ℕ) → Option (List X × List ℕ)
put_first x None = None
put_first x (Some found) = Some (x ∷ found.0, found.1)

-- so many of a kind, one after the other
abbrev pub many_at : {X : Type 0} → Decoder X → ℕ → Decoder (List X)
many_at read zero bytes = Some ([], bytes)
many_at read (suc n) bytes = and_then (read bytes) (λ x rest. put_first x (many_at read n rest))

-- as many as a length in 4 bytes says
unfoldable pub counted_at : {X : Type 0} → Decoder X → Decoder (List X)
counted_at read bytes = and_then (length_at bytes) (λ n rest. many_at read n rest)

-- bytes behind their number
unfoldable pub string_at : Decoder (List ℕ)
string_at bytes = and_then (length_at bytes) (λ n rest. only (nat_le n (length rest)) (Some (take n rest, drop n rest)))

-- whether these are the bytes of a name, which is no reserved word
unfoldable pub is_name : List ℕ → Bool
is_name [] = false
is_name (b ∷ bytes) = is_letter b && (all_word bytes && is_none (word_of (b ∷ bytes)))

-- a name
unfoldable pub name_at : Decoder (List ℕ)
name_at bytes = and_then (string_at bytes) (λ name rest. only (is_name name) (Some (name, rest)))

-- the encoding with a number
abbrev pub encoding_in : ℕ → Option Encoding
encoding_in n =
    if n == 0 then Some Plain
    else (if n == 1 then Some Zigzag
    else (if n == 2 then Some Fixed32
    else (if n == 3 then Some Fixed64
    else None)))

-- what is found in a byte, in front of what follows it
abbrev pub in_front : {X : Type 0} → Option X → List ℕ → Option (X × List ℕ)
in_front None rest = None
in_front (Some x) rest = Some (x, rest)

-- the number and the encoding of a field
unfoldable pub numbering_at : Bool → Decoder (ℕ × Encoding)
numbering_at false bytes = Some ((0, Plain), bytes)
numbering_at true bytes =
    and_then (length_at bytes) (λ number rest. and_then (byte_at rest)
    (λ code more. and_then (in_front (encoding_in code) more) (λ way end. Some ((number, way), end))))

-- a field
unfoldable pub field_at : Bool → Decoder Shape → Decoder FieldShape
field_at numbered inner bytes =
    and_then (name_at bytes) (λ name rest. and_then (inner rest)
    (λ t more. and_then (numbering_at numbered more) (λ n end. Some (field name t n.0 n.1, end))))

-- fields behind their number
abbrev pub fields_at : Bool → Decoder Shape → Decoder (List FieldShape)
fields_at numbered inner = counted_at (field_at numbered inner)

-- a type that is made of types, behind the byte of its kind, by how the types in it are read
abbrev pub array_type_at : Decoder Shape → Decoder Shape
array_type_at inner bytes = and_then (inner bytes) (λ t rest. Some (Shape.array t, rest))

abbrev pub mapping_type_at : Decoder Shape → Decoder Shape
mapping_type_at inner bytes =
    and_then (inner bytes) (λ k rest. and_then (inner rest) (λ v more. Some (Shape.mapping k v, more)))

abbrev pub tuple_type_at : Decoder Shape → Decoder Shape
tuple_type_at inner bytes = and_then (fields_at false inner bytes) (λ fs rest. Some (Shape.tuple (fields_of fs), rest))

abbrev pub proto_type_at : Decoder Shape → Decoder Shape
proto_type_at inner bytes = and_then (fields_at true inner bytes) (λ fs rest. Some (Shape.proto (fields_of fs), rest))

-- a type of each kind behind the byte of that kind
abbrev pub type_cases : Decoder Shape → List (ℕ × Decoder Shape)
type_cases inner =
    (1, λ rest. Some (Shape.truth, rest)) ∷ (2, λ rest. Some (Shape.int, rest)) ∷ (3, λ rest. Some (Shape.time, rest))
    ∷ (4, λ rest. Some (Shape.str, rest)) ∷ (5, λ rest. Some (Shape.bytes, rest)) ∷ (6, array_type_at inner)
    ∷ (7, tuple_type_at inner) ∷ (8, mapping_type_at inner) ∷ (9, proto_type_at inner) ∷ []

-- a type of at most so many levels
unfoldable pub type_at : ℕ → Decoder Shape
type_at zero bytes = None
type_at (suc levels) bytes = and_then (byte_at bytes) (picked (type_cases (type_at levels)))

-- a type that a saved file can have
abbrev pub saved_type_at : Decoder Shape
saved_type_at = type_at most_height

-- types behind their number
abbrev pub types_at : Decoder (List Shape)
types_at = counted_at saved_type_at

-- the kind of table with a byte
abbrev pub kind_in : ℕ → Option TableKind
kind_in n =
    if n == 0 then Some Sum
    else (if n == 1 then Some Maximum
    else (if n == 2 then Some Minimum
    else (if n == 3 then Some Set
    else (if n == 4 then Some Collection
    else None))))

unfoldable pub kind_at : Decoder TableKind
kind_at bytes = and_then (byte_at bytes) (λ b rest. in_front (kind_in b) rest)

-- the type of the weights, if there are any
unfoldable pub weight_at : Decoder (Option Shape)
weight_at bytes =
    and_then (byte_at bytes) (λ b rest. if b == 0 then Some (None, rest)
    else only (b == 1) (and_then (saved_type_at rest) (λ t more. Some (Some t, more))))

-- the parts of a declaration, and the declaration of the parts
abbrev pub Parts : Type 0
Parts = List ℕ × (TableKind × (ℕ × (List Shape × (Shape × Option Shape))))

abbrev pub made_of : Parts → Declaration
made_of p = record {
  name = p.0;
  kind = p.1.0;
  limit = p.1.1.0;
  indexes = p.1.1.1.0;
  element = p.1.1.1.1.0;
  weight = p.1.1.1.1.1;
}

-- a declaration, if its parts go together
abbrev pub if_allowed : Declaration → List ℕ → Option (Declaration × List ℕ)
if_allowed table rest = only (is_allowed table) (Some (table, rest))

-- a declaration
unfoldable pub declaration_at : Decoder Declaration
declaration_at bytes =
    and_then (both name_at (both kind_at (both length_at (both types_at (both saved_type_at weight_at)))) bytes)
    (λ p rest. if_allowed (made_of p) rest)

-- it stopped there for want of memory, of which nothing is said, or since no such thing was there
abbrev pub Stops : {Y : Type 0} → Option Y → SavedError → Type 0
Stops decoded NotSaved = decoded ≡ None
Stops decoded NoMemory = Unit {0}

-- what was read is what was there, or it stopped there
abbrev pub Reads : {X Y : Type 0} → (X → Y) → Option Y → Result X SavedError → Type 0
Reads seen_found decoded (Ok found) = decoded ≡ Some (seen_found found)
Reads seen_found decoded (Err error) = Stops decoded error
