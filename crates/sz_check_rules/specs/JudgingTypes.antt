-- The type that a type's tree stands for, with names written out, or its first refusal.
use Rattle.std.specs.Prelude.{ℕ, ℤ, pos, negsuc, List, [], ◌∷◌, not, ◌&&◌, if◌then◌else◌, nat_le, nat_eq, Option, Some, None, Ok, codes, bytes_eq}
use Rattle.std.specs.List.{list_any}
use Rattle.sz_types.specs.Data.{Shape, FieldShapes, no_fields, with_field, field}
use Rattle.sz_types.specs.declared.encoding.Encoding.{Encoding}
use Rattle.sz_types.specs.declared.encoding.Encoding.TheVariants.{Plain, Zigzag, Fixed32, Fixed64}
use Rattle.sz_tree.specs.declared.types.BasicType.{BasicType}
use Rattle.sz_tree.specs.declared.types.BasicType.TheVariants as basics
use Rattle.sz_tree.specs.Names.{Ident}
use Rattle.sz_tree.specs.Types.{Typ, basic, type_name, array, map_type, tuple, proto, Params, no_params, param, Fields, proto_field}
use Rattle.sz_tree.specs.Types as trees
use Rattle.sz_core.specs.WellFormed.{is_field_type, takes_encoding, most_field_number}
use Rattle.sz_check_rules.specs.Refusals.{Judged, ◌>>=◌, wrong_kind, bad_field, has_name}
use Rattle.sz_check_rules.specs.Names.{Block, Meaning, look_up}
use Rattle.sz_check_rules.specs.Names as names

-- the type that a word stands for
abbrev pub shape_of : BasicType → Shape
shape_of basics.Bool = Shape.truth
shape_of basics.Int = Shape.int
shape_of basics.String = Shape.str
shape_of basics.Bytes = Shape.bytes
shape_of basics.Time = Shape.time

-- the type that a name stands for
abbrev pub type_named : Ident → Meaning → Judged Shape
type_named n (names.type_name t) = Ok t
type_named n _ = wrong_kind n

-- the number of a message's field, if it can be one
abbrev pub field_number : ℤ → Option ℕ
field_number (pos n) = if nat_le 1 n && nat_le n most_field_number then Some n else None
field_number (negsuc n) = None

-- the encoding that a word stands for; no word is the plain one
abbrev pub encoding_of : Option Ident → Option Encoding
encoding_of None = Some Plain
encoding_of (Some word) =
    if bytes_eq word.text (codes "zigzag") then Some Zigzag
    else (if bytes_eq word.text (codes "fixed32") then Some Fixed32
    else (if bytes_eq word.text (codes "fixed64") then Some Fixed64 else None))

-- the number and the encoding of a field of a message
pub record Coding : Type 0 where
  pub number : ℕ
  pub code : Encoding

-- how a field of this type is coded, if its number is free and in range, and its encoding word fits the type
abbrev pub coding_of : List ℕ → Shape → Option ℕ → Option Encoding → Option Coding
coding_of used t (Some number) (Some code) =
    if not (list_any (nat_eq number) used) && is_field_type t && takes_encoding code t
    then Some (record { number = number; code = code }) else None
coding_of used t _ _ = None

-- a field of a message is not refused where its name is free and it has a coding
abbrev pub coded : Ident → List (List ℕ) → Option Coding → Judged Coding
coded n taken None = bad_field n
coded n taken (Some c) = if has_name n.text taken then bad_field n else Ok c

module _ (blocks : List Block) where
  unfoldable mutual
    -- the type of a tree
    pub judge_type : Typ → Judged Shape
    judge_type (basic p b) = Ok (shape_of b)
    judge_type (type_name n) = do
      m ← look_up n blocks
      type_named n m
    judge_type (array p t) = do
      element ← judge_type t
      Ok (Shape.array element)
    judge_type (map_type p label k v) = do
      key ← judge_type k
      value ← judge_type v
      Ok (Shape.mapping key value)
    judge_type (tuple p ps) = do
      fields ← judge_parts [] ps
      Ok (Shape.tuple fields)
    judge_type (proto p fs) = do
      fields ← judge_fields [] [] fs
      Ok (Shape.proto fields)

    -- the parts of a tuple, after parts with these names: each is judged whole before the next
    pub judge_parts : List (List ℕ) → Params → Judged FieldShapes
    judge_parts taken no_params = Ok no_fields
    judge_parts taken (param n t ps) = do
      part ← judge_type t
      if has_name n.text taken then bad_field n else (do
        fields ← judge_parts (n.text ∷ taken) ps
        Ok (with_field (field n.text part 0 Plain) fields))

    -- the fields of a message, after fields with these names and numbers
    pub judge_fields : List (List ℕ) → List ℕ → Fields → Judged FieldShapes
    judge_fields taken used trees.no_fields = Ok no_fields
    judge_fields taken used (proto_field n t k word fs) = do
      part ← judge_type t
      coding ← coded n taken (coding_of used part (field_number k) (encoding_of word))
      fields ← judge_fields (n.text ∷ taken) (coding.number ∷ used) fs
      Ok (with_field (field n.text part coding.number coding.code) fields)
