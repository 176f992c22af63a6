-- The words for types that every file has, and what becomes of their fields.
use Rattle.std.specs.Prelude.{ℕ, List, [], ◌∷◌, Option, Some, None, codes, find}
use Rattle.std.specs.Str.{bytes_eq}
use Rattle.sz_types.specs.Data as data_of
use Rattle.sz_types.specs.Data.{Shape}
use Rattle.sz_types.specs.declared.encoding.Encoding.{Encoding}
use Rattle.sz_types.specs.declared.encoding.Encoding.TheVariants as encodings
use Rattle.sz_protofile.specs.declared.field.Plain.{Plain}
use Rattle.sz_protofile.specs.declared.field.PlainKind.{PlainKind}
use Rattle.sz_protofile.specs.declared.field.PlainKind.TheVariants as kinds
use Rattle.sz_protofile.specs.declared.scalar.Scalar.{Scalar}
use Rattle.sz_protofile.specs.declared.scalar.Scalar.TheVariants as scalars

-- how the word is spelled
abbrev pub scalar_text : Scalar → List ℕ
scalar_text scalars.Double = codes "double"
scalar_text scalars.Float = codes "float"
scalar_text scalars.Int32 = codes "int32"
scalar_text scalars.Int64 = codes "int64"
scalar_text scalars.Uint32 = codes "uint32"
scalar_text scalars.Uint64 = codes "uint64"
scalar_text scalars.Sint32 = codes "sint32"
scalar_text scalars.Sint64 = codes "sint64"
scalar_text scalars.Fixed32 = codes "fixed32"
scalar_text scalars.Fixed64 = codes "fixed64"
scalar_text scalars.Sfixed32 = codes "sfixed32"
scalar_text scalars.Sfixed64 = codes "sfixed64"
scalar_text scalars.Bool = codes "bool"
scalar_text scalars.String = codes "string"
scalar_text scalars.Bytes = codes "bytes"

-- each of these words once
abbrev pub all_scalars : List Scalar
all_scalars =
    scalars.Double ∷ scalars.Float ∷ scalars.Int32 ∷ scalars.Int64 ∷ scalars.Uint32 ∷ scalars.Uint64 ∷ scalars.Sint32
    ∷ scalars.Sint64 ∷ scalars.Fixed32 ∷ scalars.Fixed64 ∷ scalars.Sfixed32 ∷ scalars.Sfixed64 ∷ scalars.Bool
    ∷ scalars.String ∷ scalars.Bytes ∷ []

-- the one that is spelled so
abbrev pub scalar_of : List ℕ → Option Scalar
scalar_of word = find (λ s. bytes_eq (scalar_text s) word) all_scalars

-- a type that a field is kept with
abbrev pub shape_of : PlainKind → Shape
shape_of kinds.Truth = data_of.truth
shape_of kinds.Whole = data_of.int
shape_of kinds.Str = data_of.str
shape_of kinds.Bytes = data_of.bytes

abbrev pub plain : PlainKind → Encoding → Option Plain
plain kind code = Some (record { kind = kind; code = code })

-- what a field of such a type is kept with; fields of numbers that aren't whole aren't kept
abbrev pub plain_of : Scalar → Option Plain
plain_of scalars.Double = None
plain_of scalars.Float = None
plain_of scalars.Int32 = plain kinds.Whole encodings.Plain
plain_of scalars.Int64 = plain kinds.Whole encodings.Plain
plain_of scalars.Uint32 = plain kinds.Whole encodings.Plain
plain_of scalars.Uint64 = plain kinds.Whole encodings.Plain
plain_of scalars.Sint32 = plain kinds.Whole encodings.Zigzag
plain_of scalars.Sint64 = plain kinds.Whole encodings.Zigzag
plain_of scalars.Fixed32 = plain kinds.Whole encodings.Fixed32
plain_of scalars.Fixed64 = plain kinds.Whole encodings.Fixed64
plain_of scalars.Sfixed32 = plain kinds.Whole encodings.Fixed32
plain_of scalars.Sfixed64 = plain kinds.Whole encodings.Fixed64
plain_of scalars.Bool = plain kinds.Truth encodings.Plain
plain_of scalars.String = plain kinds.Str encodings.Plain
plain_of scalars.Bytes = plain kinds.Bytes encodings.Plain
