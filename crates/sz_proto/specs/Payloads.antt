-- Payloads as lists of fields.
use Rattle.std.specs.Prelude.{ℕ, zero, suc, List, [], ◌∷◌, ◌++◌, length, Option, Some, None, ◌==◌, if◌then◌else◌}
use Rattle.std.specs.Option.{option_and_then, option_map}
use Rattle.sz_wire.specs.Field.{Content, varint, eight, four, span, group, Field, field_at}

-- the fields that these bytes are, one after another, in a message of this level. Each turn takes a byte at least, so
-- no more turns are needed than there are bytes.
unfoldable pub fields_within : ℕ → ℕ → List ℕ → Option (List Field)
fields_within turns depth [] = Some []
fields_within zero depth (b ∷ bytes) = None
fields_within (suc turns) depth (b ∷ bytes) = option_and_then
    (λ (found : Field × List ℕ). option_map (λ (more : List Field). found.0 ∷ more) (fields_within turns depth found.1))
    (field_at depth (b ∷ bytes))

-- the list of fields that a payload is, if it is one
abbrev pub fields_of : ℕ → List ℕ → Option (List Field)
fields_of depth payload = fields_within (length payload) depth payload

-- the fields of several payloads in order, each of which is by itself a list of fields
unfoldable pub fields_of_all : ℕ → List (List ℕ) → Option (List Field)
fields_of_all depth [] = Some []
fields_of_all depth (payload ∷ others) = option_and_then
    (λ (first : List Field). option_map (λ (more : List Field). first ++ more) (fields_of_all depth others))
    (fields_of depth payload)

-- what the fields of this number hold, in order
unfoldable pub occurrences : ℕ → List Field → List Content
occurrences number [] = []
occurrences number (f ∷ fs) = if f.number == number then f.content ∷ occurrences number fs else occurrences number fs

-- the payloads among these, in order
unfoldable pub payloads : List Content → List (List ℕ)
payloads [] = []
payloads (span bytes ∷ others) = bytes ∷ payloads others
payloads (varint n ∷ others) = payloads others
payloads (eight n ∷ others) = payloads others
payloads (four n ∷ others) = payloads others
payloads (group ∷ others) = payloads others
