-- Fields that were found in bytes.
use Rattle.std.specs.Prelude.{◌≡◌, ℕ, ℤ, List, [], ◌∷◌, ◌++◌, map, filter, Option, Some, None, Bool, true, false, nat_lt, ◌==◌, if◌then◌else◌}
use Rattle.std.specs.Option.{option_map}
use Rattle.std.specs.List.{All}
use Rattle.std.specs.List.Sorted.{IsNonDecreasingBy}
use Rattle.std.specs.Global.{Vec}
use Rattle.sz_value.specs.Data.{Datum, data_of}
use Rattle.sz_value.specs.Data as values
use Rattle.sz_wire.specs.declared.field.WireField.{WireField}
use Rattle.sz_types.specs.declared.encoding.Encoding.{Encoding}
use Rattle.sz_wire.specs.Field.{Content, Field, varint, eight, four, span, group, content_in, field_in, deepest, LiesBefore}
use Rattle.sz_proto.specs.Payloads.{fields_of, fields_of_all}
use Rattle.sz_proto.specs.Elements.{numbers_in, truths_in, texts_in, in_all, last_or}

-- what these fields hold
abbrev pub contents : List ℕ → List WireField → List Content
contents bytes run = map (λ (f : WireField). content_in bytes f.kind) run

-- the fields lie in so many bytes
abbrev pub AreWithin : ℕ → List WireField → Type 0
AreWithin len run = All (λ (f : WireField). LiesBefore len f.kind) run

-- the fields stand in order of their numbers
abbrev pub NumbersRise : List WireField → Type 0
NumbersRise run = IsNonDecreasingBy (λ (f : WireField). f.number) run

-- the fields with this number, in order
abbrev pub with_number : ℕ → List WireField → List WireField
with_number number fields = filter (λ (f : WireField). f.number == number) fields

-- an array of these elements, if there are some
abbrev pub array_of : Option (List Datum) → Option Datum
array_of found = option_map (λ (parts : List Datum). values.array (data_of parts)) found

-- the time of so many microseconds, or the whole number
abbrev pub whole_number : Bool → ℤ → Datum
whole_number true n = values.time n
whole_number false n = values.int n

-- the byte string that an occurrence holds
abbrev pub octets_each : Content → Option (List Datum)
octets_each (span payload) = Some (values.bytes payload ∷ [])
octets_each (varint n) = Some []
octets_each (eight n) = Some []
octets_each (four n) = Some []
octets_each group = Some []

-- the text, the numbers and the truth values that an occurrence holds
abbrev pub text_each : Content → Option (List Datum)
text_each c = option_map (map values.str) (texts_in c)

abbrev pub number_each : Bool → Encoding → Content → Option (List Datum)
number_each is_time code c = option_map (map (whole_number is_time)) (numbers_in code c)

abbrev pub truth_each : Content → Option (List Datum)
truth_each c = option_map (map values.truth) (truths_in c)

-- the last text, if each is one
abbrev pub last_text_of : List ℕ → List Content → Option Datum
last_text_of last cs = option_map (λ found. values.str (last_or last found)) (in_all texts_in cs)

-- the payload that an occurrence holds, or the one before
abbrev pub payload_or : Content → List ℕ → List ℕ
payload_or (span payload) last = payload
payload_or (varint n) last = last
payload_or (eight n) last = last
payload_or (four n) last = last
payload_or group last = last

-- the message that a payload is by itself
abbrev pub message_each : (List ℕ → Option Datum) → Content → Option (List Datum)
message_each value_of (span payload) = option_map (λ (one : Datum). one ∷ []) (value_of payload)
message_each value_of (varint n) = Some []
message_each value_of (eight n) = Some []
message_each value_of (four n) = Some []
message_each value_of group = Some []

-- what was found is added after what there was, or there is none
abbrev pub Takes : {A : Type 0} → Option (List A) → List A → List A → Bool → Type 0
Takes {A} found before after true = (first : List A) × (found ≡ Some first) × (after ≡ before ++ first)
Takes found before after false = found ≡ None

-- the fields of the payloads of a message of this level; where there is no payload, no level is too deep
unfoldable pub found_within : ℕ → List (List ℕ) → Option (List Field)
found_within depth [] = Some []
found_within depth (payload ∷ others) = if nat_lt deepest depth then None else fields_of_all depth (payload ∷ others)

-- the fields of a payload of a message of this level
abbrev pub fields_each : ℕ → Content → Option (List Field)
fields_each depth (span payload) = if nat_lt deepest depth then None else fields_of depth payload
fields_each depth (varint n) = Some []
fields_each depth (eight n) = Some []
fields_each depth (four n) = Some []
fields_each depth group = Some []

-- what was found are these fields, in order of their numbers
pub record IsOrdered (len : ℕ) (read found : List WireField) : Type 0 where
  pub same : (number : ℕ) → with_number number found ≡ with_number number read
  pub order : NumbersRise found
  pub within : AreWithin len found

-- the fields of these payloads were found, if there are some, and put in order of their numbers
abbrev pub AreFound : List ℕ → ℕ → List (List ℕ) → ℕ → Option (Vec WireField) → Type 0
AreFound bytes depth payloads len None = found_within depth payloads ≡ None
AreFound bytes depth payloads len (Some found) =
    (read : List WireField) × (found_within depth payloads ≡ Some (map (field_in bytes) read))
    × IsOrdered len read found.items
