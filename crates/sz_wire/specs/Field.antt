-- Fields: a key, and what its wire type says that follows.
use Rattle.std.specs.Prelude.{◌≡◌, ℕ, zero, suc, ◌-◌, ◌≤◌, List, length, take, drop, Option, Some, None, nat_lt, ◌==◌, if◌then◌else◌}
use Rattle.std.specs.Option.{option_and_then, option_map}
use Rattle.std.specs.Int.{Width, w32, w64, byte_len, from_le_bytes}
use Rattle.sz_wire.specs.declared.field.WireField.{WireField}
use Rattle.sz_wire.specs.declared.field.WireKind.{WireKind}
use Rattle.sz_wire.specs.declared.field.WireKind.TheVariants as kinds
use Rattle.sz_wire.specs.Varint.{varint_at}
use Rattle.sz_wire.specs.Key.{Key, key_at}

-- what a field holds; a group is known to end, and what lies in it isn't told
pub data Content : Type 0 where
  varint : ℕ → Content
  eight : ℕ → Content
  four : ℕ → Content
  span : List ℕ → Content
  group : Content

-- the first so many bytes, if they are there, and what follows them
unfoldable pub bytes_at : ℕ → List ℕ → Option (List ℕ × List ℕ)
bytes_at n bytes = if nat_lt (length bytes) n then None else Some (take n bytes, drop n bytes)

-- the number that so many bytes at the front are, the low one first
unfoldable pub fixed_at : Width → List ℕ → Option (ℕ × List ℕ)
fixed_at w bytes =
    option_map (λ (found : List ℕ × List ℕ). (from_le_bytes w found.0, found.1)) (bytes_at (byte_len w) bytes)

-- a length as a varint, and that many bytes
unfoldable pub span_at : List ℕ → Option (List ℕ × List ℕ)
span_at bytes = option_and_then (λ (size : ℕ × List ℕ). bytes_at size.0 size.1) (varint_at bytes)

-- what is read, as what a field holds
abbrev pub read_as : {A : Type 0} → (A → Content) → Option (A × List ℕ) → Option (Content × List ℕ)
read_as as_content read = option_map (λ found. (as_content found.0, found.1)) read

-- what a field that is no group holds, by its wire type, and what follows it
unfoldable pub plain_at : ℕ → List ℕ → Option (Content × List ℕ)
plain_at wire bytes =
    if wire == 0 then read_as varint (varint_at bytes) else
    if wire == 1 then read_as eight (fixed_at w64 bytes) else
    if wire == 2 then read_as span (span_at bytes) else
    if wire == 5 then read_as four (fixed_at w32 bytes) else None

-- what follows a group that begins here, if its level may be opened
abbrev pub opened : (ℕ → ℕ → List ℕ → Option (List ℕ)) → ℕ → ℕ → List ℕ → Option (List ℕ)
opened ends levels number bytes = if levels == 0 then None else ends (levels - 1) number bytes

-- what follows the value after a key
unfoldable pub value_end : (ℕ → ℕ → List ℕ → Option (List ℕ)) → ℕ → Key → List ℕ → Option (List ℕ)
value_end ends levels key bytes =
    if key.wire == 3 then opened ends levels key.number bytes
    else option_map (λ (found : Content × List ℕ). found.1) (plain_at key.wire bytes)

-- what follows the end of the group with this number, of whose fields the first begins here. So many levels of groups
-- may open inside it. Each turn takes a byte at least, so no more turns are needed than there are bytes.
unfoldable pub group_end : ℕ → ℕ → ℕ → List ℕ → Option (List ℕ)
group_end zero levels number bytes = None
group_end (suc turns) levels number bytes = option_and_then (λ (key : Key × List ℕ).
    if key.0.wire == 4 then (if key.0.number == number then Some key.1 else None)
    else option_and_then (group_end turns levels number)
    (value_end (group_end turns) levels key.0 key.1)) (key_at bytes)

-- the greatest level of a message or a group; the outer message has level 1
abbrev pub deepest : ℕ
deepest = 100

-- what the field after a key holds, in a message of this level, and what follows it
unfoldable pub value_at : ℕ → Key → List ℕ → Option (Content × List ℕ)
value_at depth key bytes =
    if key.wire == 3
    then option_map (λ rest. (group, rest)) (opened (group_end (length bytes)) (deepest - depth) key.number bytes)
    else plain_at key.wire bytes

-- a field of a message: its number, and what it holds
pub record Field : Type 0 where
  pub number : ℕ
  pub content : Content

-- the field at the front, in a message of this level, and what follows it
unfoldable pub field_at : ℕ → List ℕ → Option (Field × List ℕ)
field_at depth bytes = option_and_then (λ (key : Key × List ℕ). option_map
    (λ (found : Content × List ℕ). (record { number = key.0.number; content = found.0 }, found.1))
    (value_at depth key.0 key.1)) (key_at bytes)

-- what a field that was found in these bytes holds
abbrev pub content_in : List ℕ → WireKind → Content
content_in bytes (kinds.Varint n) = varint n
content_in bytes (kinds.Eight n) = eight n
content_in bytes (kinds.Four n) = four n
content_in bytes (kinds.Span from to) = span (take (to - from) (drop from bytes))
content_in bytes kinds.Group = group

-- the field that was found in these bytes
abbrev pub field_in : List ℕ → WireField → Field
field_in bytes field = record { number = field.number; content = content_in bytes field.kind }

-- what a field holds lies in front of this place
abbrev pub LiesBefore : ℕ → WireKind → Type 0
LiesBefore place (kinds.Span from to) = (from ≤ to) × (to ≤ place)
LiesBefore place (kinds.Varint n) = Unit {0}
LiesBefore place (kinds.Eight n) = Unit {0}
LiesBefore place (kinds.Four n) = Unit {0}
LiesBefore place kinds.Group = Unit {0}

-- a payload ends at this place
abbrev pub EndsAt : ℕ → WireKind → Type 0
EndsAt place (kinds.Span from to) = to ≡ place
EndsAt place (kinds.Varint n) = Unit {0}
EndsAt place (kinds.Eight n) = Unit {0}
EndsAt place (kinds.Four n) = Unit {0}
EndsAt place kinds.Group = Unit {0}
