-- What the occurrences of a scalar field hold, by its type and encoding.
use Rattle.std.specs.Prelude.{ℕ, ℤ, zero, suc, pos, negsuc, ◌/◌, ◌%◌, List, [], ◌∷◌, ◌++◌, length, Option, Some, None, Bool, true, false, nat_lt, ◌==◌, if◌then◌else◌}
use Rattle.std.specs.Option.{option_and_then, option_map}
use Rattle.std.specs.Int.{w32, w64, cast_signed}
use Rattle.std.specs.Str.{is_utf8}
use Rattle.sz_types.specs.declared.encoding.Encoding.{Encoding}
use Rattle.sz_types.specs.declared.encoding.Encoding.TheVariants as codes
use Rattle.sz_wire.specs.Varint.{varint_at}
use Rattle.sz_wire.specs.Field.{Content, varint, eight, four, span, group, fixed_at}

-- the number that a zigzag number stands for: 0, -1, 1, -2 and so on
abbrev pub unzigzag : ℕ → ℤ
unzigzag n = if n % 2 == 0 then pos (n / 2) else negsuc (n / 2)

-- the number that a varint stands for
abbrev pub from_varint : Encoding → ℕ → ℤ
from_varint codes.Zigzag n = unzigzag n
from_varint codes.Plain n = cast_signed w64 n
from_varint codes.Fixed32 n = cast_signed w64 n
from_varint codes.Fixed64 n = cast_signed w64 n

-- the whole number that an occurrence holds, if a field of whole numbers takes it; only varints are zigzag
abbrev pub number_in : Encoding → Content → Option ℤ
number_in code (varint n) = Some (from_varint code n)
number_in code (eight n) = Some (cast_signed w64 n)
number_in code (four n) = Some (cast_signed w32 n)
number_in code (span bytes) = None
number_in code group = None

-- the truth value that an occurrence holds, if a field of truth values takes it
abbrev pub truth_in : Content → Option Bool
truth_in (varint n) = Some (nat_lt 0 n)
truth_in (eight n) = None
truth_in (four n) = None
truth_in (span bytes) = None
truth_in group = None

-- a value in front of others, where there is one
abbrev pub in_front : {A : Type 0} → Option A → List A → List A
in_front None xs = xs
in_front (Some x) xs = x ∷ xs

-- the packed element at the front, and what follows it
abbrev pub packed_at : Encoding → List ℕ → Option (ℤ × List ℕ)
packed_at codes.Plain bytes = option_map (λ (found : ℕ × List ℕ). (cast_signed w64 found.0, found.1)) (varint_at bytes)
packed_at codes.Zigzag bytes = option_map (λ (found : ℕ × List ℕ). (unzigzag found.0, found.1)) (varint_at bytes)
packed_at codes.Fixed32 bytes =
    option_map (λ (found : ℕ × List ℕ). (cast_signed w32 found.0, found.1)) (fixed_at w32 bytes)
packed_at codes.Fixed64 bytes =
    option_map (λ (found : ℕ × List ℕ). (cast_signed w64 found.0, found.1)) (fixed_at w64 bytes)

-- the packed elements that these bytes are, one after another. Each turn takes a byte at least, so no more turns are
-- needed than there are bytes.
unfoldable pub packed_within : ℕ → Encoding → List ℕ → Option (List ℤ)
packed_within turns code [] = Some []
packed_within zero code (b ∷ bytes) = None
packed_within (suc turns) code (b ∷ bytes) = option_and_then
    (λ (found : ℤ × List ℕ). option_map (λ (more : List ℤ). found.0 ∷ more) (packed_within turns code found.1))
    (packed_at code (b ∷ bytes))

-- the whole numbers that an occurrence of a repeated field holds: one, or packed ones; none where it is passed over;
-- no answer where a packed payload doesn't divide into elements
abbrev pub numbers_in : Encoding → Content → Option (List ℤ)
numbers_in code (varint n) = Some (from_varint code n ∷ [])
numbers_in code (eight n) = Some (cast_signed w64 n ∷ [])
numbers_in code (four n) = Some (cast_signed w32 n ∷ [])
numbers_in code (span bytes) = packed_within (length bytes) code bytes
numbers_in code group = Some []

-- the truth values that numbers stand for
unfoldable pub truths_of : List ℤ → List Bool
truths_of [] = []
truths_of (pos zero ∷ ns) = false ∷ truths_of ns
truths_of (pos (suc n) ∷ ns) = true ∷ truths_of ns
truths_of (negsuc n ∷ ns) = true ∷ truths_of ns

-- the same of truth values, which are varints, packed or not
abbrev pub truths_in : Content → Option (List Bool)
truths_in (varint n) = Some (nat_lt 0 n ∷ [])
truths_in (eight n) = Some []
truths_in (four n) = Some []
truths_in (span bytes) = option_map truths_of (packed_within (length bytes) codes.Plain bytes)
truths_in group = Some []

-- the text that an occurrence holds, if it is UTF-8; none where it is passed over
abbrev pub texts_in : Content → Option (List (List ℕ))
texts_in (span bytes) = if is_utf8 bytes then Some (bytes ∷ []) else None
texts_in (varint n) = Some []
texts_in (eight n) = Some []
texts_in (four n) = Some []
texts_in group = Some []

-- what all occurrences hold, in order, if each has an answer
unfoldable pub in_all : {A : Type 0} → (Content → Option (List A)) → List Content → Option (List A)
in_all in_one [] = Some []
in_all in_one (content ∷ others) = option_and_then
    (λ first. option_map (λ more. first ++ more) (in_all in_one others)) (in_one content)

-- the last one, or this where there is none
unfoldable pub last_or : {A : Type 0} → A → List A → A
last_or missing [] = missing
last_or missing (x ∷ xs) = last_or x xs

-- the numbers that the occurrences of a single field hold, in order; the others are passed over
unfoldable pub numbers : Encoding → List Content → List ℤ
numbers code [] = []
numbers code (content ∷ others) = in_front (number_in code content) (numbers code others)

-- the truth values that the occurrences of a single field hold, in order; the others are passed over
unfoldable pub truths : List Content → List Bool
truths [] = []
truths (content ∷ others) = in_front (truth_in content) (truths others)
