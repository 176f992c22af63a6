-- The bytes that spell a value: one for its kind, and after it its number, its bytes, or its parts.
use Rattle.std.specs.Prelude.{◌≡◌, ◌<◌, ◌^◌, ℕ, ℤ, if◌then◌else◌, List, [], ◌∷◌, ◌++◌, length, IsUtf8}
use Rattle.std.specs.Int.{w32, w64, cast_unsigned, to_be_bytes}
use Rattle.std.specs.Int.RustNames.{FitsSigned}
use Rattle.sz_value.specs.Data.{Datum, truth, int, time, str, bytes, array, tuple, mapping, Data, no_data, datum, parts_of, Entries, no_entries, entry, pairs_of}
use Rattle.sz_value.specs.Order.{KeysRise}

-- a length in 4 bytes, the high one first
abbrev pub length_bytes : ℕ → List ℕ
length_bytes n = to_be_bytes w32 n

-- a number in 8 bytes, the high one first, in two's complement
abbrev pub number_bytes : ℤ → List ℕ
number_bytes n = to_be_bytes w64 (cast_unsigned w64 n)

-- so many bytes, and then they
abbrev pub counted_bytes : List ℕ → List ℕ
counted_bytes s = length_bytes (length s) ++ s

abbrev mutual
  -- the bytes that spell a value
  pub spelling : Datum → List ℕ
  spelling (truth b) = 1 ∷ (if b then 1 else 0) ∷ []
  spelling (int n) = 2 ∷ number_bytes n
  spelling (time n) = 3 ∷ number_bytes n
  spelling (str s) = 4 ∷ counted_bytes s
  spelling (bytes s) = 5 ∷ counted_bytes s
  spelling (array ds) = 6 ∷ length_bytes (length (parts_of ds)) ++ spelled_parts ds
  spelling (tuple ds) = 7 ∷ length_bytes (length (parts_of ds)) ++ spelled_parts ds
  spelling (mapping es) = 8 ∷ length_bytes (length (pairs_of es)) ++ spelled_pairs es

  -- the spellings of parts, one after the other
  pub spelled_parts : Data → List ℕ
  spelled_parts no_data = []
  spelled_parts (datum d ds) = spelling d ++ spelled_parts ds

  -- the spellings of keys, each with that of its value after it
  pub spelled_pairs : Entries → List ℕ
  spelled_pairs no_entries = []
  spelled_pairs (entry k v es) = spelling k ++ (spelling v ++ spelled_pairs es)

-- the length can be spelled
abbrev pub IsShort : ℕ → Type 0
IsShort n = n < 2 ^ 32

abbrev mutual
  -- each length in the value can be spelled
  pub HasShortLengths : Datum → Type 0
  HasShortLengths (truth b) = Unit {0}
  HasShortLengths (int n) = Unit {0}
  HasShortLengths (time n) = Unit {0}
  HasShortLengths (str s) = IsShort (length s)
  HasShortLengths (bytes s) = IsShort (length s)
  HasShortLengths (array ds) = IsShort (length (parts_of ds)) × HaveShortLengths ds
  HasShortLengths (tuple ds) = IsShort (length (parts_of ds)) × HaveShortLengths ds
  HasShortLengths (mapping es) = IsShort (length (pairs_of es)) × PairsHaveShortLengths es

  -- each length in the parts can be spelled
  pub HaveShortLengths : Data → Type 0
  HaveShortLengths no_data = Unit {0}
  HaveShortLengths (datum d ds) = HasShortLengths d × HaveShortLengths ds

  -- each length in the keys and values can be spelled
  pub PairsHaveShortLengths : Entries → Type 0
  PairsHaveShortLengths no_entries = Unit {0}
  PairsHaveShortLengths (entry k v es) = HasShortLengths k × HasShortLengths v × PairsHaveShortLengths es

abbrev mutual
  -- the value can be spelled: its numbers have 64 bits, its lengths 32, its texts are UTF-8, and the keys of its maps
  -- rise
  pub HasSpelling : Datum → Type 0
  HasSpelling (truth b) = Unit {0}
  HasSpelling (int n) = FitsSigned w64 n
  HasSpelling (time n) = FitsSigned w64 n
  HasSpelling (str s) = IsShort (length s) × IsUtf8 s
  HasSpelling (bytes s) = IsShort (length s)
  HasSpelling (array ds) = IsShort (length (parts_of ds)) × HaveSpellings ds
  HasSpelling (tuple ds) = IsShort (length (parts_of ds)) × HaveSpellings ds
  HasSpelling (mapping es) = IsShort (length (pairs_of es)) × KeysRise (pairs_of es) × PairsHaveSpellings es

  -- each of the parts can be spelled
  pub HaveSpellings : Data → Type 0
  HaveSpellings no_data = Unit {0}
  HaveSpellings (datum d ds) = HasSpelling d × HaveSpellings ds

  -- each of the keys and values can be spelled
  pub PairsHaveSpellings : Entries → Type 0
  PairsHaveSpellings no_entries = Unit {0}
  PairsHaveSpellings (entry k v es) = HasSpelling k × HasSpelling v × PairsHaveSpellings es

-- the bytes spell the value
pub record Spells (flat : List ℕ) (d : Datum) : Type 0 where
  pub spelled : HasSpelling d
  pub is : flat ≡ spelling d
