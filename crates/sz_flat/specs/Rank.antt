-- The rank of a list of values: a number in 64 bits. Of two lists whose ranks differ, that with the lower one is the
-- lesser.
use Rattle.std.specs.Prelude.{◌≡◌, ◌+◌, ◌*◌, ◌-◌, ◌/◌, ◌^◌, ◌<◌, ℕ, zero, suc, ℤ, pos, negsuc, min, if◌then◌else◌, List, [], ◌∷◌, slice_index}
use Rattle.sz_value.specs.Data.{Datum, truth, int, time, str, bytes}
use Rattle.sz_value.specs.Order.{kind}
use Rattle.sz_flat.specs.Lists.{SpellsAll}
use Rattle.sz_flat.specs.Reading.{Language, Stands}

-- so many bytes from the front as one number, the first byte its highest; one that isn't there counts as 0
abbrev pub front_number : ℕ → List ℕ → ℕ
front_number zero s = 0
front_number (suc count) s = 256 * front_number count s + slice_index s count

-- the place of a number among those from -2^59 to 2^59 - 1; one that is further from 0 has the place of the last on
-- its side
abbrev pub near_number : ℤ → ℕ
near_number (pos n) = 2 ^ 59 + min n (2 ^ 59 - 1)
near_number (negsuc n) = 2 ^ 59 - 1 - min n (2 ^ 59 - 1)

-- the front of a text or of bytes: of the first 8 bytes all but the 4 lowest bits
abbrev pub near_string : List ℕ → ℕ
near_string s = front_number 8 s / 16

-- the rank of a value among those of its kind, in 60 bits
abbrev pub rank_in_kind : Datum → ℕ
rank_in_kind (truth b) = if b then 1 else 0
rank_in_kind (int n) = near_number n
rank_in_kind (time n) = near_number n
rank_in_kind (str s) = near_string s
rank_in_kind (bytes s) = near_string s
rank_in_kind _ = 0

-- the rank of a list: the kind of its first value in the 4 highest bits, counted from 1, and below its rank in this
-- kind
abbrev pub rank_of : List Datum → ℕ
rank_of [] = 0
rank_of (d ∷ ds) = (kind d + 1) * 2 ^ 60 + rank_in_kind d

-- each item is a byte
abbrev pub AreBytes : List ℕ → Type 0
AreBytes s = (place : ℕ) → slice_index s place < 256

-- the value, if it is a text or bytes, has bytes
abbrev pub HasBytes : Datum → Type 0
HasBytes (str s) = AreBytes s
HasBytes (bytes s) = AreBytes s
HasBytes _ = Unit {0}

-- the number is the value's rank in its kind
pub record RanksInKind (d : Datum) (number : ℕ) : Type 0 where
  pub bytes : HasBytes d
  pub is : number ≡ rank_in_kind d

-- the first value, if it is a text or bytes, has bytes
abbrev pub BeginsWithBytes : List Datum → Type 0
BeginsWithBytes [] = Unit {0}
BeginsWithBytes (d ∷ ds) = HasBytes d

-- the number is the rank of the values
pub record Ranks (values : List Datum) (rank : ℕ) : Type 0 where
  pub bytes : BeginsWithBytes values
  pub is : rank ≡ rank_of values

-- it is known that the number is the rank of the values
abbrev pub IsRank : List Datum → ℕ → Type 0
IsRank values rank = ∥ Ranks values rank ∥₁

-- this holds of the number and whatever of the language stands in front
abbrev pub Front : {Y : Type 0} → Language Y → (Y → ℕ → Type 0) → List ℕ → ℕ → Type 0
Front {Y} language Holds flat number = (one : Y) (rest : List ℕ) → Stands language flat one rest → Holds one number

-- the number is the rank of the values that the bytes spell, whichever they are
abbrev pub RanksAll : List ℕ → ℕ → Type 0
RanksAll flat rank = (values : List Datum) → SpellsAll flat values → Ranks values rank
