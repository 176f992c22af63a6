-- Entries behind gates, as bytes.
use Rattle.std.specs.Prelude.{◌≡◌, ◌≢◌, ◌⊎◌, ◌<◌, ◌^◌, ℕ, ⊤, List, [], ◌∷◌, ◌++◌, length, flat_map}
use Rattle.std.specs.Int.{w64, to_be_bytes}
use Rattle.std.specs.List.{AllByRecursion}

-- a length in 8 bytes, the high one first
abbrev pub count_bytes : ℕ → List ℕ
count_bytes n = to_be_bytes w64 n

-- an entry behind its length
abbrev pub with_length : List ℕ → List ℕ
with_length entry = count_bytes (length entry) ++ entry

-- an entry behind its length, and a closed gate behind it
abbrev pub with_gate : List ℕ → List ℕ
with_gate entry = with_length entry ++ 0 ∷ []

-- an entry behind an open gate
abbrev pub opened : List ℕ → List ℕ
opened entry = 1 ∷ with_length entry

-- entries, each behind an open gate
abbrev pub all_opened : List (List ℕ) → List ℕ
all_opened entries = flat_map opened entries

-- the place of the gate behind these entries
abbrev pub end_of : List (List ℕ) → ℕ
end_of entries = length (all_opened entries)

-- the length of an entry fits in its 8 bytes
abbrev pub IsCounted : List ℕ → Type 0
IsCounted entry = length entry < 2 ^ 64

-- The bytes hold these entries: each of them behind an open gate, and then a gate that isn't open. What stands behind
-- that gate doesn't count.
pub record Holds (entries : List (List ℕ)) (bytes : List ℕ) : Type 0 where
  pub gate : ℕ
  pub behind : List ℕ
  pub is : bytes ≡ all_opened entries ++ gate ∷ behind
  pub closed : gate ≢ 1
  pub counted : AllByRecursion IsCounted entries

-- the bytes hold these entries, or these and one more
abbrev pub HoldsOneOf : List (List ℕ) → List ℕ → List ℕ → Type 0
HoldsOneOf entries entry bytes = Holds entries bytes ⊎ Holds (entries ++ entry ∷ []) bytes

-- the bytes hold no entry: there is no byte or one, or the first gate isn't open
abbrev pub IsEmpty : List ℕ → Type 0
IsEmpty [] = ⊤
IsEmpty (gate ∷ []) = ⊤
IsEmpty (gate ∷ byte ∷ bytes) = gate ≢ 1

-- the bytes hold no entry, or this one alone
abbrev pub IsEmptyOrHolds : List ℕ → List ℕ → Type 0
IsEmptyOrHolds entry bytes = IsEmpty bytes ⊎ Holds (entry ∷ []) bytes
