-- What is appended to bytes, what is read from their front, and what it is that nothing of its kind stands there.
use Rattle.std.specs.Prelude.{◌≡◌, ℕ, ℤ, List, [], ◌∷◌, ◌++◌, length, Result, Ok, Err}
use Rattle.std.specs.List.{AllByRecursion}
use Rattle.std.specs.Int.{w64}
use Rattle.std.specs.Int.RustNames.{FitsSigned}
use Rattle.sz_value.specs.Data.{Datum}
use Rattle.sz_flat.specs.declared.error.FlatError.{FlatError}
use Rattle.sz_flat.specs.declared.error.FlatError.TheVariants.{NotFlat, NoMemory}
use Rattle.sz_flat.specs.Spelling.{length_bytes, number_bytes, counted_bytes, spelling, IsShort, HasSpelling}

-- what can be spelled, and how
pub record Language (Y : Type 0) : Type 1 where
  pub Has : Y → Type 0
  pub spelled : Y → List ℕ

-- values
abbrev pub values : Language Datum
values = record { Has = HasSpelling; spelled = spelling }

-- a key of a map and its value
abbrev pub pair : Language (Datum × Datum)
pair = record { Has = λ p. HasSpelling p.0 × HasSpelling p.1; spelled = λ p. spelling p.0 ++ spelling p.1 }

-- lengths
abbrev pub lengths : Language ℕ
lengths = record { Has = IsShort; spelled = length_bytes }

-- numbers
abbrev pub numbers : Language ℤ
numbers = record { Has = FitsSigned w64; spelled = number_bytes }

-- bytes after their number
abbrev pub strings : Language (List ℕ)
strings = record { Has = λ s. IsShort (length s); spelled = counted_bytes }

-- the spellings of all in a list, one after the other
abbrev pub spelled_all : {Y : Type 0} → (Y → List ℕ) → List Y → List ℕ
spelled_all spelled [] = []
spelled_all spelled (y ∷ ys) = spelled y ++ spelled_all spelled ys

-- so many of a language
abbrev pub all_of : {Y : Type 0} → Language Y → ℕ → Language (List Y)
all_of language count = record {
  Has = λ ys. (length ys ≡ count) × AllByRecursion language.Has ys;
  spelled = spelled_all language.spelled;
}

module _ {Y : Type 0} (language : Language Y) where
  -- this was appended
  pub record Adds (old new : List ℕ) (one : Y) : Type 0 where
    pub has : language.Has one
    pub is : new ≡ old ++ language.spelled one

  -- this stands in front, and that follows
  pub record Stands (flat : List ℕ) (one : Y) (rest : List ℕ) : Type 0 where
    pub has : language.Has one
    pub is : flat ≡ language.spelled one ++ rest

  -- nothing of the kind stands in front
  abbrev pub Lacks : List ℕ → Type 0
  Lacks flat = (one : Y) (rest : List ℕ) → Stands flat one rest → ⊥

  -- it stopped there for want of memory, of which nothing is said, or since nothing of the kind stands in front
  abbrev pub Stops : List ℕ → FlatError → Type 0
  Stops flat NotFlat = Lacks flat
  Stops flat NoMemory = Unit {0}

  -- what was read stands in front, or it stopped there
  abbrev pub Reads : {X : Type 0} → (X → Y) → (X → List ℕ) → List ℕ → Result X FlatError → Type 0
  Reads seen_one rest flat (Ok found) = Stands flat (seen_one found) (rest found)
  Reads seen_one rest flat (Err e) = Stops flat e
