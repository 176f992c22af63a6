-- What is found where two spellings are walked at once: what follows them, or how they compare.
use Rattle.std.specs.Prelude.{◌≡◌, ◌≢◌, ℕ, Bool, if◌then◌else◌, List, [], ◌∷◌, ◌++◌, length, Result, Ok, Err}
use Rattle.std.specs.Borrow.{Bor}
use Rattle.std.specs.declared.cmp.Ordering.{Ordering}
use Rattle.std.specs.declared.cmp.Ordering.TheVariants.{Equal}
use Rattle.std.specs.Cmp.Lexicographic.{slice_cmp}
use Rattle.sz_value.specs.Data.{Datum, Data, parts_of, Entries, pairs_of}
use Rattle.sz_value.specs.Order.{compare}
use Rattle.sz_flat.specs.Lists.{SpellsAll}
use Rattle.sz_flat.specs.Reading.{Language, Stands}
use Rattle.sz_flat.specs.Spelling.{length_bytes, spelled_parts, spelled_pairs, IsShort, HaveSpellings, PairsHaveSpellings}

-- truth values, after the byte of their kind
abbrev pub truths : Language Bool
truths = record { Has = λ b. Unit {0}; spelled = λ b. (if b then 1 else 0) ∷ [] }

-- so many values
abbrev pub parts : ℕ → Language Data
parts count = record { Has = λ ds. (length (parts_of ds) ≡ count) × HaveSpellings ds; spelled = spelled_parts }

-- the values of an array or a tuple, after their number
abbrev pub lists : Language Data
lists = record {
  Has = λ ds. IsShort (length (parts_of ds)) × HaveSpellings ds;
  spelled = λ ds. length_bytes (length (parts_of ds)) ++ spelled_parts ds;
}

-- the pairs of a map, after their number
abbrev pub maps : Language Entries
maps = record {
  Has = λ es. IsShort (length (pairs_of es)) × PairsHaveSpellings es;
  spelled = λ es. length_bytes (length (pairs_of es)) ++ spelled_pairs es;
}

-- of two that compare so and have these bytes after them, either these bytes were found, where the two are equal, or
-- how they compare
abbrev pub Finds : Ordering → List ℕ → List ℕ → Result (Bor (List ℕ) × Bor (List ℕ)) Ordering → Type 0
Finds order after behind (Ok rests) = (order ≡ Equal) × (rests.0.now ≡ after) × (rests.1.now ≡ behind)
Finds order after behind (Err found) = (order ≡ found) × (found ≢ Equal)

-- that was found of whatever of the two languages stands in front
abbrev pub ComparesBoth : {Y : Type 0} → Language Y → Language Y → (Y → Y → Ordering) → List ℕ → List ℕ
    → Result (Bor (List ℕ) × Bor (List ℕ)) Ordering → Type 0
ComparesBoth {Y} language second cmp one other result =
    (x y : Y) (after behind : List ℕ) → Stands language one x after → Stands second other y behind
    → Finds (cmp x y) after behind result

-- the same with one language
abbrev pub Compares : {Y : Type 0} → Language Y → (Y → Y → Ordering) → List ℕ → List ℕ
    → Result (Bor (List ℕ) × Bor (List ℕ)) Ordering → Type 0
Compares language cmp = ComparesBoth language language cmp

-- the values that are spelled by the one, whichever they are, compare so with those that are spelled by the other
abbrev pub Orders : List ℕ → List ℕ → Ordering → Type 0
Orders one other found = (xs ys : List Datum) → SpellsAll one xs → SpellsAll other ys → found ≡ slice_cmp compare xs ys
