-- What a hasher is fed of lists of values and of pairs.
use Rattle.std.proofs.Common.{◌≡◌, ℕ, ◌+◌, ◌<◌, ◌≤◌, List, [], ◌∷◌, ◌++◌, length, drop, map, get_or, slice_get, Some, refl, sym, ap, ◌∙◌}
use Rattle.std.specs.List.{fold}
use Rattle.std.specs.Hash.{HashWrites}
use Rattle.std.proofs.lemmas.List.{drop_more, drop_all}
use Rattle.std.proofs.lemmas.Option.{slice_get_within, get_or_from_slice_get}
use Rattle.std.proofs.lemmas.List.Sums.{fold-append}
use Rattle.sz_value.specs.Data.{Datum, data_of, entries_of}
use Rattle.sz_value.specs.Hashing.{hash_writes, data_writes, entries_writes}
use Rattle.sz_value.specs.Seen.{seen}
use Rattle.sz_value.specs.declared.value.Value.{Value}

-- what is fed of a list of values
abbrev pub list_writes : List Value → HashWrites
list_writes vs = data_writes (data_of (map seen vs))

-- what is fed of a pair
abbrev pub pair_writes : Datum × Datum → HashWrites
pair_writes p = hash_writes p.0 ++ hash_writes p.1

-- what is fed of a list of pairs
abbrev pub pairs_writes : List (Datum × Datum) → HashWrites
pairs_writes ps = entries_writes (entries_of ps)

-- a list is fed one by one, and then an end
module _ {X S : Type 0} (one : X → HashWrites) (all : List X → HashWrites)
    (next : (x : X) (xs : List X) → all (x ∷ xs) ≡ one x ++ all xs)
    (write : S → List ℕ → S) where
  step : (xs : List X) (i : ℕ) (x : X) (before after : S) → i < length xs → x ≡ get_or xs i x
      → after ≡ fold write before (one x)
      → fold write before (all (drop i xs)) ≡ fold write after (all (drop (i + 1) xs))
  step xs i x before after within is fed =
      ap (λ ys. fold write before (all ys)) (drop_more xs i x within)
      ∙ ap (fold write before) (next (get_or xs i x) (drop (i + 1) xs))
      ∙ fold-append write before (one (get_or xs i x)) (all (drop (i + 1) xs))
      ∙ ap (λ y. fold write (fold write before (one y)) (all (drop (i + 1) xs))) (sym is)
      ∙ ap (λ s. fold write s (all (drop (i + 1) xs))) (sym fed)

-- feeding one value more leaves the rest
pub list_step : {S : Type 0} (write : S → List ℕ → S) (vs : List Value) (i : ℕ) (v : Value) (before after : S)
    → i < length vs → v ≡ get_or vs i v → after ≡ fold write before (hash_writes (seen v))
    → fold write before (list_writes (drop i vs)) ≡ fold write after (list_writes (drop (i + 1) vs))
list_step write = step (λ v. hash_writes (seen v)) list_writes (λ v vs. refl) write

-- feeding one pair more leaves the rest
pub pairs_step : {S : Type 0} (write : S → List ℕ → S) (ps : List (Datum × Datum)) (i : ℕ) (p : Datum × Datum)
    (before after : S) → slice_get ps i ≡ Some p → after ≡ fold write before (pair_writes p)
    → fold write before (pairs_writes (drop i ps)) ≡ fold write after (pairs_writes (drop (i + 1) ps))
pairs_step write ps i p before after is =
    step pair_writes pairs_writes (λ p ps. refl) write ps i p before after (slice_get_within ps i p is)
    (sym (get_or_from_slice_get ps i p p is))

-- at the end of a list of values the end is left
pub list_done : {S : Type 0} (write : S → List ℕ → S) (vs : List Value) (i : ℕ) (before : S) → length vs ≤ i
    → fold write before (list_writes (drop i vs)) ≡ write before (8 ∷ [])
list_done write vs i before done = ap (λ ys. fold write before (list_writes ys)) (drop_all i vs done)

-- at the end of a list of pairs the end is left
pub pairs_done : {S : Type 0} (write : S → List ℕ → S) (ps : List (Datum × Datum)) (i : ℕ) (before : S) → length ps ≤ i
    → fold write before (pairs_writes (drop i ps)) ≡ write before (8 ∷ [])
pairs_done write ps i before done = ap (λ ys. fold write before (pairs_writes ys)) (drop_all i ps done)
