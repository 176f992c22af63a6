-- Runs of pairs: where each ends, and which of them a key belongs to.
use Rattle.std.specs.Prelude.{◌≡◌, ◌<◌, ◌+◌, ℕ, zero, suc, ⊤, List, [], ◌∷◌, length}
use Rattle.std.specs.List.{AllByRecursion}
use Rattle.std.specs.declared.cmp.Ordering.{Ordering}
use Rattle.std.specs.declared.cmp.Ordering.TheVariants.{Less, Greater}
use Rattle.std.specs.Map.{keys_of}
use Rattle.sz_value.specs.Data.{Datum}
use Rattle.sz_value.specs.Order.{compare, KeysRise}
use Rattle.sz_value.specs.Seen.{seen, seen_pairs, seen_runs}
use Rattle.sz_value.specs.declared.value.Pair.{Pair}
use Rattle.sz_value.specs.declared.value.Run.{Run}

-- no run is empty
abbrev pub AreFilled : List Run → Type 0
AreFilled [] = ⊤
AreFilled (run ∷ runs) = (0 < length run.pairs.items) × AreFilled runs

-- no run is empty, and each key is less than all keys after it
abbrev pub AreRuns : List Run → Type 0
AreRuns runs = AreFilled runs × KeysRise (seen_runs runs)

-- each run ends behind its last pair, where so many pairs lie before them all
abbrev pub AreEnds : ℕ → List Run → Type 0
AreEnds before [] = ⊤
AreEnds before (run ∷ runs) = (run.end ≡ before + length run.pairs.items) × AreEnds run.end runs

-- the keys of all runs before that at the place are less than the key, and those of all runs after it are greater
abbrev pub IsRunFor : Datum → ℕ → List Run → Type 0
IsRunFor key zero [] = ⊤
IsRunFor key (suc place) [] = ⊥
IsRunFor key zero (run ∷ runs) = AllByRecursion (λ k. compare key k ≡ Less) (keys_of (seen_runs runs))
IsRunFor key (suc place) (run ∷ runs) =
    AllByRecursion (λ k. compare key k ≡ Greater) (keys_of (seen_pairs run.pairs.items)) × IsRunFor key place runs

-- how the first key of a run compares with a key; that of a run without pairs comes before all
abbrev pub head_order : Datum → List Pair → Ordering
head_order key [] = Less
head_order key (p ∷ ps) = compare (seen p.key) key
