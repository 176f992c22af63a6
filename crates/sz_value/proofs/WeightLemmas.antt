-- What lists of values and of pairs weigh.
use Rattle.std.proofs.Common.{◌≡◌, ℕ, ◌+◌, ◌-◌, ◌^◌, ◌<◌, ◌≤◌, List, [], length, refl, drop, map, slice_get, Some, ap, arith}
use Rattle.std.specs.Prelude.{min}
use Rattle.std.proofs.lemmas.List.{drop_all}
use Rattle.sz_value.specs.Data.{Datum, data_of, entries_of}
use Rattle.sz_value.specs.Seen.{seen}
use Rattle.sz_value.specs.Weight.{full_weight, data_weight, entries_weight}
use Rattle.sz_value.specs.declared.value.Value.{Value}
use Rattle.sz_value.proofs.PlaceLemmas.{drop_at}

-- what all values of a list weigh
abbrev pub list_weight : List Value → ℕ
list_weight vs = data_weight (data_of (map seen vs))

-- what all pairs of a list weigh
abbrev pub pairs_weight : List (Datum × Datum) → ℕ
pairs_weight ps = entries_weight (entries_of ps)

-- at the end of a list all of it is weighed
weighed : {X : Type 0} (weigh : List X → ℕ) → weigh [] ≡ 0 → (xs : List X) (i total : ℕ) → length xs ≤ i
    → total < 2 ^ 64 → min (total + weigh (drop i xs)) (2 ^ 64 - 1) ≡ min (weigh xs) (2 ^ 64 - 1)
    → total ≡ min (weigh xs) (2 ^ 64 - 1)
weighed weigh none xs i total done fits so_far =
    let rest = ap weigh (drop_all i xs done) in
    omega (arith, so_far, rest, none)

-- this for values
pub list_weighed : (vs : List Value) (i total : ℕ) → length vs ≤ i → total < 2 ^ 64
    → min (total + list_weight (drop i vs)) (2 ^ 64 - 1) ≡ min (list_weight vs) (2 ^ 64 - 1)
    → total ≡ min (list_weight vs) (2 ^ 64 - 1)
list_weighed = weighed list_weight refl

-- this for pairs
pub pairs_weighed : (ps : List (Datum × Datum)) (i total : ℕ) → length ps ≤ i → total < 2 ^ 64
    → min (total + pairs_weight (drop i ps)) (2 ^ 64 - 1) ≡ min (pairs_weight ps) (2 ^ 64 - 1)
    → total ≡ min (pairs_weight ps) (2 ^ 64 - 1)
pairs_weighed = weighed pairs_weight refl

-- the pair at a place, and what is after it
pub pairs_left : (ps : List (Datum × Datum)) (i : ℕ) (p : Datum × Datum) → slice_get ps i ≡ Some p
    → pairs_weight (drop i ps) ≡ full_weight p.0 + full_weight p.1 + pairs_weight (drop (i + 1) ps)
pairs_left ps i p is = ap pairs_weight (drop_at ps i p is)
