-- What parts weigh together, and a composite of them.
use Rattle.std.proofs.Common.{◌≡◌, ◌∙◌, ℕ, ◌+◌, ◌-◌, ◌^◌, ◌<◌, ◌≤◌, List, [], ◌∷◌, true, Some, None, is_some, refl, sym, ap, arith}
use Rattle.std.specs.Prelude.{min}
use Rattle.std.specs.List.{list_all}
use Rattle.sz_value.specs.Data.{Datum, data_of}
use Rattle.sz_value.specs.Weight.{weight_of, data_weight}
use Rattle.sz_world_rules.specs.Slots.{Slot, all_defined}
use Rattle.sz_world_rules.specs.Ticks.{weight_of_all}
use Rattle.sz_world_rules.specs.Emits.{weight_if_all}
use Rattle.sz_machine_cells.specs.Results.{defined_of, slots_weight, composite_weight}
use Rattle.sz_machine_cells.proofs.ListLemmas.{are_all}

-- those that are defined weigh as much as all
defined_weigh : (xs : List Slot) → slots_weight xs ≡ weight_of_all (defined_of xs)
defined_weigh [] = refl
defined_weigh (None ∷ xs) = let same : 0 + slots_weight xs ≡ slots_weight xs = omega arith in same ∙ defined_weigh xs
defined_weigh (Some d ∷ xs) = ap (λ n. weight_of d + n) (defined_weigh xs)

-- where all are defined, they weigh as much as their values
pub all_weigh : (xs : List Slot) → list_all is_some xs ≡ true → slots_weight xs ≡ weight_if_all (all_defined xs)
all_weigh xs all = defined_weigh xs ∙ ap weight_if_all (sym (are_all xs all))

-- where the weights together are within bounds, none of them was cut
uncut : (ds : List Datum) → weight_of_all ds < 2 ^ 64 - 1 → data_weight (data_of ds) ≡ weight_of_all ds
uncut [] fits = refl
uncut (d ∷ ds) fits =
    let rest = uncut ds (omega (arith, fits)) in
    omega (arith, fits, rest)

cut : (ds : List Datum) → weight_of_all ds ≤ data_weight (data_of ds)
cut [] = omega arith
cut (d ∷ ds) = omega (arith, cut ds)

-- a composite weighs one more than its parts
pub composite_within : (xs : List Slot) (weight most : ℕ) → list_all is_some xs ≡ true
    → weight ≡ 1 + slots_weight xs → weight ≤ most → most < 2 ^ 64 → weight ≡ composite_weight (all_defined xs)
composite_within xs weight most all is within fits =
    let ds = defined_of xs in
    let parts : slots_weight xs ≡ weight_of_all ds = defined_weigh xs in
    let same = uncut ds (omega (arith, is, within, fits, parts)) in
    let cut_off : weight ≡ min (1 + data_weight (data_of ds)) (2 ^ 64 - 1) =
    omega (arith, is, within, fits, parts, same) in
    cut_off ∙ ap composite_weight (sym (are_all xs all))

-- where its parts and one weigh more than this, it does
pub composite_passes : (xs : List Slot) (most : ℕ) → list_all is_some xs ≡ true → most < 1 + slots_weight xs
    → most < 2 ^ 64 - 1 → most < composite_weight (all_defined xs)
composite_passes xs most all more fits =
    let ds = defined_of xs in
    let parts : slots_weight xs ≡ weight_of_all ds = defined_weigh xs in
    let least = cut ds in
    let is : composite_weight (all_defined xs) ≡ min (1 + data_weight (data_of ds)) (2 ^ 64 - 1) =
    ap composite_weight (are_all xs all) in
    omega (arith, more, fits, parts, least, is)

-- a weight stays at the greatest number
pub composite_most : (xs : List Slot) (most : ℕ) → list_all is_some xs ≡ true → most < 1 + slots_weight xs
    → most ≡ 2 ^ 64 - 1 → most ≡ composite_weight (all_defined xs)
composite_most xs most all more is_most =
    let ds = defined_of xs in
    let parts : slots_weight xs ≡ weight_of_all ds = defined_weigh xs in
    let least = cut ds in
    let is : composite_weight (all_defined xs) ≡ min (1 + data_weight (data_of ds)) (2 ^ 64 - 1) =
    ap composite_weight (are_all xs all) in
    omega (arith, more, is_most, parts, least, is)
