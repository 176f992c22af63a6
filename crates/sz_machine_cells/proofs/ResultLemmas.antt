-- Parts whose bounds aren't there, parts of parts, and parts that lie below others.
use Rattle.std.proofs.Common.{◌≡◌, ◌∙◌, ◌+◌, ◌-◌, ◌<◌, ◌≤◌, ℕ, ℤ, List, [], ◌∷◌, Some, None, true, length, take, drop, reverse, set, get_or, refl, sym, ap, arith}
use Rattle.std.proofs.lemmas.List.{length-take, drop-take, take-take, drop-drop, drop_all, take_all}
use Rattle.sz_value.specs.Data.{int}
use Rattle.sz_value.specs.Texts.{is_ascii}
use Rattle.sz_value.proofs.ForCallers.{ascii_part}
use Rattle.sz_world_rules.specs.Slots.{Slot}
use Rattle.sz_world_rules.specs.Operations.{slice_of}
use Rattle.sz_world_rules.specs.Ticks.{result_weight}
use Rattle.sz_machine_cells.specs.Results.{IsCut}
use Rattle.sz_machine_cells.proofs.ListLemmas.{third_is, third_set}

-- a part that has no beginning is undefined
pub no_beginning : (x j : Slot) → slice_of x None j ≡ None
no_beginning None j = refl
no_beginning (Some d) j = refl

-- so is one that has no end
pub no_end : (x i : Slot) → slice_of x i None ≡ None
no_end None i = refl
no_end (Some d) None = refl
no_end (Some d) (Some (int n)) = refl
no_end (Some d) (Some e) = refl

-- a part of a part is one of the whole, after the bytes before both
pub part_in_part : (xs : List ℕ) (before count more few : ℕ) → more + few ≤ length (take count (drop before xs))
    → take few (drop more (take count (drop before xs))) ≡ take few (drop (before + more) xs)
part_in_part xs before count more few h =
    let rest = drop before xs in
    let long = length-take count rest in
    let all : take count rest ≡ take (more + (count - more)) rest = ap (λ n. take n rest) (omega (arith, long, h)) in
    let cut : drop more (take count rest) ≡ take (count - more) (drop more rest) =
    ap (drop more) all ∙ drop-take more (count - more) rest in
    ap (take few) cut ∙ take-take few (count - more) (drop more rest) (omega (arith, long, h))
    ∙ ap (take few) (drop-drop more before xs)

-- and it is of ASCII where that part is
pub ascii_in_part : (xs : List ℕ) (before count more few : ℕ) → more + few ≤ length (take count (drop before xs))
    → is_ascii (take count (drop before xs)) ≡ true → is_ascii (take few (drop (before + more) xs)) ≡ true
ascii_in_part xs before count more few h ascii =
    ap is_ascii (sym (part_in_part xs before count more few h))
    ∙ ascii_part (take count (drop before xs)) more few ascii

-- after the end there is nothing
pub nothing_after : (xs : List ℕ) (n : ℕ) → length xs < n → drop n xs ≡ []
nothing_after xs n h = drop_all n xs (omega (arith, h))

-- the first elements of a list that has fewer are all that it has
pub all_in_front : (xs : List ℕ) (n : ℕ) → length xs < n → take n xs ≡ xs
all_in_front xs n h = take_all n xs (omega (arith, h))

-- all of a list is a part of it
pub all_are_a_part : (xs : List ℕ) → take (length xs) (drop 0 xs) ≡ xs
all_are_a_part xs = take_all (length xs) xs (omega arith)

-- what was cut below two places
pub is_cut : (xs : List Slot) (place : ℕ) (now after : Slot) (from to : ℤ) (weight : ℕ) → 2 < length xs
    → place ≡ length xs - 3
    → reverse xs ≡ Some (int to) ∷ Some (int from) ∷ drop 2 (reverse xs) → now ≡ get_or xs place now
    → after ≡ slice_of now (Some (int from)) (Some (int to)) → weight ≡ result_weight after
    → IsCut from to weight (reverse xs) (drop 1 (drop 1 (reverse (set xs place after))))
is_cut xs place now after from to weight long at ints is cut weighs =
    let there : get_or xs (length xs - 3) now ≡ now = ap (λ n. get_or xs n now) (sym at) ∙ sym is in
    record {
      base = now;
      below = drop 3 (reverse xs);
      was = ints ∙ ap (λ l. Some (int to) ∷ Some (int from) ∷ l)
          (third_is xs now long ∙ ap (λ x. x ∷ drop 3 (reverse xs)) there);
      is =
          drop-drop 1 1 (reverse (set xs place after)) ∙ ap (λ n. drop 2 (reverse (set xs n after))) at
          ∙ third_set xs after long ∙ ap (λ x. x ∷ drop 3 (reverse xs)) cut;
      weighs = weighs ∙ ap result_weight cut;
    }
