-- Keys and values that stand by turns, taken one after the other.
use Rattle.std.proofs.Common.{◌≡◌, ◌∙◌, List, [], ◌∷◌, ◌++◌, Option, Some, None, unwrap_or, refl, sym, ap, subst, ℕ, ◌+◌, ◌<◌, length, take, get_or}
use Rattle.std.proofs.lemmas.List.{map-append, take_more}
use Rattle.sz_value.specs.Data.{Datum}
use Rattle.sz_value.specs.Maps as maps
use Rattle.sz_builtin.specs.Views.{seen_view}
use Rattle.sz_builtin.specs.declared.view.View.{View}
use Rattle.sz_world_rules.specs.Slots.{Slot}
use Rattle.sz_world_rules.specs.Operations.{with_pairs}
use Rattle.sz_machine_cells.specs.Results.{defined_of, by_turns, left_over, ArePaired}
use Rattle.sz_machine_cells.specs.PairViews.{seen_pair_view, seen_pair_views}
use Rattle.sz_machine_cells.specs.declared.maps.PairView.{PairView}
use Rattle.sz_machine_cells.proofs.ListLemmas.{one_more_defined, no_more_defined}

-- putting in keys and values by turns is putting in their pairs
pub put_by_turns : (pairs : List (Datum × Datum)) (ds : List Datum)
    → with_pairs pairs ds ≡ maps.with_pairs pairs (by_turns ds)
put_by_turns pairs [] = refl
put_by_turns pairs (k ∷ []) = refl
put_by_turns pairs (k ∷ v ∷ ds) = put_by_turns (maps.with_pair k v pairs) ds

-- a key waits
pub turn_begins : (ds : List Datum) (d : Datum) → left_over ds ≡ None
    → (by_turns (ds ++ d ∷ []) ≡ by_turns ds) × (left_over (ds ++ d ∷ []) ≡ Some d)
turn_begins [] d e = (refl, refl)
turn_begins (k ∷ []) d e = absurd (cc)
turn_begins (k ∷ v ∷ ds) d e = let rest = turn_begins ds d e in (ap (λ ps. (k, v) ∷ ps) rest.0, rest.1)

-- the value of the key that waits
pub turn_ends : (ds : List Datum) (k d : Datum) → left_over ds ≡ Some k
    → (by_turns (ds ++ d ∷ []) ≡ by_turns ds ++ (k, d) ∷ []) × (left_over (ds ++ d ∷ []) ≡ None)
turn_ends [] k d e = absurd (cc)
turn_ends (j ∷ []) k d e = (ap (λ o. (unwrap_or o j, d) ∷ []) e, refl)
turn_ends (j ∷ v ∷ ds) k d e = let rest = turn_ends ds k d e in (ap (λ ps. (j, v) ∷ ps) rest.0, rest.1)

-- a part more, which is a key that waits
pub key_waits : (xs : List Slot) (pairs : List PairView) (v : View)
    → ArePaired (defined_of xs) (seen_pair_views pairs) None
    → ArePaired (defined_of (xs ++ Some (seen_view v) ∷ [])) (seen_pair_views pairs) (Some (seen_view v))
key_waits xs pairs v h =
    let parts = sym (one_more_defined xs (seen_view v)) in
    let begins = turn_begins (defined_of xs) (seen_view v) (sym h.waits) in
    record { paired = h.paired ∙ sym begins.0 ∙ ap by_turns parts; waits = sym begins.1 ∙ ap left_over parts }

-- a part more, which is the value of the key that waited
pub pair_made : (xs : List Slot) (pairs : List PairView) (k v : View)
    → ArePaired (defined_of xs) (seen_pair_views pairs) (Some (seen_view k))
    → ArePaired (defined_of (xs ++ Some (seen_view v) ∷ []))
    (seen_pair_views (pairs ++ record { key = k; value = v } ∷ [])) None
pair_made xs pairs k v h =
    let parts = sym (one_more_defined xs (seen_view v)) in
    let pair : PairView = record { key = k; value = v } in
    let ends = turn_ends (defined_of xs) (seen_view k) (seen_view v) (sym h.waits) in
    record {
      paired = map-append seen_pair_view pairs (pair ∷ []) ∙ ap (λ ps. ps ++ seen_pair_view pair ∷ []) h.paired
          ∙ sym ends.0 ∙ ap by_turns parts;
      waits = sym ends.1 ∙ ap left_over parts;
    }

-- an undefined slot more
pub none_waits : (xs : List Slot) (ps : List (Datum × Datum)) (key : Option Datum) → ArePaired (defined_of xs) ps key
    → ArePaired (defined_of (xs ++ None ∷ [])) ps key
none_waits xs ps key h = subst (λ ds. ArePaired ds ps key) (sym (no_more_defined xs)) h

-- the same where the front of a list becomes longer by one
module _ (xs : List Slot) (i : ℕ) (x : Slot) (inside : i < length xs) (here : x ≡ get_or xs i x)
    (ps : List (Datum × Datum)) (key : Option Datum) where
  pub one_longer : ArePaired (defined_of (take i xs ++ x ∷ [])) ps key → ArePaired (defined_of (take (i + 1) xs)) ps key
  one_longer h = subst (λ l. ArePaired (defined_of l) ps key)
      (ap (λ y. take i xs ++ y ∷ []) here ∙ sym (take_more xs i x inside)) h
