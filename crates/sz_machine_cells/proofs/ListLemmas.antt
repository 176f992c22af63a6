-- Lists whose last items come first, as operands do.
use Rattle.std.proofs.Common.{◌≡◌, ◌∙◌, ℕ, zero, suc, ◌+◌, ◌-◌, ◌<◌, ◌≤◌, List, [], ◌∷◌, ◌++◌, length, map, take, drop, reverse, set, get_or, true, false, Some, None, is_some, refl, sym, ap}
use Rattle.std.proofs.Common.{arith}
use Rattle.std.specs.List.{list_all}
use Rattle.std.specs.Option.{option_map}
use Rattle.std.proofs.lemmas.List.{reverse-append, reverse-reverse, length-reverse, length-drop, length-set, take-append-drop, take_more_set, set-get_or, map-append, get_or-drop, drop-set-lt, drop-drop, append_assoc}
use Rattle.std.proofs.Math.Seq.{drop-append_seam, take-append_seam, take-suc}
use Rattle.sz_value.specs.Data.{Datum}
use Rattle.sz_value.specs.Seen.{seen}
use Rattle.sz_value.specs.declared.value.Value.{Value}
use Rattle.sz_world_rules.specs.Slots.{Slot, all_defined}
use Rattle.sz_instr.specs.States.{popped}
use Rattle.sz_machine_cells.specs.Results.{defined_of}

-- of a list turned round, its last items come first
turned : {X : Type 0} → (xs : List X) (k : ℕ) → reverse xs ≡ reverse (drop k xs) ++ reverse (take k xs)
turned xs k = sym (ap reverse (take-append-drop k xs)) ∙ reverse-append (take k xs) (drop k xs)

-- how many they are
count_of_last : {X : Type 0} → (xs : List X) (n : ℕ) → n ≤ length xs → length (reverse (drop (length xs - n) xs)) ≡ n
count_of_last xs n h = length-reverse (drop (length xs - n) xs) ∙ length-drop (length xs - n) xs ∙ omega (arith, h)

-- what is left below the last ones
pub below_last : {X : Type 0} → (xs : List X) (n : ℕ) → n ≤ length xs
    → reverse (take (length xs - n) xs) ≡ drop n (reverse xs)
below_last xs n h =
    let k = length xs - n in
    sym (ap (drop n) (turned xs k)
    ∙ ap (λ m. drop m (reverse (drop k xs) ++ reverse (take k xs))) (sym (count_of_last xs n h))
    ∙ drop-append_seam (reverse (drop k xs)) (reverse (take k xs)))

-- the last ones, in order
pub last_of : {X : Type 0} → (xs : List X) (n : ℕ) → n ≤ length xs
    → drop (length xs - n) xs ≡ reverse (take n (reverse xs))
last_of xs n h =
    let k = length xs - n in
    sym (ap (λ ys. reverse (take n ys)) (turned xs k)
    ∙ ap (λ m. reverse (take m (reverse (drop k xs) ++ reverse (take k xs)))) (sym (count_of_last xs n h))
    ∙ ap reverse (take-append_seam (reverse (drop k xs)) (reverse (take k xs)))
    ∙ reverse-reverse (drop k xs))

-- what contracts see of values turned round
map_reverse : {X Y : Type 0} → (f : X → Y) (xs : List X) → map f (reverse xs) ≡ reverse (map f xs)
map_reverse f [] = refl
map_reverse f (x ∷ xs) =
    ap (map f) (reverse-append (x ∷ []) xs) ∙ map-append f (reverse xs) (x ∷ [])
    ∙ ap (λ ys. ys ++ f x ∷ []) (map_reverse f xs) ∙ sym (reverse-append (f x ∷ []) (map f xs))

-- values that are turned round twice
pub keys_back : (vs : List Value) → reverse (map seen (reverse vs)) ≡ map seen vs
keys_back vs = ap reverse (map_reverse seen vs) ∙ reverse-reverse (map seen vs)

-- the slots of a list are all defined where each of them is
pub all_told : (xs : List Slot) → list_all is_some xs ≡ is_some (all_defined xs)
all_told [] = refl
all_told (None ∷ xs) = refl
all_told (Some d ∷ xs) = all_told xs ∙ sym (mapped (all_defined xs))
  where
    mapped : (o : _) → is_some (option_map (λ ds. d ∷ ds) o) ≡ is_some o
    mapped None = refl
    mapped (Some ds) = refl

-- where all slots are defined, their values are those that are defined
pub are_all : (xs : List Slot) → list_all is_some xs ≡ true → all_defined xs ≡ Some (defined_of xs)
are_all [] e = refl
are_all (None ∷ xs) e = absurd (cc)
are_all (Some d ∷ xs) e = ap (λ o. option_map (λ ds. d ∷ ds) o) (are_all xs e)

-- where one isn't, there are none
pub are_not_all : (xs : List Slot) → list_all is_some xs ≡ false → all_defined xs ≡ None
are_not_all [] e = absurd (cc)
are_not_all (None ∷ xs) e = refl
are_not_all (Some d ∷ xs) e = ap (λ o. option_map (λ ds. d ∷ ds) o) (are_not_all xs e)

-- one value more
pub one_more_defined : (xs : List Slot) (d : Datum) → defined_of (xs ++ Some d ∷ []) ≡ defined_of xs ++ d ∷ []
one_more_defined [] d = refl
one_more_defined (None ∷ xs) d = one_more_defined xs d
one_more_defined (Some e ∷ xs) d = ap (λ ds. e ∷ ds) (one_more_defined xs d)

-- an undefined slot more
pub no_more_defined : (xs : List Slot) → defined_of (xs ++ None ∷ []) ≡ defined_of xs
no_more_defined [] = refl
no_more_defined (None ∷ xs) = no_more_defined xs
no_more_defined (Some e ∷ xs) = ap (λ ds. e ∷ ds) (no_more_defined xs)

-- a list and its last item, which is at this place
pub split_last : {X : Type 0} → (xs : List X) (k : ℕ) (d : X) → suc k ≡ length xs → xs ≡ take k xs ++ get_or xs k d ∷ []
split_last [] k d e = absurd (omega (arith, e))
split_last (x ∷ []) zero d e = refl
split_last (x ∷ []) (suc k) d e = absurd (omega (arith, e))
split_last (x ∷ y ∷ xs) zero d e = absurd (omega (arith, e))
split_last (x ∷ y ∷ xs) (suc k) d e = ap (λ l. x ∷ l) (split_last (y ∷ xs) k d (omega (arith, e)))

-- another last item
pub set_last : {X : Type 0} → (xs : List X) (k : ℕ) (y : X) → suc k ≡ length xs → set xs k y ≡ take k xs ++ y ∷ []
set_last [] k y e = absurd (omega (arith, e))
set_last (x ∷ []) zero y e = refl
set_last (x ∷ []) (suc k) y e = absurd (omega (arith, e))
set_last (x ∷ z ∷ xs) zero y e = absurd (omega (arith, e))
set_last (x ∷ z ∷ xs) (suc k) y e = ap (λ l. x ∷ l) (set_last (z ∷ xs) k y (omega (arith, e)))

-- the items from a place on are moved behind others, one after the other; those that are left are the same in both
-- lists
module _ {X : Type 0} (first xs ys : List X) (from i : ℕ) (same : drop (from + i) ys ≡ drop (from + i) xs) where
  -- one more is moved
  pub one_moved : (x : X) → from + i < length xs → x ≡ get_or ys (from + i) x
      → first ++ take (i + 1) (drop from xs) ≡ (first ++ take i (drop from xs)) ++ x ∷ []
  one_moved x within is =
      let there : i < length (drop from xs) = omega (arith, within, length-drop from xs) in
      let none : (from + i) + 0 ≡ from + i = omega arith in
      let more : i + 1 ≡ suc i = omega arith in
      let at : (l : List X) → get_or (drop (from + i) l) 0 x ≡ get_or l (from + i) x =
      λ l. get_or-drop (from + i) l 0 x ∙ ap (λ n. get_or l n x) none in
      let read : get_or (drop from xs) i x ≡ x =
      get_or-drop from xs i x ∙ sym (at xs) ∙ sym (ap (λ l. get_or l 0 x) same) ∙ at ys ∙ sym is in
      ap (λ n. first ++ take n (drop from xs)) more
      ∙ ap (λ l. first ++ l) (take-suc (drop from xs) i x there ∙ ap (λ z. take i (drop from xs) ++ z ∷ []) read)
      ∙ sym (append_assoc first (take i (drop from xs)) (x ∷ []))

  -- and the others are still the same
  pub others_stay : (y : X) → drop (from + (i + 1)) (set ys (from + i) y) ≡ drop (from + (i + 1)) xs
  others_stay y =
      let more : (from + i) + 1 ≡ from + (i + 1) = omega arith in
      drop-set-lt (from + (i + 1)) ys (from + i) y (omega arith)
      ∙ sym (ap (λ n. drop n ys) more) ∙ sym (drop-drop 1 (from + i) ys) ∙ ap (drop 1) same
      ∙ drop-drop 1 (from + i) xs ∙ ap (λ n. drop n xs) more

-- the next of the keys
pub key_next : (vs : List Value) (v : Value) → reverse (map seen (vs ++ v ∷ [])) ≡ seen v ∷ reverse (map seen vs)
key_next vs v = ap reverse (map-append seen vs (v ∷ [])) ∙ reverse-append (map seen vs) (seen v ∷ [])

-- another topmost item
pub top_set : {X : Type 0} → (xs : List X) (y : X) → 0 < length xs
    → reverse (set xs (length xs - 1) y) ≡ y ∷ drop 1 (reverse xs)
top_set xs y h =
    let k = length xs - 1 in
    ap reverse (set_last xs k y (omega (arith, h))) ∙ reverse-append (take k xs) (y ∷ [])
    ∙ ap (λ l. y ∷ l) (below_last xs 1 h)

-- another third item from the top, below two that are taken off
pub third_set : {X : Type 0} → (xs : List X) (y : X) → 2 < length xs
    → drop 2 (reverse (set xs (length xs - 3) y)) ≡ y ∷ drop 3 (reverse xs)
third_set xs y h =
    let k = length xs - 3 in
    let ys = set xs k y in
    let long = length-set xs k y in
    sym (below_last ys 2 (omega (arith, long, h))) ∙ ap (λ n. reverse (take n ys)) (omega (arith, long, h))
    ∙ ap reverse (take_more_set xs k y (omega (arith, h))) ∙ reverse-append (take k xs) (y ∷ [])
    ∙ ap (λ l. y ∷ l) (below_last xs 3 (omega (arith, h)))

pub third_is : {X : Type 0} → (xs : List X) (d : X) → 2 < length xs
    → drop 2 (reverse xs) ≡ get_or xs (length xs - 3) d ∷ drop 3 (reverse xs)
third_is xs d h =
    let third = get_or xs (length xs - 3) d in
    ap (λ ys. drop 2 (reverse ys)) (sym (set-get_or xs (length xs - 3) d)) ∙ third_set xs third h

-- the values of a list that is turned round
defined_back : (xs : List Slot) → defined_of (reverse xs) ≡ reverse (defined_of xs)
defined_back [] = refl
defined_back (None ∷ xs) =
    ap defined_of (reverse-append (None ∷ []) xs) ∙ no_more_defined (reverse xs) ∙ defined_back xs
defined_back (Some d ∷ xs) =
    ap defined_of (reverse-append (Some d ∷ []) xs) ∙ one_more_defined (reverse xs) d
    ∙ ap (λ ds. ds ++ d ∷ []) (defined_back xs) ∙ sym (reverse-append (d ∷ []) (defined_of xs))

-- where all of the topmost operands are defined, their values, taken off one after the other, are turned round
pub all_popped : (vs : List Value) (xs : List Slot) (n : ℕ) → is_some (all_defined (popped n xs)) ≡ true
    → map seen vs ≡ defined_of (take n xs) → Some (map seen (reverse vs)) ≡ all_defined (popped n xs)
all_popped vs xs n all is =
    ap Some (map_reverse seen vs ∙ ap reverse is ∙ sym (defined_back (take n xs)))
    ∙ sym (are_all (popped n xs) (all_told (popped n xs) ∙ all))

-- where one isn't, there are none
pub not_all_popped : (xs : List Slot) → is_some (all_defined xs) ≡ false → None ≡ all_defined xs
not_all_popped xs e = sym (are_not_all xs (all_told xs ∙ e))

-- the item after so many is taken off
pub one_off : {X : Type 0} → (xs : List X) (k : ℕ) (x : X) (ys : List X) → drop k xs ≡ x ∷ ys
    → (drop (k + 1) xs ≡ ys) × (take (k + 1) xs ≡ take k xs ++ x ∷ [])
one_off [] zero x ys e = absurd (cc)
one_off [] (suc k) x ys e = absurd (cc)
one_off (y ∷ xs) zero x ys e = (ap (drop 1) e, ap (λ l. get_or l 0 x ∷ []) e)
one_off (y ∷ xs) (suc k) x ys e =
    let rest = one_off xs k x ys e in
    let later : suc k + 1 ≡ suc (k + 1) = omega arith in
    (ap (λ n. drop n (y ∷ xs)) later ∙ rest.0, ap (λ n. take n (y ∷ xs)) later ∙ ap (λ l. y ∷ l) rest.1)

module _ (vs : List Value) (xs : List Slot) (k : ℕ) (ys : List Slot) (is : map seen vs ≡ defined_of (take k xs)) where
  -- it is defined
  pub value_off : (v : Value) → drop k xs ≡ Some (seen v) ∷ ys → map seen (vs ++ v ∷ []) ≡ defined_of (take (k + 1) xs)
  value_off v e =
      map-append seen vs (v ∷ []) ∙ ap (λ ds. ds ++ seen v ∷ []) is ∙ sym (one_more_defined (take k xs) (seen v))
      ∙ sym (ap defined_of (one_off xs k (Some (seen v)) ys e).1)

  -- or it isn't
  pub none_off : drop k xs ≡ None ∷ ys → map seen vs ≡ defined_of (take (k + 1) xs)
  none_off e = is ∙ sym (no_more_defined (take k xs)) ∙ sym (ap defined_of (one_off xs k None ys e).1)
