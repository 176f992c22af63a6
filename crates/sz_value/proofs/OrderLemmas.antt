-- How lists compare from a place on, where all before it is equal.
use Rattle.std.proofs.Common.{◌≡◌, ◌↔◌, IsTrue, true, false, true≢false, ℕ, ◌+◌, ◌-◌, ◌≤◌, ◌<◌, List, [], ◌∷◌, length, drop, map, slice_get, Some, refl, sym, ap, ◌∙◌, arith}
use Rattle.std.specs.Prelude.{min}
use mathlib.Core.Bool.{false≢true}
use Rattle.std.specs.Ordering.{nat_cmp, is_eq, is_ne, ordering_then}
use Rattle.std.specs.declared.cmp.Ordering.{Ordering}
use Rattle.std.specs.declared.cmp.Ordering.TheVariants.{Less, Equal, Greater}
use Rattle.std.proofs.lemmas.Cmp.{ranked}
use Rattle.std.proofs.lemmas.List.{length-drop}
use Rattle.std.specs.Cmp.{nat_cmp_is}
use Rattle.sz_value.specs.Data.{Datum, data_of, entries_of}
use Rattle.sz_value.specs.Order.{compare, compare_data, compare_entries, compare_pairs}
use Rattle.sz_value.specs.Total.{compare_ties, compare_itself}
use Rattle.sz_value.specs.Seen.{seen}
use Rattle.sz_value.specs.declared.value.Value.{Value}
use Rattle.sz_value.proofs.PartLemmas.{then_assoc}
use Rattle.sz_value.proofs.PlaceLemmas.{drop_at}

-- how the plain data of two lists of values compare
abbrev pub list_order : List Value → List Value → Ordering
list_order vs ws = compare_data (data_of (map seen vs)) (data_of (map seen ws))

-- how two lists of pairs compare
abbrev pub pairs_order : List (Datum × Datum) → List (Datum × Datum) → Ordering
pairs_order ps qs = compare_entries (entries_of ps) (entries_of qs)

-- two numbers compare as they do where each is less by the same number
shifted : (n m i : ℕ) (r : Ordering) → r ≡ nat_cmp n m → i ≤ n → i ≤ m → nat_cmp (n - i) (m - i) ≡ r
shifted n m i Less is low high = sym (nat_cmp_is (n - i) (m - i) Less (let rank = ranked n m Less is in omega arith))
shifted n m i Equal is low high = sym (nat_cmp_is (n - i) (m - i) Equal (let rank = ranked n m Equal is in omega arith))
shifted n m i Greater is low high =
    sym (nat_cmp_is (n - i) (m - i) Greater (let rank = ranked n m Greater is in omega arith))

-- an order of lists in which a front comes first
module _ {X : Type 0} (order : List X → List X → Ordering)
    (both : order [] [] ≡ Equal) (front : (y : X) (ys : List X) → order [] (y ∷ ys) ≡ Less)
    (back : (x : X) (xs : List X) → order (x ∷ xs) [] ≡ Greater) where
  by_length : (xs ys : List X) → (0 < length xs → 0 < length ys → ⊥) → order xs ys ≡ nat_cmp (length xs) (length ys)
  by_length [] [] one_is_done = both
  by_length [] (y ∷ ys) one_is_done = front y ys ∙ nat_cmp_is 0 (length (y ∷ ys)) Less (omega arith)
  by_length (x ∷ xs) [] one_is_done = back x xs ∙ nat_cmp_is (length (x ∷ xs)) 0 Greater (omega arith)
  by_length (x ∷ xs) (y ∷ ys) one_is_done = absurd (one_is_done (omega arith) (omega arith))

  -- after the shorter of two lists the lengths decide
  ends : (xs ys : List X) (i : ℕ) → i ≡ min (length xs) (length ys)
      → order (drop i xs) (drop i ys) ≡ nat_cmp (length xs) (length ys)
  ends xs ys i is =
      let left = length-drop i xs in
      let right = length-drop i ys in
      by_length (drop i xs) (drop i ys) (λ more others. omega arith)
      ∙ (λ t. nat_cmp (left t) (right t))
      ∙ shifted (length xs) (length ys) i (nat_cmp (length xs) (length ys)) refl (omega arith) (omega arith)

-- after the shorter of two lists of values the lengths decide
pub list_end : (vs ws : List Value) (i : ℕ) → i ≡ min (length vs) (length ws)
    → list_order (drop i vs) (drop i ws) ≡ nat_cmp (length vs) (length ws)
list_end = ends list_order refl (λ w ws. refl) (λ v vs. refl)

-- after the shorter of two lists of pairs the lengths decide
pub pairs_end : (ps qs : List (Datum × Datum)) (i : ℕ) → i ≡ min (length ps) (length qs)
    → pairs_order (drop i ps) (drop i qs) ≡ nat_cmp (length ps) (length qs)
pairs_end = ends pairs_order refl (λ q qs. refl) (λ p ps. refl)

-- two lists of pairs compare by the pairs at a place, and where those are equal by what is after it
pub pairs_next : (ps qs : List (Datum × Datum)) (i : ℕ) (p q : Datum × Datum) → slice_get ps i ≡ Some p
    → slice_get qs i ≡ Some q → pairs_order (drop i ps) (drop i qs)
    ≡ ordering_then (compare_pairs p q) (pairs_order (drop (i + 1) ps) (drop (i + 1) qs))
pairs_next ps qs i p q here there =
    (λ t. pairs_order (drop_at ps i p here t) (drop_at qs i q there t))
    ∙ then_assoc (compare p.0 q.0) (compare p.1 q.1) (pairs_order (drop (i + 1) ps) (drop (i + 1) qs))

-- of two comparisons, one after the other, the first decides where it finds a difference
pub then_told : (found first rest whole : Ordering) → found ≡ first → ordering_then first rest ≡ whole
    → is_ne found ≡ true → found ≡ whole
then_told found Less rest whole is all differs = is ∙ all
then_told found Equal rest whole is all differs = absurd (false≢true (sym (ap is_ne is) ∙ differs))
then_told found Greater rest whole is all differs = is ∙ all

-- and the second where it finds none
pub then_left : (found first rest whole : Ordering) → found ≡ first → ordering_then first rest ≡ whole
    → is_ne found ≡ false → rest ≡ whole
then_left found Less rest whole is all same = absurd (false≢true (sym same ∙ ap is_ne is))
then_left found Equal rest whole is all same = all
then_left found Greater rest whole is all same = absurd (false≢true (sym same ∙ ap is_ne is))

-- a comparison finds the two equal exactly where they are the same
pub equal_means_same : (d e : Datum) (found : Ordering) → found ≡ compare d e → IsTrue (is_eq found) ↔ (d ≡ e)
equal_means_same d e Less is =
    (λ claim. absurd (true≢false (sym claim)), λ same. ap is_eq (is ∙ compare_itself d e same))
equal_means_same d e Equal is = (λ claim. compare_ties d e (sym is), λ same. refl)
equal_means_same d e Greater is =
    (λ claim. absurd (true≢false (sym claim)), λ same. ap is_eq (is ∙ compare_itself d e same))
