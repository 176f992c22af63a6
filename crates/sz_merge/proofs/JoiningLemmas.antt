-- Any number of states joined, two at a time, in whatever order.
use Rattle.std.proofs.Common.{◌≡◌, ◌∙◌, ℕ, ◌+◌, Option, Some, None, List, [], ◌∷◌, ◌++◌, map, IsPermutation, refl, sym, ap, arith}
use Rattle.std.specs.List.{AllByRecursion}
use Rattle.std.proofs.lemmas.List.{map-append}
use Rattle.std.proofs.lemmas.List.Sorted.{IsPermutation-map}
use Rattle.sz_types.specs.Tables.{Declaration}
use Rattle.sz_value.specs.Data.{Datum}
use Rattle.sz_tabs.specs.Data.{RowDatum}
use Rattle.sz_tabs.proofs.ForCallers.{in_any_order}
use Rattle.sz_save_format.specs.Saved.{SavedState, CanBeSaved, saved_bytes}
use Rattle.sz_merge.specs.JoiningLaws.{Joining, given, joined, state_of, given_in, IsJoining, ForgetsOrder, HasOneSpelling}
use Rattle.sz_merge.proofs.UniqueLemmas.{all_at}
use Rattle.sz_merge.proofs.StateLemmas.{all_joined, AllOrdered, all_either, all_grouped, joined_ordered, state_ordered, same_states, joined_at}

module _ {X : Type 0} (P : X → Type 0) where
  all_both : (xs ys : List X) → AllByRecursion P xs → AllByRecursion P ys → AllByRecursion P (xs ++ ys)
  all_both [] ys g h = h
  all_both (x ∷ xs) ys g h = (g.0, all_both xs ys g.1 h)

  all_front : (xs ys : List X) → AllByRecursion P (xs ++ ys) → AllByRecursion P xs
  all_front [] ys h = tt
  all_front (x ∷ xs) ys h = (h.0, all_front xs ys h.1)

  all_moved : (xs ys : List X) → IsPermutation xs ys → AllByRecursion P xs → AllByRecursion P ys
  all_moved =
      in_any_order (λ xs ys. AllByRecursion P xs → AllByRecursion P ys) (λ xs h. h)
      (λ x xs ys alike h. (h.0, alike h.1))
      (λ x y xs h. (h.1.0, (h.0, h.1.1))) (λ xs ys zs first second h. second (first h))

-- the bounds added
abbrev bound_of : List SavedState → ℕ
bound_of [] = 0
bound_of (s ∷ ss) = s.bound + bound_of ss

bound_of_both : (ss ts : List SavedState) → bound_of (ss ++ ts) ≡ bound_of ss + bound_of ts
bound_of_both [] ts = omega arith
bound_of_both (s ∷ ss) ts = omega (arith, bound_of_both ss ts)

bound_moved : (ss ts : List SavedState) → IsPermutation ss ts → bound_of ss ≡ bound_of ts
bound_moved =
    in_any_order (λ ss ts. bound_of ss ≡ bound_of ts) (λ ss. refl) (λ s ss ts alike. ap (λ n. s.bound + n) alike)
    (λ s t ss. omega arith) (λ ss ts us first second. first ∙ second)

-- the tables' rows of any number of sides, joined from the right
module _ (ds : List Declaration) where
  abbrev Side : Type 0
  Side = List (List RowDatum)

  abbrev before : Side → Option Side → Side
  before x None = x
  before x (Some y) = all_joined ds x y

  abbrev all_of : List Side → Option Side
  all_of [] = None
  all_of (x ∷ xs) = Some (before x (all_of xs))

  abbrev both_of : Option Side → Option Side → Option Side
  both_of None y = y
  both_of (Some x) None = Some x
  both_of (Some x) (Some y) = Some (all_joined ds x y)

  abbrev MayBeOrdered : Option Side → Type 0
  MayBeOrdered None = Unit {0}
  MayBeOrdered (Some x) = AllOrdered ds x

  before_ordered : (x : Side) (more : Option Side) → AllOrdered ds x → MayBeOrdered more → AllOrdered ds (before x more)
  before_ordered x None g h = g
  before_ordered x (Some y) g h = joined_ordered ds x y g h

  all_of_ordered : (xs : List Side) → AllByRecursion (AllOrdered ds) xs → MayBeOrdered (all_of xs)
  all_of_ordered [] h = tt
  all_of_ordered (x ∷ xs) h = before_ordered x (all_of xs) h.0 (all_of_ordered xs h.1)

  before_both : (x : Side) (y z : Option Side) → AllOrdered ds x → MayBeOrdered y → MayBeOrdered z
      → Some (before x (both_of y z)) ≡ both_of (Some (before x y)) z
  before_both x None None f g h = refl
  before_both x None (Some z) f g h = refl
  before_both x (Some y) None f g h = refl
  before_both x (Some y) (Some z) f g h = ap Some (sym (all_grouped ds x y z f g h))

  all_of_both : (xs ys : List Side) → AllByRecursion (AllOrdered ds) xs → AllByRecursion (AllOrdered ds) ys
      → all_of (xs ++ ys) ≡ both_of (all_of xs) (all_of ys)
  all_of_both [] ys g h = refl
  all_of_both (x ∷ xs) ys g h =
      ap (λ more. Some (before x more)) (all_of_both xs ys g.1 h)
      ∙ before_both x (all_of xs) (all_of ys) g.0 (all_of_ordered xs g.1) (all_of_ordered ys h)

  in_turn : (x y : Side) (more : Option Side) → AllOrdered ds x → AllOrdered ds y → MayBeOrdered more
      → before x (Some (before y more)) ≡ before y (Some (before x more))
  in_turn x y None f g h = all_either ds x y f g
  in_turn x y (Some z) f g h =
      sym (all_grouped ds x y z f g h) ∙ ap (λ l. all_joined ds l z) (all_either ds x y f g)
      ∙ all_grouped ds y x z g f h

  all_of_moved : (xs ys : List Side) → IsPermutation xs ys → AllByRecursion (AllOrdered ds) xs
      → AllByRecursion (AllOrdered ds) ys × (all_of xs ≡ all_of ys)
  all_of_moved =
      in_any_order (λ xs ys. AllByRecursion (AllOrdered ds) xs
      → AllByRecursion (AllOrdered ds) ys × (all_of xs ≡ all_of ys)) (λ xs h. (h, refl))
      (λ x xs ys alike h. let more = alike h.1 in ((h.0, more.0), ap (λ later. Some (before x later)) more.1))
      (λ x y xs h. ((h.1.0, (h.0, h.1.1)), ap Some (in_turn x y (all_of xs) h.0 h.1.0 (all_of_ordered xs h.1.1))))
      (λ xs ys zs first second h. let one = first h in let other = second one.0 in (other.0, one.1 ∙ other.1))

  -- a state with these declarations that can be saved
  record IsSide (s : SavedState) : Type 0 where
    decls : s.decls ≡ ds
    can : CanBeSaved s

  -- its rows under an index list
  abbrev side_of : List Datum → SavedState → Side
  side_of indexes s = all_at indexes s.tables

  sides_ordered : (indexes : List Datum) (ss : List SavedState) → AllByRecursion IsSide ss
      → AllByRecursion (AllOrdered ds) (map (side_of indexes) ss)
  sides_ordered indexes [] h = tt
  sides_ordered indexes (s ∷ ss) h = (state_ordered ds s h.0.decls h.0.can indexes, sides_ordered indexes ss h.1)

  -- what is left of a joining, by what is given
  record IsLeft (j : Joining) : Type 0 where
    is : IsSide (state_of j)
    each : AllByRecursion IsSide (given_in j)
    bound : (state_of j).bound ≡ bound_of (given_in j)
    rows : (indexes : List Datum) → all_of (map (side_of indexes) (given_in j)) ≡ Some (side_of indexes (state_of j))

  left : (j : Joining) → IsJoining j → (state_of j).decls ≡ ds → IsLeft j
  left (given s) h is = record {
    is = record { decls = is; can = h };
    each = (record { decls = is; can = h }, tt);
    bound = omega arith;
    rows = λ indexes. refl;
  }
  left (joined f b s) h is =
      let gives = h.2 in
      let f_decls = sym gives.joins.decls ∙ is in
      let front = left f h.0 f_decls in
      let back = left b h.1 (gives.joins.same ∙ f_decls) in
      record {
        is = record { decls = is; can = gives.can };
        each = all_both IsSide (given_in f) (given_in b) front.each back.each;
        bound = let both = bound_of_both (given_in f) (given_in b) in
            omega (arith, both, gives.joins.bound, front.bound, back.bound);
        rows = λ indexes.
            ap all_of (map-append (side_of indexes) (given_in f) (given_in b))
            ∙ all_of_both (map (side_of indexes) (given_in f)) (map (side_of indexes) (given_in b))
            (sides_ordered indexes (given_in f) front.each) (sides_ordered indexes (given_in b) back.each)
            ∙ (λ i. both_of (front.rows indexes i) (back.rows indexes i))
            ∙ ap Some (sym (joined_at ds (state_of f) (state_of b) s indexes f_decls gives.joins));
      }

  -- the declarations of what is left are those of what is given
  left_decls : (j : Joining) → IsJoining j → AllByRecursion IsSide (given_in j) → (state_of j).decls ≡ ds
  left_decls (given s) h each = each.0.decls
  left_decls (joined f b s) h each =
      h.2.joins.decls ∙ left_decls f h.0 (all_front IsSide (given_in f) (given_in b) each)

same_side : {X : Type 0} (x y : X) → Some x ≡ Some y → x ≡ y
same_side x y h = cc

pub any_order : ForgetsOrder
any_order first second g h moved =
    let ds = (state_of first).decls in
    let one = left ds first g refl in
    let decls = left_decls ds second h (all_moved (IsSide ds) (given_in first) (given_in second) moved one.each) in
    let other = left ds second h decls in
    same_states ds (state_of first) (state_of second) refl decls one.is.can other.is.can
    (one.bound ∙ bound_moved (given_in first) (given_in second) moved ∙ sym other.bound) (λ indexes.
    same_side (side_of ds indexes (state_of first)) (side_of ds indexes (state_of second))
    (sym (one.rows indexes)
    ∙ (all_of_moved ds (map (side_of ds indexes) (given_in first)) (map (side_of ds indexes) (given_in second))
    (IsPermutation-map (side_of ds indexes) (given_in first) (given_in second) moved)
    (sides_ordered ds indexes (given_in first) one.each)).1 ∙ other.rows indexes))

pub same_bytes : HasOneSpelling
same_bytes first second bytes others g h moved one other =
    one.is ∙ ap saved_bytes (any_order first second g h moved) ∙ sym other.is
