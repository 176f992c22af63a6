-- The first index list of both sides, taken.
use Rattle.std.proofs.Common.{◌≡◌, ◌∙◌, ℕ, zero, suc, ◌+◌, ◌<◌, ◌≤◌, Some, List, [], ◌∷◌, length, drop, slice_get, refl, sym, ap, subst, arith, Less, Equal, Greater}
use Rattle.sz_types.specs.declared.table.TableKind.{TableKind}
use Rattle.sz_tabs.specs.Rows.{compare_indexes}
use Rattle.sz_total.specs.Tables.{Indexed}
use Rattle.sz_save.specs.declared.entries.First.TheVariants.{Neither, One, Other, Both}
use Rattle.sz_save.specs.Walk.{joined_entry, alone, other_alone, joined_entries, compare_firsts, RowsCanJoin, CanJoin, HasCountedRows, Steps}
use Rattle.sz_save.specs.Taken.{Takes}
use Rattle.sz_save.proofs.WalkLemmas.{alone_can, other_can, both_can, steps_other, steps_alone, steps_less, steps_equal, steps_greater}

-- ---- how the first index lists compare

-- ---- what was taken is a step of the walk

module _ (kind : TableKind) (limit : ℕ) (entries others after left : List Indexed) where
  pub one_can : (e : Indexed) → Takes (One e) entries others after left → CanJoin kind entries others
      → RowsCanJoin kind e.rows []
  one_can e takes can = alone_can kind entries others e after takes.0 can

  pub other_one_can : (o : Indexed) → Takes (Other o) entries others after left → CanJoin kind entries others
      → RowsCanJoin kind [] o.rows
  other_one_can o takes can = other_can kind entries others o left takes.0 can

  pub two_can : (e o : Indexed) → Takes (Both e o) entries others after left → CanJoin kind entries others
      → RowsCanJoin kind e.rows o.rows
  two_can e o takes can = both_can kind entries others e after o left takes.0 takes.1 can

  pub taken_none : Takes Neither entries others after left → joined_entries kind limit entries others ≡ []
  unfolding joined_entries
  taken_none takes = λ i. joined_entries kind limit (takes.0 i) (takes.1 i)

  pub taken_one : (e joined : Indexed) → Takes (One e) entries others after left → joined ≡ alone kind limit e
      → CanJoin kind entries others → HasCountedRows joined → Steps kind limit entries others joined after left
  taken_one e joined takes is can few =
      subst (Steps kind limit entries others joined after) (sym takes.1) (by_others others refl)
    where
      by_others : (os : List Indexed) → others ≡ os → Steps kind limit entries others joined after others
      by_others [] none = steps_alone kind limit entries others e after joined takes.0 none is can few
      by_others (o ∷ os) split =
          let found : Some (compare_indexes e.indexes o.indexes) ≡ Some Less =
          (λ i. compare_firsts (sym takes.0 i) (sym split i)) ∙ takes.2 in
          let less : compare_indexes e.indexes o.indexes ≡ Less = cc in
          steps_less kind limit entries others e after o os joined takes.0 split can few less is

  pub taken_other : (o joined : Indexed) → Takes (Other o) entries others after left
      → joined ≡ other_alone kind limit o → CanJoin kind entries others
      → HasCountedRows joined → Steps kind limit entries others joined after left
  taken_other o joined takes is can few =
      subst (λ l. Steps kind limit entries others joined l left) (sym takes.1) (by_entries entries refl)
    where
      by_entries : (es : List Indexed) → entries ≡ es → Steps kind limit entries others joined entries left
      by_entries [] none = steps_other kind limit entries others o left joined none takes.0 is can few
      by_entries (e ∷ es) split =
          let found : Some (compare_indexes e.indexes o.indexes) ≡ Some Greater =
          (λ i. compare_firsts (sym split i) (sym takes.0 i)) ∙ takes.2 in
          let greater : compare_indexes e.indexes o.indexes ≡ Greater = cc in
          steps_greater kind limit entries others e es o left joined split takes.0 can few greater is

  pub taken_both : (e o joined : Indexed) → Takes (Both e o) entries others after left
      → joined ≡ joined_entry kind limit e.indexes e.rows o.rows
      → CanJoin kind entries others → HasCountedRows joined → Steps kind limit entries others joined after left
  taken_both e o joined takes is can few =
      let found : Some (compare_indexes e.indexes o.indexes) ≡ Some Equal =
      (λ i. compare_firsts (sym takes.0 i) (sym takes.1 i)) ∙ takes.2 in
      let equal : compare_indexes e.indexes o.indexes ≡ Equal = cc in
      steps_equal kind limit entries others e after o left joined takes.0 takes.1 can few equal is

-- ---- what was taken of a list, and what is left of it

pub taken_at : {X : Type 0} (xs rest left : List X) (i : ℕ) (x : X) → rest ≡ drop i xs → rest ≡ x ∷ left
    → (slice_get xs i ≡ Some x) × (left ≡ drop (i + 1) xs)
taken_at {X = X} xs rest left i x are split = at xs i (sym are ∙ split)
  where
    at : (ys : List X) (k : ℕ) → drop k ys ≡ x ∷ left → (slice_get ys k ≡ Some x) × (left ≡ drop (k + 1) ys)
    at [] zero is = absurd (cc)
    at [] (suc k) is = absurd (cc)
    at (y ∷ ys) zero is = (cc, cc)
    at (y ∷ ys) (suc k) is =
        let next : suc k + 1 ≡ suc (k + 1) = omega arith in
        let later = at ys k is in
        (later.0, later.1 ∙ sym (ap (λ n. drop n (y ∷ ys)) next))

pub some_left : {X : Type 0} (xs rest : List X) (i : ℕ) → rest ≡ drop i xs → i < length xs → 1 ≤ length rest
some_left {X = X} xs rest i are less = subst (λ l. 1 ≤ length l) (sym are) (at xs i less)
  where
    at : (ys : List X) (k : ℕ) → k < length ys → 1 ≤ length (drop k ys)
    at [] k few = absurd (omega (arith, few))
    at (y ∷ ys) zero few = omega arith
    at (y ∷ ys) (suc k) few = at ys k (omega (arith, few))
