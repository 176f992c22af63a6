-- What the ghost members of a list that is kept flat rest on: bytes spell one list of values at most, and lists with
-- the same values are one.
use Rattle.std.specs.Cmp.{IsPartialEquivalence, IsEquivalence, eq_by_cmp_equiv, partial_equiv_from_equiv, Equal-is}
use Rattle.std.specs.Cmp.Lexicographic.{slice_cmp, lists_total}
use Rattle.std.specs.Coded.{Coded-set}
use Rattle.std.specs.Ordering.{ordering_then, is_eq}
use Rattle.std.specs.declared.cmp.Ordering.{Ordering}
use Rattle.std.specs.declared.cmp.Ordering.TheVariants.{Less, Equal, Greater}
use Rattle.std.proofs.Common.{◌≡◌, ◌∙◌, ℕ, ◌≤◌, List, [], ◌∷◌, length, refl, ap, true≢false, sym, arith, length-append, IsTrue}
use Rattle.std.proofs.Math.Logic.{∥∥₁_elim, ∥∥₁_prop}
use mathlib.Core.HLevel.{Σ_prop_path}
use Rattle.sz_value.specs.Code.{parts_code}
use Rattle.sz_value.specs.Data.{Datum, truth, int, time, str, bytes, array, tuple, mapping, Data, no_data, datum, data_of, parts_of}
use Rattle.sz_value.specs.Order.{compare}
use Rattle.sz_value.specs.Total.{compare_total, compare_ties}
use Rattle.sz_flat.specs.Lists.{SpellsAll, Spelled, same_values, list_writes}
use Rattle.sz_flat.specs.OneSpelling.{one_spelling}
use Rattle.sz_flat.specs.Spelling.{spelling, spelled_parts, HaveSpellings}

-- a spelling has its byte of the kind
pub some_bytes : (d : Datum) → 1 ≤ length (spelling d)
some_bytes (truth b) = omega arith
some_bytes (int n) = omega arith
some_bytes (time n) = omega arith
some_bytes (str s) = omega arith
some_bytes (bytes s) = omega arith
some_bytes (array ds) = omega arith
some_bytes (tuple ds) = omega arith
some_bytes (mapping es) = omega arith

same_fronts : (ds es : Data) → HaveSpellings ds → HaveSpellings es → spelled_parts ds ≡ spelled_parts es → ds ≡ es
same_fronts no_data no_data h k e = refl
same_fronts no_data (datum f fs) h k e =
    absurd (let long = ap length e in let some = some_bytes f in
    omega (arith, long, some, length-append (spelling f) (spelled_parts fs)))
same_fronts (datum d ds) no_data h k e =
    absurd (let long = ap length e in let some = some_bytes d in
    omega (arith, long, some, length-append (spelling d) (spelled_parts ds)))
same_fronts (datum d ds) (datum f fs) h k e =
    let front = one_spelling d f (spelled_parts ds) (spelled_parts fs) h.0 k.0 e in
    let later = same_fronts ds fs h.1 k.1 front.1 in
    λ i. datum (front.0 i) (later i)

listed_again : (ds : List Datum) → parts_of (data_of ds) ≡ ds
listed_again [] = refl
listed_again (d ∷ ds) = ap (λ l. d ∷ l) (listed_again ds)

-- the values of two lists that the same bytes spell are the same
pub one_list : (flat : List ℕ) (xs ys : List Datum) → SpellsAll flat xs → SpellsAll flat ys → xs ≡ ys
one_list flat xs ys h k =
    sym (listed_again xs) ∙ ap parts_of (same_fronts (data_of xs) (data_of ys) h.spelled k.spelled (sym h.is ∙ k.is))
    ∙ listed_again ys

-- bytes spell one list of values at most
pub spelled_prop : (flat : List ℕ) → IsProp (Spelled flat)
spelled_prop flat = λ u v.
    Σ_prop_path (λ values. ∥∥₁_prop)
    (∥∥₁_elim u.1 (Coded-set parts_code u.0 v.0)
    (λ h. ∥∥₁_elim v.1 (Coded-set parts_code u.0 v.0) (λ k. one_list flat u.0 v.0 h k)))

both_equal : (a b : Ordering) → ordering_then a b ≡ Equal → (a ≡ Equal) × (b ≡ Equal)
both_equal Less b tied = absurd (true≢false (sym (ap is_eq tied)))
both_equal Equal b tied = (refl, tied)
both_equal Greater b tied = absurd (true≢false (sym (ap is_eq tied)))

-- lists that compare as equal are the same
pub same_values_are_one : (xs ys : List Datum) → IsTrue (same_values xs ys) → xs ≡ ys
same_values_are_one xs ys same = tied xs ys ((Equal-is (slice_cmp compare xs ys)).0 same)
  where
    tied : (xs ys : List Datum) → slice_cmp compare xs ys ≡ Equal → xs ≡ ys
    tied [] [] e = refl
    tied [] (y ∷ ys) e = absurd (true≢false (sym (ap is_eq e)))
    tied (x ∷ xs) [] e = absurd (true≢false (sym (ap is_eq e)))
    tied (x ∷ xs) (y ∷ ys) e =
        let equal = both_equal (compare x y) (slice_cmp compare xs ys) e in
        λ i. compare_ties x y equal.0 i ∷ tied xs ys equal.1 i

-- the laws of equality
pub same_values_equiv : IsEquivalence same_values
same_values_equiv = eq_by_cmp_equiv (lists_total compare_total)

pub same_values_per : IsPartialEquivalence same_values
same_values_per = partial_equiv_from_equiv same_values_equiv

-- lists with the same values feed a hasher alike
pub same_values_hash_alike : (xs ys : List Datum) → IsTrue (same_values xs ys) → list_writes xs ≡ list_writes ys
same_values_hash_alike xs ys same = ap list_writes (same_values_are_one xs ys same)
