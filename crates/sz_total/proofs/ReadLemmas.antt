-- Index lists of parts that are lent, and those that are read back one after the other, with their rows.
use Rattle.std.proofs.Common.{◌≡◌, ◌∙◌, ℕ, zero, suc, ◌+◌, ◌<◌, ◌≤◌, Bool, true, false, true≢false, List, [], ◌∷◌, ◌++◌, map, take, length}
use Rattle.std.proofs.Common.{get_or, refl, sym, ap, subst, arith, nat_eq, append_assoc, All, IsPermutation}
use Rattle.std.specs.List.{AllByRecursion, IsDistinct}
use Rattle.std.specs.Map.{keys_of}
use Rattle.std.proofs.lemmas.Bool.{eq-eqb, eqb-true}
use Rattle.std.proofs.lemmas.List.{append-nil, map-append, take_all, map_more}
use Rattle.std.proofs.lemmas.Map.Keys.{IsDistinct-cons, IsDistinct-head, IsDistinct-tail}
use Rattle.std.proofs.lemmas.Option.{slice_get-get_or, get_or_from_slice_get}
use Rattle.std.proofs.lemmas.List.Elements.{All-map, All-more}
use Rattle.std.proofs.lemmas.List.Sorted.{All-permutation, IsPermutation-sym}
use Rattle.sz_value.specs.Data.{Datum}
use Rattle.sz_total.specs.Aggregates.{IsBounded}
use Rattle.sz_total.specs.Tables.{Indexed}
use Rattle.sz_total.specs.Entries.{Entries, AreBounded, entry_rows, same_indexes}
use Rattle.sz_total.specs.Parts.{PartState, empty_part, part_at, part_of, entries_of, IsPlaced, ArePlaced}
use Rattle.sz_total.proofs.ListLemmas.{same_is}
use Rattle.sz_total.specs.declared.aggregate.Aggregate.{Aggregate}

-- the aggregator of the entry is bounded
abbrev pub HasBounded : List Datum × Aggregate → Type 0
HasBounded e = IsBounded e.1

-- the rows are those of the first entries, and these are bounded
pub record AreRead (entries : Entries) (at : ℕ) (rows : List Indexed) : Type 0 where
  pub rows_are : rows ≡ map entry_rows (take at entries)
  pub bounded : All HasBounded (take at entries)

pub one_read : (entries : Entries) (at : ℕ) (e : List Datum × Aggregate) (rows next : List Indexed) (more : Indexed)
    → at < length entries → e ≡ get_or entries at e → more ≡ entry_rows e → IsBounded e.1 → next ≡ rows ++ more ∷ []
    → AreRead entries at rows → AreRead entries (at + 1) next
one_read entries at e rows next more less is shows bounded grown before = record {
  rows_are = grown ∙ (λ i. before.rows_are i ++ (shows ∙ ap entry_rows is) i ∷ [])
      ∙ sym (map_more entry_rows entries at e less);
  bounded = All-more HasBounded entries at e less before.bounded (subst HasBounded is bounded);
}

-- once all are read, those in any other order are bounded too
pub all_bounded : (entries new : Entries) (at : ℕ) (rows : List Indexed) → IsPermutation entries new → length new ≤ at
    → AreRead new at rows → AreBounded entries
all_bounded entries new at rows moved all read =
    All-map IsBounded (λ (e : List Datum × Aggregate). e.1) entries
    (All-permutation HasBounded new entries (IsPermutation-sym entries new moved)
    (subst (All HasBounded) (take_all at new all) read.bounded))

-- all of two lists
all_by_both : (P : List Datum → Type 0) (xs ys : List (List Datum)) → AllByRecursion P xs → AllByRecursion P ys
    → AllByRecursion P (xs ++ ys)
all_by_both P [] ys front later = later
all_by_both P (x ∷ xs) ys front later = (front.0, all_by_both P xs ys front.1 later)

apart_both : (xs ys : List (List Datum)) → IsDistinct same_indexes xs → IsDistinct same_indexes ys
    → AllByRecursion (λ x. AllByRecursion (λ y. same_indexes x y ≡ false) ys) xs → IsDistinct same_indexes (xs ++ ys)
apart_both [] ys front later cross = later
apart_both (x ∷ xs) ys front later cross =
    IsDistinct-cons same_indexes x (xs ++ ys)
    (all_by_both (λ y. same_indexes x y ≡ false) xs ys (IsDistinct-head same_indexes x xs front) cross.0)
    (apart_both xs ys (IsDistinct-tail same_indexes x xs front) later cross.1)

-- the parts after the first
next_placed : (count from : ℕ) (p : PartState) (ps : List PartState)
    → ((i : ℕ) → IsPlaced count (from + i) (part_at (p ∷ ps) i).entries)
    → (i : ℕ) → IsPlaced count (suc from + i) (part_at ps i).entries
next_placed count from p ps placed i =
    subst (λ n. IsPlaced count n (part_at ps i).entries) (omega arith) (placed (suc i))

-- parts with numbers from here on have no lower ones
higher : (count low from : ℕ) (parts : List PartState) → low < from
    → ((i : ℕ) → IsPlaced count (from + i) (part_at parts i).entries)
    → AllByRecursion (λ l. low < part_of count l) (keys_of (entries_of parts))
higher count low from [] less placed = tt
higher count low from (p ∷ ps) less placed =
    subst (AllByRecursion (λ l. low < part_of count l))
    (sym (map-append (λ (e : List Datum × Aggregate). e.0) p.entries (entries_of ps)))
    (all_by_both (λ l. low < part_of count l) (keys_of p.entries) (keys_of (entries_of ps))
    (each (keys_of p.entries) (placed 0))
    (higher count low (suc from) ps (omega (arith, less)) (next_placed count from p ps placed)))
  where
    each : (keys : List (List Datum)) → AllByRecursion (λ l. part_of count l ≡ from + 0) keys
        → AllByRecursion (λ l. low < part_of count l) keys
    each [] are = tt
    each (k ∷ ks) are = (omega (arith, less, are.0), each ks are.1)

-- no two index lists of parts are the same
parts_apart : (count from : ℕ) (parts : List PartState)
    → ((i : ℕ) → IsPlaced count (from + i) (part_at parts i).entries)
    → ((i : ℕ) → i < length parts → IsDistinct same_indexes (keys_of (part_at parts i).entries))
    → IsDistinct same_indexes (keys_of (entries_of parts))
unfolding IsDistinct
parts_apart count from [] placed apart = tt
parts_apart count from (p ∷ ps) placed apart =
    subst (IsDistinct same_indexes) (sym (map-append (λ (e : List Datum × Aggregate). e.0) p.entries (entries_of ps)))
    (apart_both (keys_of p.entries) (keys_of (entries_of ps)) (apart 0 (omega arith))
    (parts_apart count (suc from) ps (next_placed count from p ps placed)
    (λ i less. apart (suc i) (omega (arith, less)))) (cross (keys_of p.entries) (placed 0)))
  where
    later : AllByRecursion (λ l. from < part_of count l) (keys_of (entries_of ps))
    later = higher count from (suc from) ps (omega arith) (next_placed count from p ps placed)

    by_test : (x y : List Datum) → part_of count x ≡ from + 0 → from < part_of count y → (b : Bool)
        → same_indexes x y ≡ b → same_indexes x y ≡ false
    by_test x y mine more true same =
        let no : ⊥ = omega (arith, mine, more, ap (part_of count) (same_is x y same)) in absurd no
    by_test x y mine more false same = same

    from_all : (x : List Datum) → part_of count x ≡ from + 0 → (ys : List (List Datum))
        → AllByRecursion (λ l. from < part_of count l) ys → AllByRecursion (λ y. same_indexes x y ≡ false) ys
    from_all x mine [] more = tt
    from_all x mine (y ∷ ys) more = (by_test x y mine more.0 (same_indexes x y) refl, from_all x mine ys more.1)

    cross : (xs : List (List Datum)) → AllByRecursion (λ l. part_of count l ≡ from + 0) xs
        → AllByRecursion (λ x. AllByRecursion (λ y. same_indexes x y ≡ false) (keys_of (entries_of ps))) xs
    cross [] are = tt
    cross (x ∷ xs) are = (from_all x are.0 (keys_of (entries_of ps)) later, cross xs are.1)

-- the entries of the first parts are lent, and no two index lists of one part are the same
pub record AreLent (parts : List PartState) (at : ℕ) (entries : Entries) : Type 0 where
  pub lent : entries ≡ entries_of (take at parts)
  pub apart : (i : ℕ) → i < at → IsDistinct same_indexes (keys_of (part_at parts i).entries)

pub lent_none : (parts : List PartState) → AreLent parts 0 []
lent_none parts = record { lent = refl; apart = λ i less. let no : ⊥ = omega (arith, less) in absurd no }

entries_more : (parts : List PartState) (at : ℕ) → at < length parts
    → entries_of (take (suc at) parts) ≡ entries_of (take at parts) ++ (part_at parts at).entries
entries_more [] at less = let no : ⊥ = omega (arith, less) in absurd no
entries_more (p ∷ ps) zero less = append-nil p.entries
entries_more (p ∷ ps) (suc at) less =
    ap (λ l. p.entries ++ l) (entries_more ps at (omega (arith, less)))
    ∙ sym (append_assoc p.entries (entries_of (take at ps)) (part_at ps at).entries)

pub lent_more : (parts : List PartState) (at : ℕ) (part : PartState) (entries new : Entries) → at < length parts
    → part ≡ get_or parts at part → new ≡ entries ++ part.entries → IsDistinct same_indexes (keys_of part.entries)
    → AreLent parts at entries → AreLent parts (at + 1) new
lent_more parts at part entries new less is grown apart before = record {
  lent =
      grown ∙ (λ i. before.lent i ++ (ap (λ (p : PartState). p.entries) here) i) ∙ sym (entries_more parts at less)
      ∙ ap (λ n. entries_of (take n parts)) next;
  apart = λ i low. by_test i low (nat_eq i at) refl;
}
  where
    next : suc at ≡ at + 1
    next = omega arith

    here : part ≡ part_at parts at
    here = is
        ∙ sym (get_or_from_slice_get parts at (get_or parts at part) empty_part (slice_get-get_or parts at part less))

    by_test : (i : ℕ) → i < at + 1 → (b : Bool) → nat_eq i at ≡ b
        → IsDistinct same_indexes (keys_of (part_at parts i).entries)
    by_test i low true same =
        subst (λ k. IsDistinct same_indexes (keys_of (part_at parts k).entries)) (sym (eqb-true i at same))
        (subst (λ (p : PartState). IsDistinct same_indexes (keys_of p.entries)) here apart)
    by_test i low false other = before.apart i (omega (arith, low, not_here))
      where
        not_here : i ≡ at → ⊥
        not_here e = true≢false (sym (eq-eqb i at e) ∙ other)

-- once all are lent
pub lent_all : (parts : List PartState) (at : ℕ) (entries : Entries) → length parts ≤ at → AreLent parts at entries
    → entries ≡ entries_of parts
lent_all parts at entries all lent = lent.lent ∙ ap entries_of (take_all at parts all)

pub lent_apart : (parts : List PartState) (at : ℕ) (entries : Entries) → length parts ≤ at → ArePlaced parts
    → AreLent parts at entries → IsDistinct same_indexes (keys_of (entries_of parts))
lent_apart parts at entries all placed lent =
    parts_apart (length parts) 0 parts
    (λ i. subst (λ n. IsPlaced (length parts) n (part_at parts i).entries) (from_none i) (placed i))
    (λ i less. lent.apart i (omega (arith, less, all)))
  where
    from_none : (i : ℕ) → i ≡ 0 + i
    from_none i = omega arith
