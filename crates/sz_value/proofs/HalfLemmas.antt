-- The first run of all, and a run that is made two.
use Rattle.std.proofs.Common.{◌≡◌, ℕ, zero, suc, ◌+◌, ◌<◌, ◌≤◌, List, [], ◌∷◌, ◌++◌, length, set, map, take, drop, get_or, refl, sym, ap, ◌∙◌, subst, arith}
use Rattle.std.specs.List.{insert}
use Rattle.std.specs.List.Sorted.{IsStrictlySortedBy}
use Rattle.std.proofs.lemmas.List.{get_or_default, length-take, length-drop, map-append, take-append-drop, append_assoc, take-set, take-set-le}
use Rattle.sz_value.specs.Data.{Datum}
use Rattle.sz_value.specs.Order.{KeysRise}
use Rattle.sz_value.specs.Runs.{AreFilled, AreRuns, AreEnds}
use Rattle.sz_value.specs.Seen.{seen_pair, seen_pairs, seen_runs}
use Rattle.sz_value.specs.declared.value.Pair.{Pair}
use Rattle.sz_value.specs.declared.value.Run.{Run}

-- two halves of a run show what the run does
halves : (ps : List Pair) (n : ℕ) (qs : List (Datum × Datum))
    → map seen_pair (take n ps) ++ (map seen_pair (drop n ps) ++ qs) ≡ map seen_pair ps ++ qs
halves ps n qs =
    sym (append_assoc (map seen_pair (take n ps)) (map seen_pair (drop n ps)) qs)
    ∙ ap (λ t. t ++ qs)
    (sym (map-append seen_pair (take n ps) (drop n ps)) ∙ ap (map seen_pair) (take-append-drop n ps))

-- a run in two halves, for the second of which there is a run of no pairs behind it
module _ (n : ℕ) (d none head half : Run) where
  halved_in : (rs : List Run) (i : ℕ) → AreFilled rs → i < length rs → none.pairs.items ≡ [] → 0 < n
      → n < length (get_or rs i d).pairs.items
      → head.pairs.items ≡ take n (get_or rs i d).pairs.items → half.pairs.items ≡ drop n (get_or rs i d).pairs.items
      → record {
        filled : AreFilled (set (set (insert rs (suc i) none) i head) (suc i) half);
        same : seen_runs (set (set (insert rs (suc i) none) i head)
            (suc i) half) ≡ seen_runs rs;
      }
  halved_in [] i filled within empty low high front back = absurd (omega arith)
  halved_in (r ∷ rs) zero filled within empty low high front back = record {
    filled = (
      omega (arith, ap length front, length-take n r.pairs.items),
      (omega (arith, ap length back, length-drop n r.pairs.items), filled.1),
    );
    same = (λ t. map seen_pair (front t) ++ (map seen_pair (back t) ++ seen_runs rs))
        ∙ halves r.pairs.items n (seen_runs rs);
  }
  halved_in (r ∷ rs) (suc i) filled within empty low high front back =
      let rest = halved_in rs i filled.1 (omega arith) empty low high front back in
      record { filled = (filled.0, rest.filled); same = ap (λ t. seen_pairs r.pairs.items ++ t) rest.same }

  pub halved : (rs ts : List Run) (i : ℕ) → ts ≡ insert rs (i + 1) none → AreFilled rs → i < length rs
      → none.pairs.items ≡ [] → 0 < n
      → n < length (get_or rs i d).pairs.items → head.pairs.items ≡ take n (get_or rs i d).pairs.items
      → half.pairs.items ≡ drop n (get_or rs i d).pairs.items
      → record {
        filled : AreFilled (set (set ts i head) (i + 1) half);
        same : seen_runs (set (set ts i head) (i + 1) half) ≡ seen_runs rs;
      }
  halved rs ts i is filled within empty low high front back =
      let next : suc i ≡ i + 1 = omega arith in
      let done = halved_in rs i filled within empty low high front back in
      let inserted : insert rs (suc i) none ≡ ts = ap (λ m. insert rs m none) next ∙ sym is in
      record {
        filled = subst (λ m. AreFilled (set (set ts i head) m half)) next
            (subst (λ us. AreFilled (set (set us i head) (suc i) half)) inserted done.filled);
        same = subst (λ m. seen_runs (set (set ts i head) m half) ≡ seen_runs rs) next
            (subst (λ us. seen_runs (set (set us i head) (suc i) half) ≡ seen_runs rs) inserted done.same);
      }

  -- the run before one that is put in stands where it stood
  pub kept_before : (rs ts : List Run) (i : ℕ) → ts ≡ insert rs (i + 1) none → i < length rs
      → get_or ts i d ≡ get_or rs i d
  kept_before rs ts i is within = ap (λ us. get_or us i d) is ∙ kept rs i within
    where
      kept : (rs : List Run) (i : ℕ) → i < length rs → get_or (insert rs (i + 1) none) i d ≡ get_or rs i d
      kept [] i within = absurd (omega arith)
      kept (r ∷ rs) zero within = refl
      kept (r ∷ rs) (suc i) within =
          let further : suc i + 1 ≡ suc (i + 1) = omega arith in
          ap (λ m. get_or (insert (r ∷ rs) m none) (suc i) d) further ∙ kept rs i (omega arith)

front_inserted : (rs : List Run) (i j : ℕ) (r : Run) → i ≤ length rs → i ≤ j → take i (insert rs j r) ≡ take i rs
front_inserted rs zero j r within low = refl
front_inserted [] (suc i) j r within low = absurd (omega arith)
front_inserted (s ∷ rs) (suc i) zero r within low = absurd (omega arith)
front_inserted (s ∷ rs) (suc i) (suc j) r within low =
    ap (λ t. s ∷ t) (front_inserted rs i j r (omega arith) (omega arith))

-- the runs before one that is halved stand as they stood
pub front_halved : (rs ts : List Run) (i : ℕ) (none head half : Run) → i < length rs → ts ≡ insert rs (i + 1) none
    → take i (set (set ts i head) (i + 1) half) ≡ take i rs
front_halved rs ts i none head half within is =
    take-set-le i (set ts i head) (i + 1) half (omega arith)
    ∙ take-set ts i head
    ∙ ap (take i) is
    ∙ front_inserted rs i (i + 1) none (omega arith) (omega arith)

-- two that stand at one place are one
pub one_at : (rs : List Run) (i : ℕ) (r s : Run) → i < length rs → r ≡ get_or rs i r → s ≡ get_or rs i s → r ≡ s
one_at rs i r s within here there = here ∙ get_or_default rs i r s within ∙ sym there

-- one pair has keys that rise
pub one_rises : (ps : List (Datum × Datum)) (p : Datum × Datum) → ps ≡ p ∷ [] → KeysRise ps
unfolding IsStrictlySortedBy
one_rises ps p is = subst KeysRise (sym is) (tt, tt)

-- the first run ends behind its pair
pub begun_ends : (rs ts : List Run) (r : Run) (none : List Pair) (p : Pair) → length rs ≡ 0 → none ≡ []
    → r.pairs.items ≡ none ++ p ∷ [] → r.end ≡ 1 → ts ≡ rs ++ r ∷ [] → AreEnds 0 ts
begun_ends [] ts r none p empty are_none one end is =
    let items : r.pairs.items ≡ p ∷ [] = one ∙ ap (λ ps. ps ++ p ∷ []) are_none in
    subst (AreEnds 0) (sym is) (omega (arith, end, ap length items), tt)
begun_ends (s ∷ rs) ts r none p empty are_none one end is = absurd (omega arith)

-- the first run
pub begun : (rs ts : List Run) (r : Run) (none : List Pair) (p : Pair) → length rs ≡ 0 → none ≡ []
    → r.pairs.items ≡ none ++ p ∷ [] → ts ≡ rs ++ r ∷ [] → AreRuns ts
unfolding IsStrictlySortedBy
begun [] ts r none p empty are_none one is =
    let items : r.pairs.items ≡ p ∷ [] = one ∙ ap (λ ps. ps ++ p ∷ []) are_none in
    let filled : 0 < length r.pairs.items = omega (arith, ap length items) in
    let shows : seen_runs (r ∷ []) ≡ seen_pair p ∷ [] = ap (λ ps. map seen_pair ps ++ []) items in
    subst AreRuns (sym is) ((filled, tt), one_rises (seen_runs (r ∷ [])) (seen_pair p) shows)
begun (s ∷ rs) ts r none p empty are_none one is = absurd (omega arith)
