-- Where runs end, and in which of them a place lies.
use Rattle.std.proofs.Common.{◌≡◌, ℕ, zero, suc, ◌+◌, ◌-◌, ◌<◌, ◌≤◌, List, [], ◌∷◌, length, set, take, get_or, slice_get, Some, sym, ap, ◌∙◌, subst, arith}
use Rattle.std.specs.List.Sorted.{IsNonDecreasingBy}
use Rattle.std.specs.Option.{option_map}
use Rattle.std.proofs.lemmas.List.{length-append, length-map, take-set}
use Rattle.std.proofs.lemmas.Option.{slice_get-get_or, slice_get-map}
use Rattle.sz_value.specs.Data.{Datum}
use Rattle.sz_value.specs.Runs.{AreEnds}
use Rattle.sz_value.specs.Seen.{seen_pair, seen_pairs, seen_runs}
use Rattle.sz_value.specs.declared.value.Pair.{Pair}
use Rattle.sz_value.specs.declared.value.Run.{Run}
use Rattle.sz_value.proofs.PlaceLemmas.{get_front, get_back}
use Rattle.sz_value.proofs.RunLemmas.{IsOwn}

-- the number of pairs of a run and those behind it
both_counted : (r : Run) (rs : List Run) → length (seen_runs (r ∷ rs)) ≡ length r.pairs.items + length (seen_runs rs)
both_counted r rs = omega (
  arith,
  length-append (seen_pairs r.pairs.items) (seen_runs rs),
  length-map {B = Datum × Datum} r.pairs.items seen_pair,
)

next_taken : (r : Run) (rs : List Run) (i : ℕ) → take (suc i + 1) (r ∷ rs) ≡ r ∷ take (i + 1) rs
next_taken r rs i = let further : suc i + 1 ≡ suc (i + 1) = omega arith in ap (λ n. take n (r ∷ rs)) further

-- the ends of a front of the runs
pub ends_front : (rs : List Run) (i n : ℕ) → AreEnds n rs → AreEnds n (take i rs)
ends_front [] zero n ends = tt
ends_front [] (suc i) n ends = tt
ends_front (r ∷ rs) zero n ends = tt
ends_front (r ∷ rs) (suc i) n ends = (ends.0, ends_front rs i r.end ends.1)

-- a run whose end is set
pub ends_more : (rs : List Run) (i n : ℕ) (r : Run) → i < length rs → AreEnds n (take i rs)
    → r.end ≡ n + length (seen_runs (take i rs)) + length r.pairs.items → AreEnds n (take (i + 1) (set rs i r))
ends_more [] i n r within ends is = absurd (omega arith)
ends_more (s ∷ rs) zero n r within ends is = (omega (arith, is), tt)
ends_more (s ∷ rs) (suc i) n r within ends is =
    let rest = ends_more rs i s.end r (omega arith) ends.1 (omega (arith, is, ends.0, both_counted s (take i rs))) in
    subst (AreEnds n) (sym (next_taken s (set rs i r) i)) (ends.0, rest)

-- a run ends behind the pairs up to it
pub end_counted : (rs : List Run) (i n : ℕ) (d : Run) → i < length rs → AreEnds n (take (i + 1) rs)
    → (get_or rs i d).end ≡ n + length (seen_runs (take (i + 1) rs))
end_counted [] i n d within ends = absurd (omega arith)
end_counted (r ∷ rs) zero n d within ends = omega (arith, ends.0, both_counted r [])
end_counted (r ∷ rs) (suc i) n d within ends =
    let next = next_taken r rs i in
    let own = subst (AreEnds n) next ends in
    omega (
      arith,
      end_counted rs i r.end d (omega arith) own.1,
      own.0,
      both_counted r (take (i + 1) rs),
      ap (λ t. length (seen_runs t)) next,
    )

-- a run of as many pairs with the same end in the stead of one
pub ends_with : (rs : List Run) (i n : ℕ) (d r : Run) → i < length rs → AreEnds n rs → r.end ≡ (get_or rs i d).end
    → length r.pairs.items ≡ length (get_or rs i d).pairs.items → AreEnds n (set rs i r)
ends_with [] i n d r within ends end count = absurd (omega arith)
ends_with (s ∷ rs) zero n d r within ends end count =
    (omega (arith, ends.0, end, count), subst (λ m. AreEnds m rs) (sym end) ends.1)
ends_with (s ∷ rs) (suc i) n d r within ends end count =
    (ends.0, ends_with rs i s.end d r (omega arith) ends.1 end count)

ends_above : (rs : List Run) (j n : ℕ) (d : Run) → j < length rs → AreEnds n rs → n ≤ (get_or rs j d).end
ends_above [] j n d within ends = absurd (omega arith)
ends_above (r ∷ rs) zero n d within ends = omega (arith, ends.0)
ends_above (r ∷ rs) (suc j) n d within ends = omega (arith, ends.0, ends_above rs j r.end d (omega arith) ends.1)

-- no end falls
pub ends_rise : (rs : List Run) (n : ℕ) → AreEnds n rs → IsNonDecreasingBy (λ run. run.end) rs
ends_rise [] n ends i j d order within = absurd (omega arith)
ends_rise (r ∷ rs) n ends zero zero d order within = omega arith
ends_rise (r ∷ rs) n ends zero (suc j) d order within = ends_above rs j r.end d (omega arith) ends.1
ends_rise (r ∷ rs) n ends (suc i) zero d order within = absurd (omega arith)
ends_rise (r ∷ rs) n ends (suc i) (suc j) d order within = ends_rise rs r.end ends.1 i j d (omega arith) (omega arith)

-- a place lies in the run before which there are no more pairs than it says, and which ends behind it
pub pair_there : (rs : List Run) (i place : ℕ) (d : Run) → i < length rs → length (seen_runs (take i rs)) ≤ place
    → place < length (seen_runs (take (i + 1) rs))
    → slice_get (seen_runs rs) place
    ≡ slice_get (seen_pairs (get_or rs i d).pairs.items) (place - length (seen_runs (take i rs)))
pair_there [] i place d within low high = absurd (omega arith)
pair_there (r ∷ rs) zero place d within low high =
    get_front (seen_pairs r.pairs.items) (seen_runs rs) place
    (omega (arith, high, both_counted r [], length-map {B = Datum × Datum} r.pairs.items seen_pair))
    ∙ ap (slice_get (seen_pairs r.pairs.items)) (omega arith)
pair_there (r ∷ rs) (suc i) place d within low high =
    let own = length (seen_pairs r.pairs.items) in
    let size = length-map {B = Datum × Datum} r.pairs.items seen_pair in
    let front = both_counted r (take i rs) in
    let whole = both_counted r (take (i + 1) rs) in
    let next = ap (λ t. length (seen_runs t)) (next_taken r rs i) in
    get_back (seen_pairs r.pairs.items) (seen_runs rs) place (omega (arith, low, front, size))
    ∙ pair_there rs i (place - own) d (omega arith) (omega (arith, low, front, size))
    (omega (arith, high, whole, size, next, low, front))
    ∙ ap (slice_get (seen_pairs (get_or rs i d).pairs.items)) (omega (arith, low, front, size))

-- a front with fewer pairs than all runs has fewer runs
fewer_runs : (rs : List Run) (i : ℕ) → length (seen_runs (take i rs)) < length (seen_runs rs) → i < length rs
fewer_runs [] zero fewer = absurd (omega arith)
fewer_runs [] (suc i) fewer = absurd (omega arith)
fewer_runs (r ∷ rs) zero fewer = omega arith
fewer_runs (r ∷ rs) (suc i) fewer =
    omega (arith, fewer_runs rs i (omega (arith, fewer, both_counted r (take i rs), both_counted r rs)))

-- the end of the run before a place is the number of pairs before it
pub end_before : (rs : List Run) (i : ℕ) (d : Run) → 0 < i → i ≤ length rs → AreEnds 0 (take i rs)
    → (get_or rs (i - 1) d).end ≡ length (seen_runs (take i rs))
end_before rs zero d some within ends = absurd (omega arith)
end_before rs (suc i) d some within ends =
    let last : suc i - 1 ≡ i = omega arith in
    let next : suc i ≡ i + 1 = omega arith in
    let end = end_counted rs i 0 d (omega arith) (subst (λ n. AreEnds 0 (take n rs)) next ends) in
    omega (arith, end, ap (λ n. (get_or rs n d).end) last, ap (λ n. length (seen_runs (take n rs))) next)

low_end : (rs : List Run) (i place : ℕ) → AreEnds 0 rs → i ≤ length rs
    → ((k : ℕ) (d : Run) → k < i → (get_or rs k d).end ≤ place) → length (seen_runs (take i rs)) ≤ place
low_end rs zero place ends within low = omega arith
low_end [] (suc i) place ends within low = absurd (omega arith)
low_end (r ∷ rs) (suc i) place ends within low =
    let last = end_before (r ∷ rs) (suc i) r (omega arith) within (ends_front (r ∷ rs) (suc i) 0 ends) in
    omega (arith, last, low (suc i - 1) r (omega arith))

-- the run in which a place lies: the ends before it are not behind the place, and those from it on are
pub record IsRunAt (rs : List Run) (i place : ℕ) : Type 0 where
  pub within : i < length rs
  pub low : length (seen_runs (take i rs)) ≤ place
  pub high : place < length (seen_runs (take (i + 1) rs))

pub run_parted : (rs : List Run) (i place : ℕ) → AreEnds 0 rs → place < length (seen_runs rs) → i ≤ length rs
    → ((k : ℕ) (d : Run) → k < i → (get_or rs k d).end ≤ place)
    → ((k : ℕ) (d : Run) → i ≤ k → k < length rs → place < (get_or rs k d).end)
    → IsRunAt rs i place
run_parted [] i place ends some bound low high = absurd (omega arith)
run_parted (r ∷ rs) i place ends some bound low high =
    let front = low_end (r ∷ rs) i place ends bound low in
    let within = fewer_runs (r ∷ rs) i (omega (arith, front, some)) in
    let end = end_counted (r ∷ rs) i 0 r within (ends_front (r ∷ rs) (i + 1) 0 ends) in
    record { within = within; low = front; high = omega (arith, end, high i r (omega arith) within) }

-- the pair at a place, by that in its run
pub pair_is : (rs : List Run) (i place before : ℕ) (d : Run) (p : Pair) → i < length rs
    → before ≡ length (seen_runs (take i rs)) → before ≤ place
    → place < length (seen_runs (take (i + 1) rs)) → place - before < length (get_or rs i d).pairs.items
    → p ≡ get_or (get_or rs i d).pairs.items (place - before) p → slice_get (seen_runs rs) place ≡ Some (seen_pair p)
pair_is rs i place before d p within counted low high inside is =
    let run = (get_or rs i d).pairs.items in
    pair_there rs i place d within (omega (arith, counted, low)) high
    ∙ ap (λ n. slice_get (seen_pairs run) (place - n)) (sym counted)
    ∙ slice_get-map seen_pair run (place - before)
    ∙ ap (option_map seen_pair) (slice_get-get_or run (place - before) p inside)
    ∙ ap (λ q. Some (seen_pair q)) (sym is)

module _ {k : Datum} {rs : List Run} {i : ℕ} {r : Run} (run : IsOwn k rs i r) where
  -- a run of as many pairs in its stead ends where it ended
  pub ends_at_run : (made : Run) → AreEnds 0 rs → made.end ≡ r.end → length made.pairs.items ≡ length r.pairs.items
      → AreEnds 0 (set rs i made)
  ends_at_run made ends end count =
      ends_with rs i 0 r made run.within ends (end ∙ ap (λ s. s.end) run.is)
      (count ∙ ap (λ s. length s.pairs.items) run.is)

  -- the runs before it end where they ended
  pub front_at_run : (made : Run) → AreEnds 0 rs → AreEnds 0 (take i (set rs i made))
  front_at_run made ends = subst (AreEnds 0) (sym (take-set rs i made)) (ends_front rs i 0 ends)
