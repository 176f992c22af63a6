-- What the calls of the heap leave: the least of all that came.
use Rattle.std.proofs.Common.{◌≡◌, ◌∙◌, ℕ, ◌+◌, ◌≤◌, ◌<◌, ℤ, true, false, List, [], ◌∷◌, ◌++◌, map, take, length, true≢false, Option, Some, None, IsSome, IfSome, IsSorted, sym, ap, arith, is_lt, IsPermutation}
use Rattle.std.specs.BinaryHeap.{IsHeap, IsUpperBound, PopsGreatest}
use Rattle.std.specs.List.Sorted.{IsStable}
use Rattle.std.specs.Cmp.{on_total}
use Rattle.std.proofs.lemmas.List.{length-map, map-append}
use Rattle.std.proofs.lemmas.List.Sorted.{IsPermutation-map, IsPermutation-sym, IsPermutation-append_comm, length_permutation}
use Rattle.sz_value.specs.declared.value.Value.{Value}
use Rattle.sz_tabs.specs.Sorting.{sorted}
use Rattle.sz_tabs.proofs.ForCallers.{sorted_in_any_order, stable_sort_is_sorted, sorted_mapped}
use Rattle.sz_extreme.specs.Ranks.{Ranked, by_rank, seen_rank, rank_order, HoldsLeast}
use Rattle.sz_extreme.proofs.RankLemmas.{rank_total, rank_ties, IsWorst, worst_left_out, worse_than_worst}

abbrev pub ranks : List (ℤ × Value) → List Ranked
ranks ps = map seen_rank ps

-- what is above all pairs is above their ranks and values
pub worst_seen : (p : ℤ × Value) (ps : List (ℤ × Value)) → IsUpperBound rank_order p ps
    → IsWorst rank_total rank_ties (seen_rank p) (ranks ps)
worst_seen p [] all = tt
worst_seen p (q ∷ ps) all = (all.0, worst_seen p ps all.1)

-- one that stands last may as well stand first
front : (r : Ranked) (rs : List Ranked) → sorted by_rank (rs ++ r ∷ []) ≡ sorted by_rank (r ∷ rs)
front r rs = sorted_in_any_order rank_total rank_ties (rs ++ r ∷ []) (r ∷ rs) (IsPermutation-append_comm rs (r ∷ []))

-- one that isn't less than the worst of as many as can be kept is passed over
pub passed_over : (n : ℕ) (ps : List (ℤ × Value)) (p : ℤ × Value) (r : Ranked) → n ≤ length ps
    → IsUpperBound rank_order p ps → is_lt (by_rank r (seen_rank p)) ≡ false
    → HoldsLeast n (ranks ps ++ r ∷ []) (ranks ps)
passed_over n ps p r long all high =
    let worst = worse_than_worst rank_total rank_ties r (seen_rank p) (ranks ps) high (worst_seen p ps all) in
    sym (ap (take n) (front r (ranks ps))
    ∙ worst_left_out rank_total rank_ties n (ranks ps) r (omega (arith, length-map ps seen_rank, long)) worst)

-- one more is kept
pub one_more : (n : ℕ) (ps qs : List (ℤ × Value)) (p : ℤ × Value) → IsPermutation (p ∷ ps) qs
    → HoldsLeast n (ranks ps ++ seen_rank p ∷ []) (ranks qs)
one_more n ps qs p moved =
    ap (take n) (sorted_in_any_order rank_total rank_ties (ranks qs) (seen_rank p ∷ ranks ps)
    (IsPermutation-sym _ _ (IsPermutation-map seen_rank (p ∷ ps) qs moved))
    ∙ sym (front (seen_rank p) (ranks ps)))

-- all of both are kept
pub all_more : (n : ℕ) (ps os qs : List (ℤ × Value)) → IsPermutation (ps ++ os) qs
    → HoldsLeast n (ranks ps ++ ranks os) (ranks qs)
all_more n ps os qs moved =
    ap (take n) (sorted_in_any_order rank_total rank_ties (ranks qs) (ranks (ps ++ os))
    (IsPermutation-sym _ _ (IsPermutation-map seen_rank (ps ++ os) qs moved))
    ∙ ap (sorted by_rank) (map-append seen_rank ps os))

-- the worst goes
pub worst_goes : (n : ℕ) (qs rest : List (ℤ × Value)) (worst : ℤ × Value) → IsPermutation qs (worst ∷ rest)
    → n < length qs → IsUpperBound rank_order worst rest → HoldsLeast n (ranks qs) (ranks rest)
worst_goes n qs rest worst popped more all =
    let whole = IsPermutation-map seen_rank qs (worst ∷ rest) popped in
    sym (ap (take n) (sorted_in_any_order rank_total rank_ties (ranks qs) (seen_rank worst ∷ ranks rest) whole)
    ∙ worst_left_out rank_total rank_ties n (ranks rest) (seen_rank worst)
    (omega (arith, more, length_permutation qs (worst ∷ rest) popped, length-map rest seen_rank))
    (worst_seen worst rest all))

-- what is kept of what is kept
pub kept_of_kept : (n : ℕ) (all some kept : List Ranked) → HoldsLeast n all some → HoldsLeast n some kept
    → HoldsLeast n all kept
kept_of_kept n all some kept before after = after ∙ before

-- what is popped leaves a heap, and the least
pub heap_next : (now next : List (ℤ × Value)) (r : Option (ℤ × Value)) → IsSome r
    → IfSome r (λ x. PopsGreatest rank_order now x next) → IsHeap rank_order now
    → IsHeap rank_order next
heap_next now next (Some x) some pops heap = (pops heap).0
heap_next now next None some pops heap = absurd (true≢false (sym some))

pub trimmed : (n : ℕ) (first now next : List (ℤ × Value)) (r : Option (ℤ × Value)) → n < length now → IsSome r
    → IfSome r (λ x. IsPermutation now (x ∷ next))
    → IfSome r (λ x. IsHeap rank_order now → IsUpperBound rank_order x next) → IsHeap rank_order now
    → HoldsLeast n (ranks first) (ranks now) → HoldsLeast n (ranks first) (ranks next)
trimmed n first now next (Some x) more some popped below heap least =
    kept_of_kept n (ranks first) (ranks now) (ranks next) least (worst_goes n now next x popped more (below heap))
trimmed n first now next None more some popped below heap least = absurd (true≢false (sym some))

-- where more than n are kept, the greatest is popped, and the least of those at first still are kept
pub one_popped : (n size room room_first room_next : ℕ) (first now next : List (ℤ × Value)) (r : Option (ℤ × Value))
    → n < size → n < length now → (0 < size → IsSome r) → IfSome r (λ x. PopsGreatest rank_order now x next)
    → IfSome r (λ x. IsPermutation now (x ∷ next))
    → IfSome r (λ x. IsHeap rank_order now → IsUpperBound rank_order x next) → room_next ≡ room
    → (IsHeap rank_order now × HoldsLeast n (ranks first) (ranks now) × (room ≡ room_first))
    → (IsHeap rank_order next × HoldsLeast n (ranks first) (ranks next) × (room_next ≡ room_first))
one_popped n size room room_first room_next first now next r less more some pops popped below same kept =
    let is : IsSome r = some (omega (arith, less)) in
    (heap_next now next r is pops kept.0, trimmed n first now next r more is popped below kept.0 kept.1, same ∙ kept.2)

-- what a stable sort leaves
pub ranks_sorted : (old new : List (ℤ × Value)) → IsSorted rank_order new → IsStable rank_order old new
    → ranks new ≡ sorted by_rank (ranks old)
ranks_sorted old new in_order stable =
    ap ranks (stable_sort_is_sorted (on_total seen_rank rank_total) old new in_order stable)
    ∙ sym (sorted_mapped by_rank seen_rank old)
