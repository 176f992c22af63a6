-- Where records end in their file, by where they end in the buffer.
use Rattle.std.proofs.Common.{◌≡◌, ℕ, zero, suc, ◌+◌, ◌-◌, ◌*◌, ◌^◌, ◌<◌, ◌≤◌, List, [], ◌∷◌, ◌++◌, length, take, drop, map, get_or}
use Rattle.std.proofs.Common.{refl, sym, ap, subst, ◌∙◌, arith, append_assoc, length-append, length-drop, mul-add, mul-suc}
use Rattle.std.proofs.Math.Nat.{mul-le-mul_left}
use Rattle.std.proofs.lemmas.List.{append-nil, take_all, take-append-le, drop-append-le, drop_all, drop-take, take-map, take-take, length-take, length-take-le, length-map}
use Rattle.std.proofs.lemmas.List.{get_or-take, get_or_append_left, get_or-append_right}
use Rattle.std.proofs.Math.Seq.{get_or-append_seam}
use Rattle.std.proofs.lemmas.Bool.{cases_lt}
use Rattle.std.proofs.lemmas.Option.{slice_get-get_or}
use Rattle.std.specs.Prelude.{slice_get, Some}
use Rattle.std.proofs.Common.{◌⊎◌, inl, inr}
use Rattle.sz_records.specs.Ends.{AreEnds, laid_ends, file_ends, AreKept}
use Rattle.sz_records.specs.Laid.{Continues}
use Rattle.sz_records.specs.declared.laid.Laid.{Laid}
use Rattle.sz_records.proofs.EndsLemmas.{first_ends, later_ends, place_within, place_later, one_end_more, moved_ends}

laid_length : (from more k : ℕ) (ends : List ℕ) → length (laid_ends from more k ends) ≡ length ends
laid_length from more k [] = refl
laid_length from more k (end ∷ ends) = ap suc (laid_length from more (suc k) ends)

laid_at : (from more k : ℕ) (ends : List ℕ) (i : ℕ) → i < length ends
    → get_or (laid_ends from more k ends) i 0 ≡ from + get_or ends i 0 + more * suc (k + i)
laid_at from more k [] i lt = absurd (omega (arith, lt))
laid_at from more k (end ∷ ends) zero lt =
    ap (λ (j : ℕ). from + end + more * suc j) (let e : k ≡ k + zero = omega arith in e)
laid_at from more k (end ∷ ends) (suc i) lt =
    laid_at from more (suc k) ends i (omega (arith, lt))
    ∙ ap (λ (j : ℕ). from + get_or ends i 0 + more * suc j) (let e : suc k + i ≡ k + suc i = omega arith in e)

laid_push : (from more k : ℕ) (ends : List ℕ) (end : ℕ)
    → laid_ends from more k (ends ++ end ∷ [])
    ≡ laid_ends from more k ends ++ (from + end + more * suc (k + length ends)) ∷ []
laid_push from more k [] end = ap (λ (j : ℕ). (from + end + more * suc j) ∷ []) (let e : k ≡ k + 0 = omega arith in e)
laid_push from more k (e ∷ ends) end =
    ap (λ (l : List ℕ). (from + e + more * suc k) ∷ l) (laid_push from more (suc k) ends end
    ∙ ap (λ (j : ℕ). laid_ends from more (suc k) ends ++ (from + end + more * suc j) ∷ [])
    (let h : suc k + length ends ≡ k + suc (length ends) = omega arith in h))

laid_take : (from more k : ℕ) (ends : List ℕ) (n : ℕ)
    → take n (laid_ends from more k ends) ≡ laid_ends from more k (take n ends)
laid_take from more k ends zero = refl
laid_take from more k [] (suc n) = refl
laid_take from more k (end ∷ ends) (suc n) =
    ap (λ (l : List ℕ). (from + end + more * suc k) ∷ l) (laid_take from more (suc k) ends n)

laid_drop : (from more k : ℕ) (ends : List ℕ) (n : ℕ)
    → drop n (laid_ends from more k ends) ≡ laid_ends from more (k + n) (drop n ends)
laid_drop from more k ends zero = ap (λ (j : ℕ). laid_ends from more j ends) (let e : k ≡ k + zero = omega arith in e)
laid_drop from more k [] (suc n) = refl
laid_drop from more k (end ∷ ends) (suc n) =
    laid_drop from more (suc k) ends n
    ∙ ap (λ (j : ℕ). laid_ends from more j (drop n ends)) (let e : suc k + n ≡ k + suc n = omega arith in e)

-- without the first records, what is left is laid from where these end
laid_moved : (from more front place j start len : ℕ) (ends : List ℕ) → AreEnds start ends len → place ≤ start
    → laid_ends (from + place + more * front) more j (map (λ end. end - place) ends)
    ≡ laid_ends from more (front + j) ends
laid_moved from more front place j start len [] h le = refl
laid_moved from more front place j start len (end ∷ ends) h le =
    let low = h.0 in
    let products = mul-add more front (suc j) in
    let same : from + place + more * front + (end - place) + more * suc j ≡ from + end + more * (front + suc j) =
    omega (arith, products, low, le) in
    let next : front + suc j ≡ suc (front + j) = omega arith in
    let rest = laid_moved from more front place (suc j) end len ends h.1 (omega (arith, low, le)) in
    ap (λ (m : ℕ). m ∷ laid_ends (from + place + more * front) more (suc j) (map (λ end. end - place) ends)) same
    ∙ ap (λ (l : List ℕ). (from + end + more * (front + suc j)) ∷ l) rest
    ∙ ap (λ (i : ℕ). (from + end + more * i) ∷ laid_ends from more i ends) next

-- a front of two lists, and what is after it
take_both : {X : Type 0} (n : ℕ) (xs ys : List X) → take n (xs ++ ys) ≡ take n xs ++ take (n - length xs) ys
take_both {X = X} zero xs ys = ap (λ (m : ℕ). take m ys) (let e : zero ≡ zero - length xs = omega arith in e)
take_both {X = X} (suc n) [] ys = ap (λ (m : ℕ). take m ys) (let e : suc n ≡ suc n - 0 = omega arith in e)
take_both {X = X} (suc n) (x ∷ xs) ys =
    ap (λ (l : List X). x ∷ l) (take_both n xs ys
    ∙ ap (λ (m : ℕ). take n xs ++ take m ys) (let e : n - length xs ≡ suc n - suc (length xs) = omega arith in e))

drop_both : {X : Type 0} (n : ℕ) (xs ys : List X) → drop n (xs ++ ys) ≡ drop n xs ++ drop (n - length xs) ys
drop_both {X = X} zero xs ys = ap (λ (m : ℕ). xs ++ drop m ys) (let e : zero ≡ zero - length xs = omega arith in e)
drop_both {X = X} (suc n) [] ys = ap (λ (m : ℕ). drop m ys) (let e : suc n ≡ suc n - 0 = omega arith in e)
drop_both {X = X} (suc n) (x ∷ xs) ys = drop_both n xs ys
    ∙ ap (λ (m : ℕ). drop n xs ++ drop m ys) (let e : n - length xs ≡ suc n - suc (length xs) = omega arith in e)

-- the first of the first ones
both_taken : (n all : ℕ) (xs : List ℕ) → take n (take all xs) ≡ take (n - (n - all)) xs
both_taken n all xs = by (cases_lt n all)
  where
    by : (n < all) ⊎ (all ≤ n) → take n (take all xs) ≡ take (n - (n - all)) xs
    by (inl lt) = take-take n all xs (omega (arith, lt))
        ∙ ap (λ (m : ℕ). take m xs) (let e : n ≡ n - (n - all) = omega (arith, lt) in e)
    by (inr le) = take_all n (take all xs) (let few = length-take all xs in omega (arith, le, few))
        ∙ ap (λ (m : ℕ). take m xs) (let e : all ≡ n - (n - all) = omega (arith, le) in e)

-- places in the buffer, as far as they are those of fewer records
place_before : (ends : List ℕ) (n i : ℕ) → i ≤ n → get_or (0 ∷ take n ends) i 0 ≡ get_or (0 ∷ ends) i 0
place_before ends n i le = get_or-take (suc n) (0 ∷ ends) i 0 (omega (arith, le))

-- they rise
place_rises : (ends : List ℕ) (len i j : ℕ) → AreEnds 0 ends len → i ≤ j → j ≤ length ends
    → get_or (0 ∷ ends) i 0 ≤ get_or (0 ∷ ends) j 0
place_rises ends len i j h le within =
    let few = length-take-le j ends within in
    let low = place_within 0 (take j ends) (get_or (0 ∷ ends) j 0) i (first_ends 0 ends len j h within)
    (omega (arith, few, le)) in
    subst (λ (m : ℕ). m ≤ get_or (0 ∷ ends) j 0) (place_before ends j i le) low

-- a place, where the buffer lost its front
moved_place : (place : ℕ) (ends : List ℕ) (len k : ℕ) → AreEnds place ends len → k ≤ length ends
    → get_or (0 ∷ map (λ end. end - place) ends) k 0 ≡ get_or (place ∷ ends) k 0 - place
moved_place place ends len zero h le = (let e : 0 ≡ place - place = omega arith in e)
moved_place place [] len (suc k) h le = absurd (omega (arith, le))
moved_place place (end ∷ ends) len (suc k) h le = get_or-lowered (end ∷ ends) k (omega (arith, le))
  where
    get_or-lowered : (es : List ℕ) (k : ℕ) → k < length es
        → get_or (map (λ end. end - place) es) k 0 ≡ get_or es k 0 - place
    get_or-lowered [] k lt = absurd (omega (arith, lt))
    get_or-lowered (e ∷ es) zero lt = refl
    get_or-lowered (e ∷ es) (suc k) lt = get_or-lowered es k (omega (arith, lt))

no_items : (l : List ℕ) → length l ≡ 0 → l ≡ []
no_items [] e = refl
no_items (x ∷ l) e = absurd (omega (arith, e))

-- the last one is where the buffer ends
pub last_place : (from : ℕ) (ends : List ℕ) (len : ℕ) → AreEnds from ends len
    → get_or (from ∷ ends) (length ends) 0 ≡ len
last_place from [] len h = h
last_place from (end ∷ ends) len h = last_place end ends len h.1

module _ (from more : ℕ) (ends placed : List ℕ) (len : ℕ) (kept : AreKept from more ends placed len) where
  laid : ℕ
  laid = length ends - length placed

  abbrev laid_part : List ℕ
  laid_part = laid_ends from more 0 (take (length ends - length placed) ends)

  long : length laid_part ≡ length ends - length placed
  long = laid_length from more 0 (take (length ends - length placed) ends)
      ∙ length-take-le (length ends - length placed) ends (omega arith)

  -- as many places as records
  pub ends_len : length (file_ends from more ends placed) ≡ length ends
  ends_len = let few = kept.few in omega (arith, length-append laid_part placed, long, few)

  -- where a laid record ends
  pub laid_end : (i : ℕ) → i < length ends - length placed
      → get_or (file_ends from more ends placed) i 0 ≡ from + get_or ends i 0 + more * (i + 1)
  laid_end i lt =
      let first = length-take-le (length ends - length placed) ends (omega arith) in
      let at = laid_at from more 0 (take (length ends - length placed) ends) i (omega (arith, first, lt)) in
      let same = get_or-take (length ends - length placed) ends i 0 lt in
      get_or_append_left laid_part placed 0 i (omega (arith, long, lt))
      ∙ at
      ∙ ap (λ (e : ℕ). from + e + more * suc (0 + i)) same
      ∙ ap (λ (j : ℕ). from + get_or ends i 0 + more * j) (let e : suc (0 + i) ≡ i + 1 = omega arith in e)

  -- it doesn't end after the last of them
  pub laid_bound : (i : ℕ) → i < length ends - length placed → from + get_or ends i 0 + more * (i + 1) < 2 ^ 64
  laid_bound i lt =
      let bound = kept.bound in
      let rises =
      place_rises ends len (suc i) (length ends - length placed) kept.order (omega (arith, lt)) (omega arith) in
      let products = mul-le-mul_left {m = i + 1} {n = length ends - length placed} more (omega (arith, lt)) in
      let here : get_or (0 ∷ ends) (suc i) 0 ≡ get_or ends i 0 = refl in
      omega (arith, bound, rises, products, here)

  -- where another one ends
  pub placed_end : (i : ℕ) → length ends - length placed ≤ i
      → get_or (file_ends from more ends placed) i 0 ≡ get_or placed (i - (length ends - length placed)) 0
  placed_end i le =
      get_or-append_right laid_part placed (length ends - length placed) i 0 long le

  -- nor do so many of them
  pub laid_reach : (n : ℕ) → n ≤ length ends - length placed → from + get_or (0 ∷ ends) n 0 + more * n < 2 ^ 64
  laid_reach n le =
      let bound = kept.bound in
      let rises = place_rises ends len n (length ends - length placed) kept.order le (omega arith) in
      let products = mul-le-mul_left {m = n} {n = length ends - length placed} more le in
      omega (arith, bound, rises, products)

  pub found_laid : (i at end : ℕ) → i < length ends - length placed → at ≡ get_or ends i 0
      → end ≡ from + at + more * (i + 1) → slice_get (file_ends from more ends placed) i ≡ Some end
  found_laid i at end lt at_is end_is =
      slice_get-get_or (file_ends from more ends placed) i 0 (omega (arith, ends_len, lt))
      ∙ ap (λ (e : ℕ). Some e) (laid_end i lt ∙ ap (λ (a : ℕ). from + a + more * (i + 1)) (sym at_is) ∙ sym end_is)

  pub found_placed : (i end : ℕ) → length ends - length placed ≤ i → i < length ends
      → end ≡ get_or placed (i - (length ends - length placed)) 0
      → slice_get (file_ends from more ends placed) i ≡ Some end
  found_placed i end le lt end_is =
      slice_get-get_or (file_ends from more ends placed) i 0 (omega (arith, ends_len, lt))
      ∙ ap (λ (e : ℕ). Some e) (placed_end i le ∙ sym end_is)

  -- a record more that isn't laid
  pub placed_more : (end more_len : ℕ) → len ≤ more_len
      → (file_ends from more (ends ++ more_len ∷ []) (placed ++ end ∷ []) ≡ file_ends from more ends placed ++ end ∷ [])
      × AreKept from more (ends ++ more_len ∷ []) (placed ++ end ∷ []) more_len
  placed_more end more_len le =
      let few = kept.few in
      let count : length (ends ++ more_len ∷ []) - length (placed ++ end ∷ []) ≡ length ends - length placed =
      omega (arith, length-append ends (more_len ∷ []), length-append placed (end ∷ []), few) in
      let front : take (length ends - length placed) (ends ++ more_len ∷ []) ≡ take (length ends - length placed) ends =
      take-append-le (length ends - length placed) ends (more_len ∷ []) (omega arith) in
      let place : get_or (0 ∷ ends ++ more_len ∷ []) (length ends - length placed) 0
      ≡ get_or (0 ∷ ends) (length ends - length placed) 0 =
      get_or_append_left (0 ∷ ends) (more_len ∷ []) 0 (length ends - length placed) (omega arith) in (
        rw (count, front) (sym (append_assoc laid_part placed (end ∷ []))),
        record {
          order = one_end_more 0 ends len more_len kept.order le;
          few = omega (arith, length-append ends (more_len ∷ []), length-append placed (end ∷ []), few);
          bound = rw (count, place) kept.bound;
        },
      )

  -- the first records alone
  pub ends_first : (n : ℕ) → n < length ends
      → (file_ends from more (take n ends) (take (n - (length ends - length placed)) placed)
      ≡ take n (file_ends from more ends placed))
      × AreKept from more (take n ends) (take (n - (length ends - length placed)) placed) (get_or (0 ∷ ends) n 0)
  ends_first n lt =
      let few = kept.few in
      let all = length ends - length placed in
      let left = n - (n - all) in
      let count : length (take n ends) - length (take (n - all) placed) ≡ left =
      omega
      (arith, length-take-le n ends (omega (arith, lt)), length-take-le (n - all) placed (omega (arith, few, lt))) in
      let place = place_before ends n left (omega arith) in
      let bound = kept.bound in
      let rises = place_rises ends len left all kept.order (omega arith) (omega arith) in
      let products = mul-le-mul_left {m = left} {n = all} more (omega arith) in (
        rw (
          count,
          take-take left n ends (omega arith),
          ← both_taken n all ends,
          ← laid_take from more 0 (take all ends) n,
          ← long_part n,
        )
            (sym (take_both n laid_part placed)),
        record {
          order = first_ends 0 ends len n kept.order (omega (arith, lt));
          few = omega (
            arith,
            length-take-le n ends (omega (arith, lt)),
            length-take-le (n - all) placed (omega (arith, few, lt)),
            few,
          );
          bound = rw (count, place) (omega (arith, bound, rises, products));
        },
      )
    where
      long_part : (n : ℕ) → take (n - length laid_part) placed ≡ take (n - (length ends - length placed)) placed
      long_part n = ap (λ (m : ℕ). take (n - m) placed) long

  -- The records after the first ones: as many as are left of those that are laid, from where the first ones end
  module _ (n start : ℕ) (le : n ≤ length ends) (is : n ≤ length ends - length placed
      → start ≡ from + get_or (0 ∷ ends) n 0 + more * n) (small : start < 2 ^ 64) where
    abbrev ends_left : List ℕ
    ends_left = map (λ end. end - get_or (0 ∷ ends) n 0) (drop n ends)

    abbrev placed_left : List ℕ
    placed_left = drop (n - (length ends - length placed)) placed

    left_length : length ends_left ≡ length ends - n
    left_length = length-map (drop n ends) (λ end. end - get_or (0 ∷ ends) n 0) ∙ length-drop n ends

    later : AreEnds (get_or (0 ∷ ends) n 0) (drop n ends) len
    later = later_ends 0 ends len n kept.order le

    left_order : AreEnds 0 ends_left (len - get_or (0 ∷ ends) n 0)
    left_order =
        let place = get_or (0 ∷ ends) n 0 in
        let none : place - place ≡ 0 = omega arith in
        subst (λ (k : ℕ). AreEnds k ends_left (len - place)) none
        (moved_ends place (drop n ends) place len later (omega arith))

    -- some of the laid ones are left
    some_left : n ≤ length ends - length placed
        → (file_ends start more ends_left placed_left ≡ drop n (file_ends from more ends placed))
        × AreKept start more ends_left placed_left (len - get_or (0 ∷ ends) n 0)
    some_left low =
        let few = kept.few in
        let all = length ends - length placed in
        let place = get_or (0 ∷ ends) n 0 in
        let none : n - all ≡ 0 = omega (arith, low) in
        let count : length ends_left - length placed ≡ all - n = omega (arith, left_length, low, few) in
        let join : n + (all - n) ≡ all = omega (arith, low) in
        let front : take (all - n) ends_left ≡ map (λ end. end - place) (drop n (take all ends)) =
        take-map (λ end. end - place) (all - n) (drop n ends)
        ∙ ap (map (λ end. end - place))
        (sym (drop-take n (all - n) ends) ∙ ap (λ (m : ℕ). drop n (take m ends)) join) in
        let taken = length-take-le all ends (omega arith) in
        let begin = place_before ends all n low in
        let order = later_ends 0 (take all ends) (get_or (0 ∷ ends) all 0) n
        (first_ends 0 ends len all kept.order (omega arith)) (omega (arith, taken, low)) in
        let moved = laid_moved from more n place 0 (get_or (0 ∷ take all ends) n 0) (get_or (0 ∷ ends) all 0)
        (drop n (take all ends)) order (omega (arith, begin)) in
        let zero_more : n + 0 ≡ 0 + n = omega arith in
        let laid_left : laid_ends start more 0 (map (λ end. end - place) (drop n (take all ends))) ≡ drop n laid_part =
        ap (λ (m : ℕ). laid_ends m more 0 (map (λ end. end - place) (drop n (take all ends)))) (is low)
        ∙ moved
        ∙ ap (λ (k : ℕ). laid_ends from more k (drop n (take all ends))) zero_more
        ∙ sym (laid_drop from more 0 (take all ends) n) in
        let same : file_ends start more ends_left placed ≡ drop n (file_ends from more ends placed) =
        ap (λ (k : ℕ). laid_ends start more 0 (take k ends_left) ++ placed) count
        ∙ ap (λ (es : List ℕ). laid_ends start more 0 es ++ placed) front
        ∙ ap (λ (es : List ℕ). es ++ placed) laid_left
        ∙ sym (drop-append-le n laid_part placed (omega (arith, long, low))) in
        let last = moved_place place (drop n ends) len (all - n) later (omega (arith, length-drop n ends, low)) in
        let there = place_later 0 ends n (all - n) le in
        let where_all : get_or (0 ∷ ends_left) (all - n) 0 ≡ get_or (0 ∷ ends) all 0 - place =
        last ∙ ap (λ (m : ℕ). m - place) (there ∙ ap (λ (j : ℕ). get_or (0 ∷ ends) j 0) join) in
        let rises = place_rises ends len n all kept.order low (omega arith) in
        let products = mul-add more n (all - n) ∙ refl in
        let total : more * n + more * (all - n) ≡ more * all = sym products ∙ ap (λ (k : ℕ). more * k) join in
        let bound = kept.bound in
        let begins = is low in
        let kept_left : AreKept start more ends_left placed (len - place) = record {
          order = left_order;
          few = omega (arith, left_length, few, low);
          bound = rw (count, where_all) (omega (arith, bound, rises, total, begins));
        } in
        subst (λ (k : ℕ). (file_ends start more ends_left (drop k placed) ≡ drop n (file_ends from more ends placed))
        × AreKept start more ends_left (drop k placed) (len - place)) (sym none) (same, kept_left)

    -- none is left
    none_left : length ends - length placed ≤ n
        → (file_ends start more ends_left placed_left ≡ drop n (file_ends from more ends placed))
        × AreKept start more ends_left placed_left (len - get_or (0 ∷ ends) n 0)
    none_left high =
        let few = kept.few in
        let all = length ends - length placed in
        let count : length ends_left - length placed_left ≡ 0 =
        omega (arith, left_length, length-drop (n - all) placed, few, high, le) in
        let gone : drop n laid_part ≡ [] = drop_all n laid_part (omega (arith, long, high)) in
        let rest : drop (n - length laid_part) placed ≡ placed_left = ap (λ (m : ℕ). drop (n - m) placed) long in
        let nothing : more * 0 ≡ 0 = omega arith in (
          rw (count, drop_both n laid_part placed, gone, rest) refl,
          record {
            order = left_order;
            few = omega (arith, left_length, length-drop (n - all) placed, few, high, le);
            bound = rw count (omega (arith, nothing, small));
          },
        )

    pub ends_later : (file_ends start more ends_left placed_left ≡ drop n (file_ends from more ends placed))
        × AreKept start more ends_left placed_left (len - get_or (0 ∷ ends) n 0)
    ends_later = by (cases_lt n (length ends - length placed))
      where
        by : (n < length ends - length placed) ⊎ (length ends - length placed ≤ n)
            → (file_ends start more ends_left placed_left ≡ drop n (file_ends from more ends placed))
            × AreKept start more ends_left placed_left (len - get_or (0 ∷ ends) n 0)
        by (inl low) = some_left (omega (arith, low))
        by (inr high) = none_left high

-- a record more that is laid as the others
pub laid_more : (laid next all : Laid) (ends placed : List ℕ) (len size end more_len : ℕ)
    → AreKept laid.from laid.more ends placed len → Continues laid ends placed next all → next.from + size ≡ end
    → next.more + (more_len - len) ≡ size → len ≤ more_len → end < 2 ^ 64
    → (file_ends all.from all.more (ends ++ more_len ∷ []) placed
    ≡ file_ends laid.from laid.more ends placed ++ end ∷ [])
    × AreKept all.from all.more (ends ++ more_len ∷ []) placed more_len
laid_more laid next all ends placed len size end more_len kept c from_is more_is le small =
    let alone = c.alone in
    let long = length-append ends (more_len ∷ []) in
    let nothing : placed ≡ [] = no_items placed alone in
    let count : length (ends ++ more_len ∷ []) - length placed ≡ suc (length ends) = omega (arith, alone, long) in
    let before : length ends - length placed ≡ length ends = omega (arith, alone) in
    let whole : take (suc (length ends)) (ends ++ more_len ∷ []) ≡ ends ++ more_len ∷ [] =
    take_all (suc (length ends)) (ends ++ more_len ∷ []) (omega (arith, long)) in
    let old : take (length ends) ends ≡ ends = take_all (length ends) ends (omega arith) in
    let last = last_place 0 ends len kept.order in
    let reached = c.reached in
    let same_more = c.more in
    let products = mul-suc all.more (length ends) in
    let there : all.from + more_len + all.more * suc (0 + length ends) ≡ end =
    ap (λ (k : ℕ). all.from + more_len + all.more * suc k) (let e : 0 + length ends ≡ length ends = omega arith in e)
    ∙ omega (arith, reached, same_more, products, last, from_is, more_is, le) in
    let new_place : get_or (0 ∷ ends ++ more_len ∷ []) (suc (length ends)) 0 ≡ more_len =
    get_or-append_seam ends more_len [] 0 in (
      rw (count, before, whole, old, nothing)
          (append-nil (laid_ends all.from all.more 0 (ends ++ more_len ∷ []))
          ∙ laid_push all.from all.more 0 ends more_len
          ∙ ap (λ (e : ℕ). laid_ends all.from all.more 0 ends ++ e ∷ []) there
          ∙ ap (λ (es : List ℕ). es ++ end ∷ []) (c.same ∙ sym (append-nil (laid_ends laid.from laid.more 0 ends)))),
      record {
        order = one_end_more 0 ends len more_len kept.order le;
        few = omega (arith, alone);
        bound = rw (count, new_place) (let sum : all.from + more_len + all.more * suc (length ends) ≡ end =
            omega (arith, reached, same_more, products, last, from_is, more_is, le) in omega (arith, sum, small));
      },
    )
