-- The sizes of an input's shards.
use Rattle.std.proofs.Common.{◌≡◌, inl, inr, ℕ, zero, suc, ◌+◌, ◌^◌, ◌<◌, ◌≤◌, List, [], ◌∷◌, ◌++◌, length, take, drop, Bool, true, false, true≢false}
use Rattle.std.proofs.Common.{refl, sym, ap, ◌∙◌, subst, arith, append-nil, append_assoc, length-append}
use Rattle.std.specs.Prelude.{nat_le, ◌||◌, if◌then◌else◌}
use Rattle.std.proofs.lemmas.Bool.Decides.{nat_tests}
use Rattle.std.proofs.lemmas.List.Sums.{sum_by_push}
use Rattle.sz_records.specs.Shards.{AreShards, IsShard, IsFull, bytes_in}
use Rattle.sz_workers.proofs.RangeLemmas.{makes_rounds}
use Rattle.sz_workers.specs.Cuts.{ranges_of, MakesRounds}
use Rattle.szl.specs.Shards.{sizes_after, shard_sizes}

take_front : {A : Type 0} (xs ys : List A) (m : ℕ) → m ≤ length xs → take m (xs ++ ys) ≡ take m xs
take_front xs ys zero le = refl
take_front [] ys (suc m) le = absurd (omega arith)
take_front (x ∷ xs) ys (suc m) le = ap (λ zs. x ∷ zs) (take_front xs ys m (omega arith))

take_whole : {A : Type 0} (xs ys : List A) → take (length xs) (xs ++ ys) ≡ xs
take_whole [] ys = refl
take_whole (x ∷ xs) ys = ap (λ zs. x ∷ zs) (take_whole xs ys)

drop_front : {A : Type 0} (xs ys : List A) → drop (length xs) (xs ++ ys) ≡ ys
drop_front [] ys = refl
drop_front (x ∷ xs) ys = drop_front xs ys

at_most : (a b : ℕ) → nat_le a b ≡ true → a ≤ b
at_most a b e = grind (arith, nat_tests)

not_at_most : (a b : ℕ) → nat_le a b ≡ false → b < a
not_at_most a b e = grind (arith, nat_tests)

-- no front of these records is full
abbrev NoneFull : ℕ → List (List ℕ) → Type 0
NoneFull most front = (m : ℕ) → m ≤ length front → ¬ IsFull most (take m front)

module _ (most : ℕ) where
  -- records have the shards of their sizes, whatever records that no shard is full of stand before them
  abbrev HaveShards : List (List ℕ) → Type 0
  HaveShards rs = (front : List (List ℕ)) → NoneFull most front → AreShards most (front ++ rs) (sizes_after most (length front) (bytes_in front) rs)

  shard_after : (front rs : List (List ℕ)) → NoneFull most front → AreShards most (front ++ rs) (sizes_after most (length front) (bytes_in front) rs)
  shard_after [] [] none = refl
  shard_after (x ∷ xs) [] none =
      let all = append-nil (x ∷ xs) in (
        record {
          some = omega arith;
          within = omega (arith, length-append (x ∷ xs) []);
          shortest = λ m less full. none m (omega (arith, less)) (subst (λ l. IsFull most (take m l)) all full);
          ends = inr (ap length (sym all));
        },
        drop_front (x ∷ xs) [],
      )
  shard_after front (r ∷ rs) none =
      by (λ (longer : List (List ℕ)) (open_still : NoneFull most longer). shard_after longer rs open_still) (nat_le most (suc (length front)))
      (nat_le (2 ^ 24) (bytes_in front + length r)) refl refl
    where
      longer : List (List ℕ)
      longer = front ++ r ∷ []

      long : length longer ≡ suc (length front)
      long = omega (arith, length-append front (r ∷ []))

      same : longer ++ rs ≡ front ++ r ∷ rs
      same = append_assoc front (r ∷ []) rs

      this : IsFull most longer → IsShard most (front ++ r ∷ rs) (suc (length front))
      this full = record {
        some = omega arith;
        within = omega (arith, length-append front (r ∷ rs));
        shortest = λ m less is. none m (omega (arith, less)) (subst (IsFull most) (take_front front (r ∷ rs) m (omega (arith, less))) is);
        ends = inl (subst (IsFull most)
            (sym (ap (λ n. take n (front ++ r ∷ rs)) (sym long) ∙ ap (take (length longer)) (sym same) ∙ take_whole longer rs)) full);
      }

      rest : HaveShards rs → AreShards most (drop (suc (length front)) (front ++ r ∷ rs)) (sizes_after most 0 0 rs)
      rest after =
          let left = ap (λ n. drop n (front ++ r ∷ rs)) (sym long) ∙ ap (drop (length longer)) (sym same) ∙ drop_front longer rs in
          subst (λ l. AreShards most l (sizes_after most 0 0 rs)) (sym left) (after [] none_empty)
        where
          none_empty : NoneFull most []
          none_empty zero le = none 0 (omega arith)
          none_empty (suc m) le = absurd (omega arith)

      by : HaveShards rs → (a b : Bool) → nat_le most (suc (length front)) ≡ a → nat_le (2 ^ 24) (bytes_in front + length r) ≡ b
          → AreShards most (front ++ r ∷ rs)
          (if a || b then suc (length front) ∷ sizes_after most 0 0 rs else sizes_after most (suc (length front)) (bytes_in front + length r) rs)
      by after true b is js = let le = at_most most (suc (length front)) is in (this (inl (omega (arith, le, long))), rest after)
      by after false true is js =
          let le = at_most (2 ^ 24) (bytes_in front + length r) js in (this (inr (omega (arith, le, sum_by_push length front r))), rest after)
      by after false false is js =
          let few = not_at_most most (suc (length front)) is in
          let light = not_at_most (2 ^ 24) (bytes_in front + length r) js in
          subst (λ l. AreShards most l (sizes_after most (suc (length front)) (bytes_in front + length r) rs)) same
          (subst (λ n. AreShards most (longer ++ rs) (sizes_after most (suc (length front)) n rs)) (sum_by_push length front r)
          (subst (λ n. AreShards most (longer ++ rs) (sizes_after most n (bytes_in longer) rs)) long
          (after longer (none_longer few light))))
        where
          none_longer : suc (length front) < most → bytes_in front + length r < 2 ^ 24 → NoneFull most longer
          none_longer few light m le = order (nat_le m (length front)) refl
            where
              order : (b : Bool) → nat_le m (length front) ≡ b → ¬ IsFull most (take m longer)
              order true e full =
                  let less = at_most m (length front) e in none m less (subst (IsFull most) (take_front front (r ∷ []) m less) full)
              order false e full =
                  let more = not_at_most m (length front) e in
                  let here : m ≡ length longer = omega (arith, more, le, long) in
                  whole (subst (IsFull most) (ap (λ n. take n longer) here ∙ ap (take (length longer)) (sym (append-nil longer)) ∙ take_whole longer []) full)
                where
                  whole : IsFull most longer → ⊥
                  whole (inl le) = absurd (omega (arith, le, few, long))
                  whole (inr le) = absurd (omega (arith, le, light, sum_by_push length front r))

-- the sizes are those of shards
pub sizes_are_shards : (most : ℕ) (records : List (List ℕ)) → 1 ≤ most → AreShards most records (shard_sizes most records)
sizes_are_shards most records low = shard_after most [] records none
  where
    none : NoneFull most []
    none zero le (inl full) = absurd (omega (arith, full, low))
    none zero le (inr full) = absurd (omega (arith, full))
    none (suc m) le full = absurd (omega (arith, le))

-- shards of no records are shards of one
none_is_one : (count bytes : ℕ) (rs : List (List ℕ)) → sizes_after 0 count bytes rs ≡ sizes_after 1 count bytes rs
none_is_one count bytes [] = refl
none_is_one count bytes (r ∷ rs) =
    by (nat_le 0 (suc count)) (nat_le 1 (suc count)) (grind (arith, nat_tests)) (grind (arith, nat_tests)) (none_is_one 0 0 rs)
  where
    by : (a b : Bool) → a ≡ true → b ≡ true → sizes_after 0 0 0 rs ≡ sizes_after 1 0 0 rs
        → (if a || nat_le (2 ^ 24) (bytes + length r) then suc count ∷ sizes_after 0 0 0 rs else sizes_after 0 (suc count) (bytes + length r) rs)
        ≡ (if b || nat_le (2 ^ 24) (bytes + length r) then suc count ∷ sizes_after 1 0 0 rs else sizes_after 1 (suc count) (bytes + length r) rs)
    by true true is also later = ap (λ sizes. suc count ∷ sizes) later
    by true false is also later = absurd (true≢false (sym also))
    by false b is also later = absurd (true≢false (sym is))

-- records that are few make rounds of the shards that they are cut into
pub shards_make_rounds : (most : ℕ) (rs : List (List ℕ)) → length rs ≤ 2 ^ 31
    → MakesRounds rs (ranges_of 0 1 (shard_sizes most rs)) (shard_sizes most rs)
shards_make_rounds most rs few = by most
  where
    some : (n : ℕ) → 1 ≤ n → MakesRounds rs (ranges_of 0 1 (shard_sizes n rs)) (shard_sizes n rs)
    some n low =
        let sizes = shard_sizes n rs in
        makes_rounds n rs (ranges_of 0 1 sizes) few (record { sizes = sizes; are = sizes_are_shards n rs low; lie = refl })

    by : (n : ℕ) → MakesRounds rs (ranges_of 0 1 (shard_sizes n rs)) (shard_sizes n rs)
    by zero = subst (λ sizes. MakesRounds rs (ranges_of 0 1 sizes) sizes) (sym (none_is_one 0 0 rs)) (some 1 (omega arith))
    by (suc n) = some (suc n) (omega arith)
