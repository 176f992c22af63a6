-- Records that are cut into shards make rounds.
use Rattle.std.proofs.Common.{◌≡◌, ℕ, zero, suc, ◌+◌, ◌-◌, ◌^◌, ◌≤◌, List, [], ◌∷◌, ◌++◌, length, take, drop, All}
use Rattle.std.proofs.Common.{refl, sym, ap, ◌∙◌, subst, arith}
use Rattle.std.proofs.lemmas.List.Elements.{All-nil, All-cons}
use Rattle.sz_records.specs.Shards.{AreShards}
use Rattle.sz_attempt.specs.declared.job.Shard.{Shard}
use Rattle.sz_attempt.specs.Shards.{IsShardIn}
use Rattle.sz_workers.specs.Outcomes.{FollowFrom, all_records}
use Rattle.sz_workers.specs.Rounds.{numbered, AreNext}
use Rattle.sz_workers.specs.Cuts.{ranges_of, cut_into, AreCut, MakesRounds}

drop_nothing : {A : Type 0} (n : ℕ) → drop {A = A} n [] ≡ []
drop_nothing zero = refl
drop_nothing (suc n) = refl

pub drop_more : {A : Type 0} (s n : ℕ) (xs : List A) → drop n (drop s xs) ≡ drop (s + n) xs
drop_more zero n xs = let same : n ≡ 0 + n = omega arith in ap (λ m. drop m xs) same
drop_more (suc s) n [] = drop_nothing n ∙ sym (drop_nothing (suc s + n))
drop_more (suc s) n (x ∷ xs) = let next : suc s + n ≡ suc (s + n) = omega arith in
    drop_more s n xs ∙ ap (λ m. drop m (x ∷ xs)) (sym next)

abbrev shard_of : ℕ → ℕ → ℕ → Shard
shard_of first start end = record { first = first; start = start; end = end }

length-take_within : {A : Type 0} (n : ℕ) (xs : List A) → n ≤ length xs → length (take n xs) ≡ n
length-take_within zero xs le = refl
length-take_within (suc n) [] le = absurd (omega arith)
length-take_within (suc n) (x ∷ xs) le = ap suc (length-take_within n xs (omega arith))

both_parts : {A : Type 0} (n : ℕ) (xs : List A) → take n xs ++ drop n xs ≡ xs
both_parts zero xs = refl
both_parts (suc n) [] = refl
both_parts (suc n) (x ∷ xs) = ap (λ ys. x ∷ ys) (both_parts n xs)

left_later : {A : Type 0} (xs : List A) (n : ℕ) → n ≤ length xs → length (drop n xs) + n ≡ length xs
left_later xs zero le = omega arith
left_later [] (suc n) le = absurd (omega arith)
left_later (x ∷ xs) (suc n) le = let rest = left_later xs n (omega arith) in omega (arith, rest)

-- the shards lie among the records, one after the other
record Lie (records : List (List ℕ)) (place first : ℕ) (shards : List Shard) : Type 0 where
  within : All (IsShardIn records) shards
  next : AreNext place first shards

lie : (most : ℕ) (records : List (List ℕ)) (place first : ℕ) (sizes : List ℕ)
    → AreShards most (drop place records) sizes → place ≤ length records
    → 1 ≤ first → first + length (drop place records) ≤ 2 ^ 31 + 1
    → Lie records place first (ranges_of place first sizes)
lie most records place first [] are le low few = record { within = All-nil (IsShardIn records); next = tt }
lie most records place first (n ∷ sizes) are le low few =
    let long = left_later records place le in
    let fits : place + n ≤ length records = omega (arith, are.0.within, long) in
    let after = left_later records (place + n) fits in
    let rest = lie most records (place + n) (first + n) sizes
    (subst (λ rs. AreShards most rs sizes) (drop_more place n records) are.1) fits
    (omega (arith, low)) (omega (arith, few, long, after, are.0.within)) in
    let same : first + n ≡ first + (place + n - place) = omega arith in
    record {
      within = All-cons (IsShardIn records) (shard_of first place (place + n)) (ranges_of (place + n) (first + n) sizes)
          (record { order = omega arith; within = fits; first = low; few = omega (arith, few, are.0.within) })
          rest.within;
      next = (refl, refl, subst (λ m. AreNext (place + n) m (ranges_of (place + n) (first + n) sizes)) same rest.next);
    }

-- numbered, they are the records cut at their sizes
pub numbered_cut : (number : ℕ) (records : List (List ℕ)) (place first : ℕ) (sizes : List ℕ)
    → numbered number records (ranges_of place first sizes) ≡ cut_into number first (drop place records) sizes
numbered_cut number records place first [] = refl
numbered_cut number records place first (n ∷ sizes) =
    let same : place + n - place ≡ n = omega arith in
    ap (λ m. record { number = number; first = first; records = take m (drop place records) }
    ∷ numbered (suc number) records (ranges_of (place + n) (first + n) sizes)) same
    ∙ ap (λ l. record { number = number; first = first; records = take n (drop place records) } ∷ l)
    (numbered_cut (suc number) records (place + n) (first + n) sizes
    ∙ ap (λ rs. cut_into (suc number) (first + n) rs sizes) (sym (drop_more place n records)))

follow : (most number first : ℕ) (records : List (List ℕ)) (sizes : List ℕ) → AreShards most records sizes
    → FollowFrom first (cut_into number first records sizes)
follow most number first records [] are = tt
follow most number first records (n ∷ sizes) are =
    let long = length-take_within n records are.0.within in (
      refl,
      subst (λ m. FollowFrom (first + m) (cut_into (suc number) (first + n) (drop n records) sizes)) (sym long)
          (follow most (suc number) (first + n) (drop n records) sizes are.1),
    )

whole : (most number first : ℕ) (records : List (List ℕ)) (sizes : List ℕ) → AreShards most records sizes
    → all_records (cut_into number first records sizes) ≡ records
whole most number first records [] are = sym are
whole most number first records (n ∷ sizes) are =
    ap (λ rs. take n records ++ rs) (whole most (suc number) (first + n) (drop n records) sizes are.1)
    ∙ both_parts n records

pub makes_rounds : (most : ℕ) (records : List (List ℕ)) (shards : List Shard) → length records ≤ 2 ^ 31
    → (cut : AreCut most records shards) → MakesRounds records shards cut.sizes
makes_rounds most records shards few cut =
    let all = lie most records 0 1 cut.sizes cut.are (omega arith) (omega arith) (omega (arith, few)) in
    record {
      within = subst (All (IsShardIn records)) (sym cut.lie) all.within;
      next = subst (AreNext 0 1) (sym cut.lie) all.next;
      are = λ number. ap (numbered number records) cut.lie ∙ numbered_cut number records 0 1 cut.sizes;
      follow = λ number. follow most number 1 records cut.sizes cut.are;
      whole = λ number. whole most number 1 records cut.sizes cut.are;
    }
