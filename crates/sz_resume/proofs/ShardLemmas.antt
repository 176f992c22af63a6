-- Shards that records are cut into, and those of them after others.
use Rattle.std.proofs.Common.{◌≡◌, ℕ, zero, suc, ◌+◌, ◌≤◌, List, [], ◌∷◌, ◌++◌, length, take, drop, refl, sym, ap, ◌∙◌, subst, arith, length-append, length-drop}
use Rattle.std.proofs.lemmas.List.{drop-drop}
use Rattle.sz_records.specs.Shards.{AreShards}
use Rattle.sz_attempt.specs.Shards.{ShardData}
use Rattle.sz_workers.specs.Outcomes.{all_records}
use Rattle.sz_workers.specs.Cuts.{cut_into}

-- after so many shards with so many records stand these
pub record AreAfter (most number first : ℕ) (records : List (List ℕ)) (sizes : List ℕ) (shards count : ℕ) (back : List ShardData) : Type 0 where
  pub few : count ≤ length records
  pub are : AreShards most (drop count records) (drop shards sizes)
  pub is : back ≡ cut_into (number + shards) (first + count) (drop count records) (drop shards sizes)

-- a list has as many elements as are taken
length_taken : {X : Type 0} (n : ℕ) (xs : List X) → n ≤ length xs → length (take n xs) ≡ n
length_taken zero xs le = refl
length_taken (suc n) [] le = absurd (omega arith)
length_taken (suc n) (x ∷ xs) le = ap suc (length_taken n xs (omega arith))

-- a shard of so many records, and then others
one_after : (most number first n : ℕ) (records : List (List ℕ)) (ns : List ℕ) (shards count : ℕ) (back : List ShardData) → n ≤ length records
    → AreAfter most (suc number) (first + n) (drop n records) ns shards count back
    → AreAfter most number first records (n ∷ ns) (suc shards) (n + count) back
one_after most number first n records ns shards count back within h =
    let later = drop-drop count n records in
    let a : suc number + shards ≡ number + suc shards = omega arith in
    let b : first + n + count ≡ first + (n + count) = omega arith in
    record {
      few = omega (arith, h.few, within, length-drop n records);
      are = subst (λ rs. AreShards most rs (drop shards ns)) later h.are;
      is = h.is ∙ ap (λ k. cut_into k (first + n + count) (drop count (drop n records)) (drop shards ns)) a
          ∙ ap (λ k. cut_into (number + suc shards) k (drop count (drop n records)) (drop shards ns)) b
          ∙ ap (λ rs. cut_into (number + suc shards) (first + (n + count)) rs (drop shards ns)) later;
    }

pub are_after : (most number first : ℕ) (records : List (List ℕ)) (sizes : List ℕ) (front back : List ShardData) → AreShards most records sizes
    → cut_into number first records sizes ≡ front ++ back
    → AreAfter most number first records sizes (length front) (length (all_records front)) back
are_after most number first records sizes [] back are is =
    let a : number ≡ number + 0 = omega arith in
    let b : first ≡ first + 0 = omega arith in
    record {
      few = omega arith;
      are = are;
      is = sym is ∙ ap (λ k. cut_into k first records sizes) a ∙ ap (λ k. cut_into (number + 0) k records sizes) b;
    }
are_after most number first records [] (s ∷ front) back are is = absurd (cc)
are_after most number first records (n ∷ ns) (s ∷ front) back are is =
    subst (λ count. AreAfter most number first records (n ∷ ns) (suc (length front)) count back) (sym long)
    (one_after most number first n records ns (length front) (length (all_records front)) back are.0.within
    (are_after most (suc number) (first + n) (drop n records) ns front back are.1 parts.1))
  where
    this : ShardData
    this = record { number = number; first = first; records = take n records }

    apart : (x y : ShardData) (xs ys : List ShardData) → x ∷ xs ≡ y ∷ ys → (x ≡ y) × (xs ≡ ys)
    apart x y xs ys e = (cc, cc)

    parts : (this ≡ s) × (cut_into (suc number) (first + n) (drop n records) ns ≡ front ++ back)
    parts = apart this s (cut_into (suc number) (first + n) (drop n records) ns) (front ++ back) is

    long : length (s.records ++ all_records front) ≡ n + length (all_records front)
    long =
        let here : length s.records ≡ n = ap (λ (x : ShardData). length x.records) (sym parts.0) ∙ length_taken n records are.0.within in
        omega (arith, here, length-append s.records (all_records front))
