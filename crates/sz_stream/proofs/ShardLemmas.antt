-- Shards that are closed at the front of records.
use Rattle.std.proofs.Common.{◌≡◌, ℕ, zero, suc, ◌+◌, ◌-◌, ◌^◌, ◌≤◌, List, [], ◌∷◌, ◌++◌, length, take, drop, All, Bool, true, false}
use Rattle.std.proofs.Common.{refl, sym, ap, ◌∙◌, subst, arith, append_assoc, length-append, length-drop}
use Rattle.std.proofs.lemmas.List.{drop-append-le, take-append-le, drop-drop}
use Rattle.std.proofs.lemmas.List.Elements.{All-nil, All-cons}
use Rattle.sz_records.specs.Shards.{AreShards, IsShard, EndsShard}
use Rattle.sz_records.proofs.ShardLemmas.{one_shard}
use Rattle.sz_attempt.specs.declared.job.Shard.{Shard}
use Rattle.sz_attempt.specs.Shards.{ShardData, IsShardIn}
use Rattle.sz_workers.specs.Outcomes.{all_records}
use Rattle.sz_workers.specs.Cuts.{ranges_of, cut_into}
use Rattle.sz_workers.specs.Rounds.{AreNext}
use Rattle.sz_stream.specs.Intakes.{IsClosed, AreClosed, sum_of}

module _ (most : ℕ) where
  -- a shard ended where the next one begins
  pub is_closed : (at_end : Bool) (records : List (List ℕ)) (from end : ℕ) → EndsShard records from most at_end end
      → IsClosed most at_end (drop from records) (end - from)
  is_closed at_end records from end e = record {
    some = omega (arith, e.within.0);
    within = omega (arith, e.within.0, e.within.1, length-drop from records);
    shard = λ more ends.
        subst (λ rs. IsShard most rs (end - from))
        (drop-append-le from records more (omega (arith, e.within.0, e.within.1))) (e.shard more ends);
  }

  -- more records come after
  closed_longer : (at_end : Bool) (records added : List (List ℕ)) (n : ℕ) → IsClosed most false records n
      → IsClosed most at_end (records ++ added) n
  closed_longer at_end records added n c = record {
    some = c.some;
    within = omega (arith, c.within, length-append records added);
    shard = λ more ends. subst (λ rs. IsShard most rs n) (sym (append_assoc records added more))
        (c.shard (added ++ more) (λ e. absurd cc));
  }

  pub are_longer : (at_end : Bool) (records added : List (List ℕ)) (ns : List ℕ) → AreClosed most false records ns
      → AreClosed most at_end (records ++ added) ns
  are_longer at_end records added [] a = tt
  are_longer at_end records added (n ∷ ns) a = (
    closed_longer at_end records added n a.0,
    subst (λ rs. AreClosed most at_end rs ns) (sym (drop-append-le n records added a.0.within))
        (are_longer at_end (drop n records) added ns a.1),
  )

  -- more shards come after
  pub are_more : (at_end : Bool) (records : List (List ℕ)) (ns ms : List ℕ) → AreClosed most at_end records ns
      → AreClosed most at_end (drop (sum_of ns) records) ms → AreClosed most at_end records (ns ++ ms)
  are_more at_end records [] ms a more = more
  are_more at_end records (n ∷ ns) ms a more = (
    a.0,
    are_more at_end (drop n records) ns ms a.1
        (subst (λ rs. AreClosed most at_end rs ms) (sym (drop-drop (sum_of ns) n records)) more),
  )

  -- they have no more records than there are
  pub sum_within : (at_end : Bool) (records : List (List ℕ)) (ns : List ℕ) → AreClosed most at_end records ns
      → sum_of ns ≤ length records
  sum_within at_end records [] a = omega arith
  sum_within at_end records (n ∷ ns) a =
      let rest = sum_within at_end (drop n records) ns a.1 in omega (arith, rest, a.0.within, length-drop n records)

  -- and each has some
  pub fewer_shards : (at_end : Bool) (records : List (List ℕ)) (ns : List ℕ) → AreClosed most at_end records ns
      → length ns ≤ sum_of ns
  fewer_shards at_end records [] a = omega arith
  fewer_shards at_end records (n ∷ ns) a = let rest = fewer_shards at_end (drop n records) ns a.1 in
      omega (arith, rest, a.0.some)

  -- however the records go on, they are cut into these shards and others after them
  pub record Splits (rest : List (List ℕ)) (ns sizes : List ℕ) : Type 0 where
    pub later : List ℕ
    pub same : sizes ≡ ns ++ later
    pub are : AreShards most rest later

  pub split : (at_end : Bool) (records more : List (List ℕ)) (ns sizes : List ℕ) → (at_end ≡ true → more ≡ [])
      → AreClosed most at_end records ns
      → AreShards most (records ++ more) sizes → Splits (drop (sum_of ns) records ++ more) ns sizes
  split at_end records more [] sizes ends a are = record { later = sizes; same = refl; are = are }
  split at_end records more (n ∷ ns) [] ends a are =
      absurd (let none = ap length are in omega (arith, none, length-append records more, a.0.some, a.0.within))
  split at_end records more (n ∷ ns) (m ∷ ms) ends a are =
      let same : m ≡ n = one_shard most (records ++ more) m n are.0 (a.0.shard more ends) in
      let left : drop m (records ++ more) ≡ drop n records ++ more =
      ap (λ k. drop k (records ++ more)) same ∙ drop-append-le n records more a.0.within in
      let rest = split at_end (drop n records) more ns ms ends a.1 (subst (λ rs. AreShards most rs ms) left are.1) in
      record {
        later = rest.later;
        same = ap (λ k. k ∷ ms) same ∙ ap (λ ks. n ∷ ks) rest.same;
        are = subst (λ rs. AreShards most (rs ++ more) rest.later) (drop-drop (sum_of ns) n records) rest.are;
      }

  -- the records of these shards and of those after them, as data
  pub cut_append : (at_end : Bool) (number first : ℕ) (records more : List (List ℕ)) (ns ms : List ℕ)
      → AreClosed most at_end records ns → cut_into number first (records ++ more) (ns ++ ms)
      ≡ cut_into number first records ns
      ++ cut_into (number + length ns) (first + sum_of ns) (drop (sum_of ns) records ++ more) ms
  cut_append at_end number first records more [] ms a =
      let n : number ≡ number + 0 = omega arith in
      let f : first ≡ first + 0 = omega arith in
      ap (λ k. cut_into k first (records ++ more) ms) n ∙ ap (λ k. cut_into (number + 0) k (records ++ more) ms) f
  cut_append at_end number first records more (n ∷ ns) ms a =
      let shard : List (List ℕ) → ShardData = λ rs. record { number = number; first = first; records = rs } in
      let k : suc number + length ns ≡ number + suc (length ns) = omega arith in
      let f : first + n + sum_of ns ≡ first + (n + sum_of ns) = omega arith in
      ap (λ rs. shard rs ∷ cut_into (suc number) (first + n) (drop n (records ++ more)) (ns ++ ms))
      (take-append-le n records more a.0.within) ∙ ap (λ rs. shard (take n records)
      ∷ cut_into (suc number) (first + n) rs (ns ++ ms)) (drop-append-le n records more a.0.within)
      ∙ ap (λ l. shard (take n records) ∷ l) (cut_append at_end (suc number) (first + n) (drop n records) more ns ms a.1
      ∙ ap (λ j. cut_into (suc number) (first + n) (drop n records) ns
      ++ cut_into j (first + n + sum_of ns) (drop (sum_of ns) (drop n records) ++ more) ms) k
      ∙ ap (λ j. cut_into (suc number) (first + n) (drop n records) ns
      ++ cut_into (number + suc (length ns)) j (drop (sum_of ns) (drop n records) ++ more) ms) f
      ∙ ap (λ rs. cut_into (suc number) (first + n) (drop n records) ns
      ++ cut_into (number + suc (length ns)) (first + (n + sum_of ns)) (rs ++ more) ms)
      (drop-drop (sum_of ns) n records))

  -- the shards lie among the records, one after the other
  pub record Lie (records : List (List ℕ)) (place first : ℕ) (shards : List Shard) : Type 0 where
    pub within : All (IsShardIn records) shards
    pub next : AreNext place first shards

  pub lie : (at_end : Bool) (records : List (List ℕ)) (place first : ℕ) (ns : List ℕ)
      → AreClosed most at_end (drop place records) ns → place ≤ length records → 1 ≤ first
      → first + length (drop place records) ≤ 2 ^ 31 + 1 → Lie records place first (ranges_of place first ns)
  lie at_end records place first [] a le low few = record { within = All-nil (IsShardIn records); next = tt }
  lie at_end records place first (n ∷ ns) a le low few =
      let long = length-drop place records in
      let fits : place + n ≤ length records = omega (arith, a.0.within, long, le) in
      let after = length-drop (place + n) records in
      let rest = lie at_end records (place + n) (first + n) ns
      (subst (λ rs. AreClosed most at_end rs ns) (drop-drop n place records) a.1) fits
      (omega (arith, low)) (omega (arith, few, long, after, a.0.within, le)) in
      let same : first + n ≡ first + (place + n - place) = omega arith in
      record {
        within = All-cons (IsShardIn records) (record { first = first; start = place; end = place + n })
            (ranges_of (place + n) (first + n) ns) (record {
              order = omega arith;
              within = fits;
              first = low;
              few = omega (arith, few, a.0.within);
            }) rest.within;
        next = (refl, refl, subst (λ m. AreNext (place + n) m (ranges_of (place + n) (first + n) ns)) same rest.next);
      }

-- the records of so many shards at the front
pub length_cut : (most : ℕ) (at_end : Bool) (number first : ℕ) (records : List (List ℕ)) (ns : List ℕ)
    → AreClosed most at_end records ns → length (all_records (cut_into number first records ns)) ≡ sum_of ns
length_cut most at_end number first records [] a = refl
length_cut most at_end number first records (n ∷ ns) a =
    let rest = length_cut most at_end (suc number) (first + n) (drop n records) ns a.1 in
    let here = taken n records a.0.within in
    omega (
      arith,
      rest,
      here,
      length-append (take n records) (all_records (cut_into (suc number) (first + n) (drop n records) ns)),
    )
  where
    taken : (n : ℕ) (rs : List (List ℕ)) → n ≤ length rs → length (take n rs) ≡ n
    taken zero rs le = refl
    taken (suc n) [] le = absurd (omega arith)
    taken (suc n) (r ∷ rs) le = ap suc (taken n rs (omega arith))

-- where shards lie, and those after them
pub ranges_append : (place first : ℕ) (ns ms : List ℕ)
    → ranges_of place first (ns ++ ms)
    ≡ ranges_of place first ns ++ ranges_of (place + sum_of ns) (first + sum_of ns) ms
ranges_append place first [] ms =
    let p : place ≡ place + 0 = omega arith in
    let f : first ≡ first + 0 = omega arith in
    ap (λ k. ranges_of k first ms) p ∙ ap (λ k. ranges_of (place + 0) k ms) f
ranges_append place first (n ∷ ns) ms =
    let p : place + n + sum_of ns ≡ place + (n + sum_of ns) = omega arith in
    let f : first + n + sum_of ns ≡ first + (n + sum_of ns) = omega arith in
    ap (λ l. record { first = first; start = place; end = place + n } ∷ l) (ranges_append (place + n) (first + n) ns ms
    ∙ ap (λ k. ranges_of (place + n) (first + n) ns ++ ranges_of k (first + n + sum_of ns) ms) p
    ∙ ap (λ k. ranges_of (place + n) (first + n) ns ++ ranges_of (place + (n + sum_of ns)) k ms) f)

pub length-ranges : (place first : ℕ) (ns : List ℕ) → length (ranges_of place first ns) ≡ length ns
length-ranges place first [] = refl
length-ranges place first (n ∷ ns) = ap suc (length-ranges (place + n) (first + n) ns)

pub sum-append : (ns ms : List ℕ) → sum_of (ns ++ ms) ≡ sum_of ns + sum_of ms
sum-append [] ms = omega arith
sum-append (n ∷ ns) ms = let rest = sum-append ns ms in omega (arith, rest)
