-- Fronts of records that are not full yet, and the one that is.
use Rattle.std.proofs.Common.{◌≡◌, ◌⊎◌, ℕ, ◌+◌, ◌-◌, ◌^◌, ◌<◌, ◌≤◌, Bool, true, false, List, [], ◌∷◌, ◌++◌, length, take, drop, get_or, refl, ap, sym, ◌∙◌, subst, arith, inl, inr, ⊎_elim, Some, nat_lt, ltb-true}
use Rattle.std.specs.Prelude.{slice_get}
use Rattle.std.proofs.lemmas.Bool.{ltb-false}
use Rattle.std.proofs.lemmas.Option.{get_or_from_slice_get, slice_get_within}
use Rattle.std.proofs.lemmas.List.{take-take, take-append-le, drop-append-le, length-take, length-take-le, length-drop, get_or-drop, length-append, append-nil}
use Rattle.std.proofs.lemmas.List.Sums.{sum_by-take-le, sum_by_more}
use Rattle.sz_records.specs.Shards.{bytes_in, IsFull, IsShard, AreShards, ShardsAreUnique, EndsShard, IsOpenAt}

-- the first n records hold so many bytes, and are not full
pub record IsGrowing (most : ℕ) (rs : List (List ℕ)) (n bytes : ℕ) : Type 0 where
  pub within : n ≤ length rs
  pub sum : bytes_in (take n rs) ≡ bytes
  pub few : n < most
  pub light : bytes < 2 ^ 24

-- one record more, which doesn't make them full
pub grows_more : (most : ℕ) (rs : List (List ℕ)) (n bytes : ℕ) (r : List ℕ) → IsGrowing most rs n bytes
    → n < length rs → get_or rs n [] ≡ r
    → n + 1 < most → bytes + length r < 2 ^ 24 → IsGrowing most rs (n + 1) (bytes + length r)
grows_more most rs n bytes r g low is few light = record {
  within = omega (arith, low);
  sum = sum_by_more length rs n [] low ∙ (let s = g.sum in let e = ap length is in omega (arith, s, e));
  few = few;
  light = light;
}

-- a shorter front is not full either
pub not_full : (most : ℕ) (rs : List (List ℕ)) (n bytes : ℕ) → IsGrowing most rs n bytes → (m : ℕ) → m ≤ n
    → ¬ IsFull most (take m rs)
not_full most rs n bytes g m low (inl many) = let l = length-take m rs in let f = g.few in
    absurd (omega (arith, many, l, f, low))
not_full most rs n bytes g m low (inr heavy) =
    let less = sum_by-take-le length (take n rs) m in
    let same = ap bytes_in (take-take m n rs low) in
    let s = g.sum in let w = g.light in absurd (omega (arith, heavy, less, same, s, w))

-- the records from one place to another were read: they hold so many bytes, and are not full
pub record IsRead (rs : List (List ℕ)) (from most last bytes : ℕ) : Type 0 where
  pub begun : from ≤ last
  pub within : last ≤ length rs
  pub grows : IsGrowing most (drop from rs) (last - from) bytes

pub read_none : (rs : List (List ℕ)) (from most : ℕ) → 1 ≤ most → from < length rs → IsRead rs from most from 0
read_none rs from most some low = record {
  begun = omega arith;
  within = omega (arith, low);
  grows = record {
    within = omega arith;
    sum = ap (λ (n : ℕ). bytes_in (take n (drop from rs))) none;
    few = omega (arith, some);
    light = omega arith;
  };
} where
  none : from - from ≡ 0
  none = omega arith

-- the record at a place is so far after the first one
at_place : (rs : List (List ℕ)) (from last : ℕ) (r : List ℕ) → from ≤ last → slice_get rs last ≡ Some r
    → get_or (drop from rs) (last - from) [] ≡ r
at_place rs from last r begun is = get_or-drop from rs (last - from) [] ∙ ap (λ (n : ℕ). get_or rs n [])
    (let e : from + (last - from) ≡ last = omega arith in e) ∙ get_or_from_slice_get rs last r [] is

pub read_more : (rs : List (List ℕ)) (from most last bytes : ℕ) (r : List ℕ) → IsRead rs from most last bytes
    → slice_get rs last ≡ Some r → last - from + 1 < most → bytes + length r < 2 ^ 24
    → IsRead rs from most (last + 1) (bytes + length r)
read_more rs from most last bytes r h is few light =
    let low = slice_get_within rs last r is in
    let rest = length-drop from rs in
    let begun = h.begun in
    let next : last - from + 1 ≡ last + 1 - from = omega (arith, begun) in
    record {
      begun = omega (arith, begun);
      within = omega (arith, low);
      grows = subst (λ (n : ℕ). IsGrowing most (drop from rs) n (bytes + length r)) next
          (grows_more most (drop from rs) (last - from) bytes r h.grows (omega (arith, low, rest, begun))
          (at_place rs from last r begun is) few light);
    }

-- the records from one place to another are a shard, if they are full and no shorter front of them is
shard_from : (rs : List (List ℕ)) (from most end : ℕ) (at_end : Bool) → from < end → end ≤ length rs
    → ((m : ℕ) → m < end - from → ¬ IsFull most (take m (drop from rs)))
    → IsFull most (take (end - from) (drop from rs)) → EndsShard rs from most at_end end
shard_from rs from most end at_end begun within shortest full = record {
  within = (begun, within);
  shard = λ more done. subst (λ (l : List (List ℕ)). IsShard most l (end - from)) (sym (later more)) record {
    some = omega (arith, begun);
    within = (let l = length-append rest more in let i = inside in omega (arith, l, i));
    shortest = λ m less wrong.
        shortest m less (subst (IsFull most) (same more m (let i = inside in omega (arith, i, less))) wrong);
    ends = inl (subst (IsFull most) (sym (same more (end - from) inside)) full);
  };
} where
  rest : List (List ℕ)
  rest = drop from rs

  inside : end - from ≤ length rest
  inside = let e = length-drop from rs in omega (arith, e, begun, within)

  later : (more : List (List ℕ)) → drop from (rs ++ more) ≡ rest ++ more
  later more = drop-append-le from rs more (omega (arith, begun, within))

  same : (more : List (List ℕ)) (m : ℕ) → m ≤ length rest → take m (rest ++ more) ≡ take m rest
  same more m le = take-append-le m rest more le

-- the record that was read last made them full
pub shard_full : (rs : List (List ℕ)) (from most last bytes : ℕ) (r : List ℕ) (at_end : Bool)
    → IsRead rs from most last bytes → slice_get rs last ≡ Some r
    → (most ≤ last - from + 1) ⊎ (2 ^ 24 ≤ bytes + length r) → EndsShard rs from most at_end (last + 1)
shard_full rs from most last bytes r at_end h is full =
    shard_from rs from most (last + 1) at_end (let b = h.begun in omega (arith, b)) (omega (arith, low))
    (λ m less. not_full most rest n bytes h.grows m (let e = next in omega (arith, e, less)))
    (subst (λ (k : ℕ). IsFull most (take k rest)) next all_full)
  where
    low : last < length rs
    low = slice_get_within rs last r is

    n : ℕ
    n = last - from

    rest : List (List ℕ)
    rest = drop from rs

    inside : n < length rest
    inside = let e = length-drop from rs in let b = h.begun in let l = low in omega (arith, e, b, l)

    next : n + 1 ≡ last + 1 - from
    next = let b = h.begun in omega (arith, b)

    all_full : IsFull most (take (n + 1) rest)
    all_full = ⊎_elim (λ (many : most ≤ n + 1).
        inl (let l = length-take-le (n + 1) rest (let i = inside in omega (arith, i)) in omega (arith, l, many)))
        (λ (heavy : 2 ^ 24 ≤ bytes + length r). inr (let s = sum_by_more length rest n [] inside in let g =
        h.grows.sum in let e = ap length (at_place rs from last r h.begun is) in omega (arith, s, g, e, heavy))) full

-- as many records as a shard may have are one, if they hold fewer bytes
pub shard_by_count : (rs : List (List ℕ)) (from most end : ℕ) (at_end : Bool) → 1 ≤ most → end ≡ from + most
    → end ≤ length rs → bytes_in (take (end - from) (drop from rs)) < 2 ^ 24 → EndsShard rs from most at_end end
shard_by_count rs from most end at_end some is within light =
    shard_from rs from most end at_end (omega (arith, some, is)) within shortest
    (inl (let e = length-drop from rs in
    let l = length-take-le (end - from) (drop from rs) (omega (arith, e, is, within)) in omega (arith, l, is)))
  where
    rest : List (List ℕ)
    rest = drop from rs

    shortest : (m : ℕ) → m < end - from → ¬ IsFull most (take m rest)
    shortest m less (inl many) = let l = length-take m rest in absurd (omega (arith, many, l, less, is))
    shortest m less (inr heavy) =
        let fewer = sum_by-take-le length (take (end - from) rest) m in
        let same = ap bytes_in (take-take m (end - from) rest (omega (arith, less))) in
        absurd (omega (arith, heavy, fewer, same, light))

-- the records from a place on are fewer than a shard may have, and hold fewer bytes
pub rest_read : (rs : List (List ℕ)) (from most : ℕ) → from < length rs → length rs - from < most
    → bytes_in (take (length rs - from) (drop from rs)) < 2 ^ 24
    → IsRead rs from most (length rs) (bytes_in (take (length rs - from) (drop from rs)))
rest_read rs from most low few light = record {
  begun = omega (arith, low);
  within = omega arith;
  grows = record { within = (let e = length-drop from rs in omega (arith, e)); sum = refl; few = few; light = light };
}

-- all records were read
pub all_read : (rs : List (List ℕ)) (from most last bytes : ℕ) → IsRead rs from most last bytes → length rs ≤ last
    → IsRead rs from most (length rs) bytes
all_read rs from most last bytes h past = subst (λ (n : ℕ). IsRead rs from most n bytes)
    (let w = h.within in let e : last ≡ length rs = omega (arith, w, past) in e) h

pub shard_all : (rs : List (List ℕ)) (from most bytes : ℕ) (at_end : Bool) → IsRead rs from most (length rs) bytes
    → from < length rs → at_end ≡ true → EndsShard rs from most at_end (length rs)
shard_all rs from most bytes at_end h low is = record {
  within = (low, omega arith);
  shard = λ more done. subst (λ (l : List (List ℕ)). IsShard most (drop from (rs ++ l)) (length rs - from))
      (sym (done is))
      (subst (λ (l : List (List ℕ)). IsShard most (drop from l) (length rs - from)) (sym (append-nil rs)) shard);
} where
  rest : length (drop from rs) ≡ length rs - from
  rest = length-drop from rs

  shard : IsShard most (drop from rs) (length rs - from)
  shard = record {
    some = omega (arith, low);
    within = (let e = rest in omega (arith, e));
    shortest = λ m less. not_full most (drop from rs) (length rs - from) bytes h.grows m (omega (arith, less));
    ends = inr (sym rest);
  }

pub shard_open : (rs : List (List ℕ)) (from most bytes : ℕ) (at_end : Bool) → IsRead rs from most (length rs) bytes
    → at_end ≡ false → IsOpenAt rs from most at_end
shard_open rs from most bytes at_end h is = inr (
  is,
  λ m low. not_full most (drop from rs) (length rs - from) bytes h.grows m
      (let e = length-drop from rs in omega (arith, e, low)),
)

-- a shard isn't shorter than another one
no_shorter : (most : ℕ) (rs : List (List ℕ)) (n m : ℕ) → IsShard most rs n → IsShard most rs m → n < m → ⊥
no_shorter most rs n m a b less = ⊎_elim (λ (full : IsFull most (take n rs)). b.shortest n less full)
    (λ (all : n ≡ length rs). absurd (let w = b.within in omega (arith, all, w, less))) a.ends

-- records have one shard at their front
pub one_shard : (most : ℕ) (rs : List (List ℕ)) (n m : ℕ) → IsShard most rs n → IsShard most rs m → n ≡ m
one_shard most rs n m a b = by_order (nat_lt n m) (nat_lt m n) refl refl where
  by_order : (p q : Bool) → nat_lt n m ≡ p → nat_lt m n ≡ q → n ≡ m
  by_order true q is other = absurd (no_shorter most rs n m a b (ltb-true n m is))
  by_order false true is other = absurd (no_shorter most rs m n b a (ltb-true m n other))
  by_order false false is other = let x = ltb-false n m is in let y = ltb-false m n other in omega (arith, x, y)

pub shards_are_unique : ShardsAreUnique
shards_are_unique most rs [] [] a b = refl
shards_are_unique most rs [] (m ∷ ms) a b = absurd (let w = b.0.within in let s = b.0.some in let e = ap length a in
    let z : length rs ≡ 0 = e in omega (arith, w, s, z))
shards_are_unique most rs (n ∷ ns) [] a b = absurd (let w = a.0.within in let s = a.0.some in let e = ap length b in
    let z : length rs ≡ 0 = e in omega (arith, w, s, z))
shards_are_unique most rs (n ∷ ns) (m ∷ ms) a b =
    let same = one_shard most rs n m a.0 b.0 in
    let rest =
    shards_are_unique most (drop m rs) ns ms (subst (λ (k : ℕ). AreShards most (drop k rs) ns) same a.1) b.1 in
    ap (λ (k : ℕ). k ∷ ns) same ∙ ap (λ (l : List ℕ). m ∷ l) rest
