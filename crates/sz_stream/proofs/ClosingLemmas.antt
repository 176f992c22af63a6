-- How the shards of a round are closed, one after the other.
use Rattle.std.proofs.Common.{◌≡◌, ◌⊎◌, ℕ, zero, suc, ◌+◌, ◌-◌, ◌<◌, ◌≤◌, List, [], ◌∷◌, ◌++◌, length, take, drop, Bool, true, false, Option, Some, None}
use Rattle.std.proofs.Common.{refl, sym, ap, ◌∙◌, subst, arith, inl, inr, append-nil, append_assoc, length-append, length-drop}
use Rattle.std.proofs.lemmas.List.{drop-drop, take-take, take-append-le, nil_from_length}
use Rattle.std.proofs.lemmas.List.Sums.{sum_by-take-le}
use Rattle.std.specs.Prelude.{is_some, not, unwrap_or, IfSome, IfNone}
use Rattle.sz_records.specs.declared.ending.Ending.{Ending}
use Rattle.sz_records.specs.Ends.{RecordsData}
use Rattle.sz_records.specs.Shards.{bytes_in, IsFull, EndsShard, IsOpenAt, MayGoOn}
use Rattle.sz_attempt.specs.declared.job.Shard.{Shard}
use Rattle.sz_workers.specs.Cuts.{ranges_of}
use Rattle.sz_stream.specs.declared.intake.Intake.{Intake}
use Rattle.sz_stream.specs.Intakes.{IsClosed, sum_of, most_shards, most_records, most_bytes, AreTooMany, ReachesInto, HasFullRound, IsAnswered, Closes}
use Rattle.sz_stream.proofs.ShardLemmas.{is_closed, are_more, sum_within, ranges_append, sum-append}

-- the bytes of the records stay
pub items_stay : {old new : Intake} → Closes old new → new.round.records.items ≡ old.round.records.items
items_stay c = ap (λ (r : RecordsData). r.items) c.records

abbrev shard_of : ℕ → ℕ → ℕ → Shard
shard_of first start end = record { first = first; start = start; end = end }

-- one shard more
abbrev pub with_shards : Intake → List Shard → ℕ → Intake
with_shards intake shards end = record intake { round = record intake.round { shards = shards }; closed = end }

module _ (old now : Intake) (c : Closes old now) (low : old.closed ≤ length old.round.records.items) where
  -- there are so many records
  pub still_within : now.closed ≤ length now.round.records.items
  still_within =
      let within = sum_within old.most (is_some old.ending) (drop old.closed old.round.records.items) c.sizes c.are in
      omega (arith, low, within, c.closed, ap length (items_stay c), length-drop old.closed old.round.records.items)

  pub closes_more : (end : ℕ) (shards : List Shard)
      → EndsShard now.round.records.items now.closed now.most (is_some now.ending) end
      → shards ≡ now.round.shards ++ shard_of (now.first + now.closed) now.closed end ∷ []
      → length now.round.shards < most_shards
      → (0 < length now.round.shards → ¬ AreTooMany now.round.records.items end)
      → Closes old (with_shards now shards end)
  closes_more end shards ends is room fits = record {
    sizes = c.sizes ++ n ∷ [];
    are =
        are_more old.most (is_some old.ending) (drop old.closed old.round.records.items) c.sizes (n ∷ []) c.are
        (subst (λ rs. IsClosed old.most (is_some old.ending) rs n) (sym left) here, tt);
    shards =
        is ∙ ap (λ l. l ++ shard_of (now.first + now.closed) now.closed end ∷ []) c.shards
        ∙ append_assoc old.round.shards (ranges_of old.closed (old.first + old.closed) c.sizes)
        (shard_of (now.first + now.closed) now.closed end ∷ []) ∙ ap (λ l. old.round.shards ++ l)
        (ap (λ s. ranges_of old.closed (old.first + old.closed) c.sizes ++ s ∷ []) same
        ∙ sym (ranges_append old.closed (old.first + old.closed) c.sizes (n ∷ [])));
    fits = λ before. record {
      few = omega (arith, one_more, room);
      small = λ some. fits (omega (arith, one_more, some));
    };
    closed = omega (arith, c.closed, sum-append c.sizes (n ∷ []), ends.within.0);
    records = c.records;
    first_shard = c.first_shard;
    passed = c.passed;
    first = c.first;
    framer = c.framer;
    ending = c.ending;
    limit = c.limit;
  }
    where
      n : ℕ
      n = end - now.closed

      one_more : length shards ≡ length now.round.shards + 1
      one_more = ap length is ∙ length-append now.round.shards (shard_of (now.first + now.closed) now.closed end ∷ [])

      here : IsClosed old.most (is_some old.ending) (drop now.closed old.round.records.items) (end - now.closed)
      here =
          subst (λ rs. IsClosed old.most (is_some old.ending) (drop now.closed rs) (end - now.closed)) (items_stay c)
          (subst
          (λ e. IsClosed old.most (is_some e) (drop now.closed now.round.records.items) (end - now.closed)) c.ending
          (subst
          (λ m. IsClosed m (is_some now.ending) (drop now.closed now.round.records.items) (end - now.closed)) c.limit
          (is_closed now.most (is_some now.ending) now.round.records.items now.closed end ends)))

      left : drop (sum_of c.sizes) (drop old.closed old.round.records.items) ≡ drop now.closed old.round.records.items
      left = drop-drop (sum_of c.sizes) old.closed old.round.records.items
          ∙ ap (λ k. drop k old.round.records.items) (sym c.closed)

      shard_same : (a b d e f h : ℕ) → a ≡ b → d ≡ e → f ≡ h → shard_of a d f ≡ shard_of b e h
      shard_same a b d e f h p q r = cc

      same : shard_of (now.first + now.closed) now.closed end
          ≡ shard_of (old.first + old.closed + sum_of c.sizes) (old.closed + sum_of c.sizes)
          (old.closed + sum_of c.sizes + (end - now.closed))
      same =
          shard_same (now.first + now.closed)
          (old.first + old.closed + sum_of c.sizes) now.closed (old.closed + sum_of c.sizes) end
          (old.closed + sum_of c.sizes + (end - now.closed))
          (omega (arith, c.first, c.closed)) c.closed (omega (arith, c.closed, ends.within.0))

-- what is known of the next shard, by what was found
pub found_within : (records : List (List ℕ)) (from most : ℕ) (at_end : Bool) (found : Option ℕ) (end all : ℕ)
    → IfSome found (λ end. EndsShard records from most at_end end) → end ≡ unwrap_or found all → all ≡ length records
    → end ≤ length records
found_within records from most at_end None end all ends is same = omega (arith, is, same)
found_within records from most at_end (Some found) end all ends is same = omega (arith, is, ends.within.1)

pub found_after : (records : List (List ℕ)) (from most : ℕ) (at_end : Bool) (found : Option ℕ) (end all : ℕ)
    → IfSome found (λ end. EndsShard records from most at_end end) → end ≡ unwrap_or found all → all ≡ length records
    → from ≤ length records → from ≤ end
found_after records from most at_end None end all ends is same low = omega (arith, is, same, low)
found_after records from most at_end (Some found) end all ends is same low = omega (arith, is, ends.within.0)

pub found_ends : (records : List (List ℕ)) (from most : ℕ) (at_end : Bool) (found : Option ℕ) (end all : ℕ)
    → IfSome found (λ end. EndsShard records from most at_end end) → end ≡ unwrap_or found all → is_some found ≡ true
    → EndsShard records from most at_end end
found_ends records from most at_end None end all ends is some = absurd cc
found_ends records from most at_end (Some found) end all ends is some =
    subst (EndsShard records from most at_end) (sym is) ends

pub found_open : (records : List (List ℕ)) (from most : ℕ) (at_end : Bool) (found : Option ℕ)
    → IfNone found (IsOpenAt records from most at_end) → is_some found ≡ false → IsOpenAt records from most at_end
found_open records from most at_end None opened none = opened
found_open records from most at_end (Some end) opened none = absurd cc

pub found_all : (found : Option ℕ) (end all n : ℕ) → is_some found ≡ false → end ≡ unwrap_or found all
    → all ≡ n → end ≡ n
found_all None end all n none is same = is ∙ same
found_all (Some found) end all n none is same = absurd cc

-- where fewer records are too many, more are
pub more_are_many : (records : List (List ℕ)) (n m : ℕ) → n ≤ m → AreTooMany records n → AreTooMany records m
more_are_many records n m le (inl many) = inl (omega (arith, le, many))
more_are_many records n m le (inr large) =
    let fewer = sum_by-take-le length (take m records) n in
    let same = ap bytes_in (take-take n m records le) in
    inr (omega (arith, large, fewer, same))

-- records behind the first n count for nothing
pub same_front : (records added : List (List ℕ)) (n : ℕ) → n ≤ length records → AreTooMany (records ++ added) n
    → AreTooMany records n
same_front records added n le many =
    subst (λ rs. (most_records < n) ⊎ (most_bytes < bytes_in rs)) (take-append-le n records added le) many

-- no front of what is left is a shard as long as more may come
may_go_on : (records : List (List ℕ)) (from most : ℕ) (at_end : Bool) → 1 ≤ most → IsOpenAt records from most at_end
    → MayGoOn most (drop from records)
may_go_on records from most at_end low (inr more) = more.1
may_go_on records from most at_end low (inl none) = subst (MayGoOn most) (sym empty) none_is_full
  where
    empty : drop from records ≡ []
    empty = nil_from_length (drop from records) (omega (arith, none, length-drop from records))

    none_is_full : MayGoOn most []
    none_is_full zero le (inl many) = absurd (omega (arith, many, low))
    none_is_full zero le (inr large) = absurd (omega (arith, large))
    none_is_full (suc m) le full = absurd (omega (arith, le))

module _ (now : Intake) (most : 1 ≤ now.most) where
  -- the next shard is at hand as far as it was found, and no further
  pub reaches_found : (at_end : Bool) (found : Option ℕ) (end all : ℕ) → now.closed ≤ length now.round.records.items
      → IfSome found (λ end. EndsShard now.round.records.items now.closed now.most at_end end)
      → IfNone found (IsOpenAt now.round.records.items now.closed now.most at_end) → end ≡ unwrap_or found all
      → all ≡ length now.round.records.items → ReachesInto now end
  reaches_found at_end None end all low ends opened is same = subst (ReachesInto now) (sym (is ∙ same)) (record {
    within = (low, omega arith);
    next = λ m less.
        may_go_on now.round.records.items now.closed now.most at_end most opened m
        (omega (arith, less, length-drop now.closed now.round.records.items));
  })
  reaches_found at_end (Some found) end all low ends opened is same = subst (ReachesInto now) (sym is) (record {
    within = (omega (arith, ends.within.0), ends.within.1);
    next = λ m less. subst (λ rs. ¬ IsFull now.most (take m (drop now.closed rs))) (append-nil now.round.records.items)
        ((ends.shard [] (λ e. refl)).shortest m less);
  })

  -- a round with room for all that is at hand isn't full
  room_for_all : length now.round.shards < most_shards
      → (0 < length now.round.shards → ¬ AreTooMany now.round.records.items (length now.round.records.items))
      → ¬ HasFullRound now
  room_for_all few fits (inl many) = absurd (omega (arith, few, many))
  room_for_all few fits (inr none) =
      fits none.some (more_are_many now.round.records.items none.count (length now.round.records.items)
      none.reaches.within.1 none.many)

  -- no shard can be closed any more
  pub answers_open : (at_end wants : Bool) → IsOpenAt now.round.records.items now.closed now.most at_end
      → at_end ≡ is_some now.ending → wants ≡ not at_end → length now.round.shards < most_shards
      → (0 < length now.round.shards → ¬ AreTooMany now.round.records.items (length now.round.records.items))
      → IsAnswered now wants
  answers_open true wants opened is answer few fits = subst (IsAnswered now) (sym answer) (inr (sym is, by opened))
    where
      by : (length now.round.records.items ≤ now.closed)
          ⊎ ((true ≡ false) × MayGoOn now.most (drop now.closed now.round.records.items))
          → length now.round.records.items ≤ now.closed
      by (inl le) = le
      by (inr more) = absurd (let no = more.0 in cc)
  answers_open false wants opened is answer few fits = subst (IsAnswered now) (sym answer) (record {
    unknown = unknown now.ending is;
    part = may_go_on now.round.records.items now.closed now.most false most opened;
    room = room_for_all few fits;
  })
    where
      unknown : (e : Option Ending) → false ≡ is_some e → e ≡ None
      unknown None e = refl
      unknown (Some w) e = absurd cc
