-- A table that is joined to what is kept while it is read.
use Rattle.std.proofs.Common.{◌≡◌, ◌∙◌, ℕ, zero, suc, ◌+◌, ◌-◌, ◌*◌, ◌^◌, ◌<◌, ◌≤◌, ◌==◌, Bool, true, false, true≢false, not, ◌&&◌, ◌||◌, Option, Some, None, List, [], ◌∷◌, ◌++◌, length, drop, refl, sym, ap, subst, arith, append_assoc, append-nil}
use Rattle.std.specs.List.{AllByRecursion}
use Rattle.std.proofs.lemmas.Bool.{and_parts, and_from}
use Rattle.std.proofs.lemmas.List.{length-append}
use Rattle.sz_types.specs.Data.{Shape}
use Rattle.sz_types.specs.Tables.{Declaration}
use Rattle.sz_types.specs.declared.table.TableKind.{TableKind}
use Rattle.sz_types.specs.declared.table.TableKind.TheVariants.{Sum, Maximum, Minimum, Set, Collection}
use Rattle.sz_total.specs.Tables.{Indexed}
use Rattle.sz_save_format.specs.Entries.{components, HaveRows, entry_may_follow, in_order}
use Rattle.sz_save_format.specs.declared.error.SavedError.{SavedError}
use Rattle.sz_save_format.specs.Decoding.{Decoder, and_then, only, put_first, many_at, Stops}
use Rattle.sz_save_format.specs.DecodingRows.{count_at, long_counted_at, entry_at, are_entries, entries_at}
use Rattle.sz_save_format.proofs.FrontLemmas.{none_some, found_is, then_some, after, many_goes, many_stops, many_ends, stops_too}
use Rattle.sz_save_format.proofs.LoopLemmas.{long_begins, long_lacks}
use Rattle.sz_save_format.proofs.EntryLemmas.{entry_finds}
use Rattle.sz_save.specs.Walk.{joined_entries, HasSums, CanJoin, HasCountedRows}
use Rattle.sz_save.specs.Reading.{last_indexes, is_above, KeepSums, GoesOn, CanTakeMore}
use Rattle.sz_save.proofs.JoinLemmas.{row_sums}
use Rattle.sz_save.proofs.PassingLemmas.{dropped_twice, last_pushed}

-- ---- sums that are kept, and one entry more

sums_dropped : (count most : ℕ) (n : ℕ) (kept : List Indexed) → AllByRecursion (HasSums count most) kept
    → AllByRecursion (HasSums count most) (drop n kept)
sums_dropped count most zero kept h = h
sums_dropped count most (suc n) [] h = tt
sums_dropped count most (suc n) (k ∷ kept) h = sums_dropped count most n kept h.1

-- an entry that was read can be joined to what is left of what is kept
entry_can : (kind : TableKind) (element : Shape) (most bound limit n : ℕ) (kept left : List Indexed) (e : Indexed)
    → KeepSums kind (components element) most kept
    → most + bound * 2 ^ 63 ≤ 2 ^ 126 → left ≡ drop n kept → HaveRows kind bound limit element e.rows
    → CanJoin kind left (e ∷ [])
entry_can Sum element most bound limit n kept left e sums few is h = record {
  count = components element;
  most = most;
  others_most = bound * 2 ^ 63;
  low = few;
  each = subst (AllByRecursion (HasSums (components element) most)) (sym is)
      (sums_dropped (components element) most n kept sums);
  each_other = (row_sums bound element e.rows h, tt);
}
entry_can Maximum element most bound limit n kept left e sums few is h = tt
entry_can Minimum element most bound limit n kept left e sums few is h = tt
entry_can Set element most bound limit n kept left e sums few is h = tt
entry_can Collection element most bound limit n kept left e sums few is h = tt

none_can : (kind : TableKind) (count most n : ℕ) (kept left : List Indexed) → KeepSums kind count most kept
    → most ≤ 2 ^ 126 → left ≡ drop n kept → CanJoin kind left []
none_can Sum count most n kept left sums few is = record {
  count = count;
  most = most;
  others_most = 0;
  low = omega (arith, few);
  each = subst (AllByRecursion (HasSums count most)) (sym is) (sums_dropped count most n kept sums);
  each_other = tt;
}
none_can Maximum count most n kept left sums few is = tt
none_can Minimum count most n kept left sums few is = tt
none_can Set count most n kept left sums few is = tt
none_can Collection count most n kept left sums few is = tt

-- ---- whether index lists rise, one more at their end

order_pushed : (es : List Indexed) (e : Indexed) → in_order entry_may_follow es ≡ true
    → is_above (last_indexes es) e.indexes ≡ true → in_order entry_may_follow (es ++ e ∷ []) ≡ true
order_pushed [] e rise above = refl
order_pushed (x ∷ []) e rise above = and_from (entry_may_follow x e) true above refl
order_pushed (x ∷ y ∷ es) e rise above =
    let both = and_parts (entry_may_follow x y) (in_order entry_may_follow (y ∷ es)) rise in
    and_from (entry_may_follow x y)
    (in_order entry_may_follow (y ∷ (es ++ e ∷ []))) both.0 (order_pushed (y ∷ es) e both.1 above)

no_second : (b : Bool) (c : Bool) → c ≡ false → (b && c) ≡ false
no_second true c h = h
no_second false c h = refl

order_broken : (es : List Indexed) (e : Indexed) (more : List Indexed) → is_above (last_indexes es) e.indexes ≡ false
    → in_order entry_may_follow (es ++ e ∷ more) ≡ false
order_broken [] e more above = absurd (true≢false above)
order_broken (x ∷ []) e more above = ap (λ b. b && in_order entry_may_follow (e ∷ more)) above
order_broken (x ∷ y ∷ es) e more above =
    no_second (entry_may_follow x y) (in_order entry_may_follow (y ∷ (es ++ e ∷ more)))
    (order_broken (y ∷ es) e more above)

-- ---- so many of them

pub many_long : {X : Type 0} (read : Decoder X) (n : ℕ) (flat : List ℕ) (xs : List X) (rest : List ℕ)
    → many_at read n flat ≡ Some (xs, rest) → length xs ≡ n
many_long read zero flat xs rest e = sym (ap length (found_is [] xs flat rest e).0)
many_long read (suc n) flat xs rest e =
    let first = then_some (read flat) (λ x mid. put_first x (many_at read n mid)) (xs, rest) e in
    let later = first_put first.0 (many_at read n first.1) xs rest first.3 in
    let long = many_long read n first.1 later.0 rest later.1 in
    sym (ap length later.2) ∙ (omega (arith, long))
  where
    first_put : {X : Type 0} (x : X) (o : Option (List X × List ℕ)) (ys : List X) (more : List ℕ)
        → put_first x o ≡ Some (ys, more) → (zs : List X) × (o ≡ Some (zs, more)) × (x ∷ zs ≡ ys)
    first_put x None ys more f = absurd (none_some f)
    first_put x (Some found) ys more f = let p = found_is (x ∷ found.0) ys found.1 more f in
        (found.0, (λ i. Some (found.0, p.1 i)), p.0)

-- ---- all index lists of a table

module _ (bound : ℕ) (table : Declaration) (flat : List ℕ) where
  abbrev read : Decoder Indexed
  read = entry_at bound table

  abbrev if_entries : List Indexed → List ℕ → Option (List Indexed × List ℕ)
  if_entries entries rest = only (are_entries bound entries) (Some (entries, rest))

  pub lists_lack : long_counted_at read flat ≡ None → entries_at bound table flat ≡ None
  unfolding entries_at
  lists_lack none = ap (λ o. and_then o if_entries) none

  lists_fail : (entries : List Indexed) (rest : List ℕ) → long_counted_at read flat ≡ Some (entries, rest)
      → are_entries bound entries ≡ false → entries_at bound table flat ≡ None
  unfolding entries_at
  lists_fail entries rest found is = ap (λ o. and_then o if_entries) found ∙ ap (λ b. only b (Some (entries, rest))) is

  pub lists_found : (entries : List Indexed) (rest : List ℕ) → long_counted_at read flat ≡ Some (entries, rest)
      → are_entries bound entries ≡ true → entries_at bound table flat ≡ Some (entries, rest)
  unfolding entries_at
  lists_found entries rest found is = ap (λ o. and_then o if_entries) found ∙ ap (λ b. only b (Some (entries, rest))) is

  -- a bound of 0 has no index lists
  pub some_at_zero : (count : ℕ) (rest : List ℕ) → count_at flat ≡ Some (count, rest)
      → (not (bound == 0) || count == 0) ≡ false → entries_at bound table flat ≡ None
  unfolding long_counted_at
  some_at_zero count rest head some = by_found (many_at read count rest) refl
    where
      counted : (found : Option (List Indexed × List ℕ)) → many_at read count rest ≡ found
          → long_counted_at read flat ≡ found
      counted found is = ap (λ o. and_then o (λ n mid. many_at read n mid)) head ∙ is

      by_found : (found : Option (List Indexed × List ℕ)) → many_at read count rest ≡ found
          → entries_at bound table flat ≡ None
      by_found None is = lists_lack (counted None is)
      by_found (Some p) is =
          let long = many_long read count rest p.0 p.1 is in
          lists_fail p.0 p.1 (counted (Some p) is)
          (ap (λ n. (not (bound == 0) || n == 0) && in_order entry_may_follow p.0) long
          ∙ ap (λ b. b && in_order entry_may_follow p.0) some)

  pub count_stops : (e : SavedError) → Stops (count_at flat) e → Stops (entries_at bound table flat) e
  count_stops e stop =
      stops_too (count_at flat) (entries_at bound table flat) e (λ none. lists_lack (long_lacks read flat none)) stop

  -- what was read so far, and joined to what is kept
  pub record ReadSoFar (kept : List Indexed) (count i : ℕ) (rest : List ℕ) (joined left : List Indexed) : Type 0 where
    pub done : List Indexed
    pub decoded : long_counted_at (entry_at bound table) flat
        ≡ after done (many_at (entry_at bound table) (count - i) rest)
    pub walk : (more : List Indexed) → joined_entries table.kind table.limit kept (done ++ more)
        ≡ joined ++ joined_entries table.kind table.limit left more
    pub rises : in_order entry_may_follow done ≡ true
    pub last : last_indexes joined ≡ last_indexes done
    pub few : AllByRecursion HasCountedRows joined
    pub cut : ℕ
    pub dropped : left ≡ drop cut kept
    pub long : length done ≡ i
    pub within : i ≤ count

  module _ (kept : List Indexed) (count : ℕ) where
    pub reading_begins : (rest : List ℕ) (joined left : List Indexed) → count_at flat ≡ Some (count, rest)
        → joined ≡ [] → left ≡ kept → ReadSoFar kept count 0 rest joined left
    reading_begins rest joined left head none all = record {
      done = [];
      decoded = long_begins (entry_at bound table) flat count rest head;
      walk = λ more. λ i. sym none i ++ joined_entries table.kind table.limit (sym all i) more;
      rises = refl;
      last = ap last_indexes none;
      few = subst (AllByRecursion HasCountedRows) (sym none) tt;
      cut = 0;
      dropped = all;
      long = refl;
      within = omega arith;
    }

    module _ (i : ℕ) (rest : List ℕ) (joined left : List Indexed) (far : ReadSoFar kept count i rest joined left)
        (less : i < count) where
      -- nothing is there
      reading_lacks : entry_at bound table rest ≡ None → entries_at bound table flat ≡ None
      reading_lacks none = lists_lack
          (many_stops (entry_at bound table)
          (long_counted_at (entry_at bound table) flat) far.done rest count i less none far.decoded)

      pub entry_stops : (e : SavedError) → Stops (entry_at bound table rest) e → Stops (entries_at bound table flat) e
      entry_stops e stop = stops_too (entry_at bound table rest) (entries_at bound table flat) e reading_lacks stop

      module _ (e : Indexed) (after_it : List ℕ) (found : entry_at bound table rest ≡ Some (e, after_it)) where
        one_more : long_counted_at (entry_at bound table) flat
            ≡ after (far.done ++ e ∷ []) (many_at (entry_at bound table) (count - (i + 1)) after_it)
        one_more = many_goes (entry_at bound table)
            (long_counted_at (entry_at bound table) flat) far.done rest count i e after_it less found far.decoded

        -- it isn't above the one before it
        pub reading_breaks : is_above (last_indexes joined) e.indexes ≡ false → entries_at bound table flat ≡ None
        reading_breaks above = by_found (many_at (entry_at bound table) (count - (i + 1)) after_it) refl
          where
            not_above : is_above (last_indexes far.done) e.indexes ≡ false
            not_above = ap (λ o. is_above o e.indexes) (sym far.last) ∙ above

            by_found : (o : Option (List Indexed × List ℕ))
                → many_at (entry_at bound table) (count - (i + 1)) after_it ≡ o → entries_at bound table flat ≡ None
            by_found None is = lists_lack (one_more ∙ ap (after (far.done ++ e ∷ [])) is)
            by_found (Some p) is =
                let entries = (far.done ++ e ∷ []) ++ p.0 in
                lists_fail entries p.1 (one_more ∙ ap (after (far.done ++ e ∷ [])) is)
                (no_second (not (bound == 0) || length entries == 0) (in_order entry_may_follow entries)
                (ap (in_order entry_may_follow) (append_assoc far.done (e ∷ []) p.0)
                ∙ order_broken far.done e p.0 not_above))

        -- it is joined
        pub reading_goes : (now rest_left : List Indexed) → is_above (last_indexes joined) e.indexes ≡ true
            → GoesOn table.kind table.limit (e ∷ []) joined left [] now rest_left → last_indexes now ≡ Some e.indexes
            → ReadSoFar kept count (i + 1) after_it now rest_left
        reading_goes now rest_left above goes last = record {
          done = far.done ++ e ∷ [];
          decoded = one_more;
          walk = λ more. ap (joined_entries table.kind table.limit kept) (append_assoc far.done (e ∷ []) more)
              ∙ far.walk (e ∷ more) ∙ goes.is more;
          rises = order_pushed far.done e far.rises (ap (λ o. is_above o e.indexes) (sym far.last) ∙ above);
          last = last ∙ sym (last_pushed far.done e);
          few = goes.few far.few;
          cut = far.cut + goes.cut;
          dropped = goes.dropped ∙ ap (drop goes.cut) far.dropped ∙ dropped_twice far.cut goes.cut kept;
          long = let both = length-append far.done (e ∷ []) in omega (arith, both, far.long);
          within = omega (arith, less);
        }

    -- what is asked of the sums where an entry was read
    pub reading_can : (i : ℕ) (rest : List ℕ) (joined left : List Indexed) → ReadSoFar kept count i rest joined left
        → CanTakeMore bound table kept → (e : Indexed)
        (after_it : List ℕ) → entry_at bound table rest ≡ Some (e, after_it) → CanJoin table.kind left (e ∷ [])
    reading_can i rest joined left far can e after_it found =
        let saved = (entry_finds bound table can.low can.short).sound rest e after_it found in
        entry_can table.kind table.element can.most bound table.limit far.cut kept left e
        can.sums can.few far.dropped saved.0.rows

    module _ (i : ℕ) (rest : List ℕ) (joined left : List Indexed) (far : ReadSoFar kept count i rest joined left)
        (last : count ≤ i) where
      pub rest_can : CanTakeMore bound table kept → CanJoin table.kind left []
      rest_can can = none_can table.kind (components table.element) can.most far.cut kept left can.sums
          (omega (arith, can.few)) far.dropped

      -- all of them were read
      pub reading_ends : (not (bound == 0) || count == 0) ≡ true → entries_at bound table flat ≡ Some (far.done, rest)
      reading_ends some =
          let found = many_ends (entry_at bound table)
          (long_counted_at (entry_at bound table) flat) far.done rest count i last far.decoded in
          let same : count ≡ length far.done = omega (arith, last, far.long, far.within) in
          lists_found far.done rest found
          (and_from (not (bound == 0) || length far.done == 0) (in_order entry_may_follow far.done)
          (ap (λ n. not (bound == 0) || n == 0) (sym same) ∙ some) far.rises)

      pub all_joined : (all : List Indexed) → all ≡ joined ++ joined_entries table.kind table.limit left []
          → all ≡ joined_entries table.kind table.limit kept far.done
      all_joined all is = is ∙ sym (far.walk []) ∙ ap (joined_entries table.kind table.limit kept) (append-nil far.done)
