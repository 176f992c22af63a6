-- Index lists that are dealt to parts: each part gets its share, and the same is shown.
use Rattle.std.proofs.Common.{◌≡◌, ◌∙◌, ℕ, zero, suc, ◌≤◌, ◌<◌, ◌⊎◌, inl, inr, Bool, true, false, cond, true≢false, Some, None, List, [], ◌∷◌}
use Rattle.std.proofs.Common.{◌++◌, length, refl, sym, ap, subst, arith, nat_eq, is_some}
use Rattle.std.specs.Option.{option_map_or}
use Rattle.std.specs.List.{AllByRecursion, IsDistinct}
use Rattle.std.specs.Map.{keys_of, values_of, lookup}
use Rattle.std.proofs.lemmas.Bool.{eq-eqb, eqb-true}
use Rattle.std.proofs.lemmas.List.{append-nil, length-append}
use Rattle.std.proofs.lemmas.List.Elements.{All-nil, All-cons, All-head, All-tail, filter-append}
use Rattle.std.proofs.lemmas.Option.{slice_get-get_or, slice_get_within, get_or_from_slice_get}
use Rattle.std.proofs.lemmas.Map.Keys.{IsDistinct-head, IsDistinct-tail}
use Rattle.std.proofs.lemmas.Map.Made.{is_some-lookup}
use Rattle.sz_types.specs.Tables.{Declaration}
use Rattle.sz_value.specs.Data.{Datum}
use Rattle.sz_total.specs.Aggregates.{shown_of}
use Rattle.sz_total.specs.Entries.{Entries, same_indexes, rows_in_order, IsOfTable, AreOfTable}
use Rattle.sz_total.specs.Parts.{PartState, empty_part, part_at, part_of, entries_of, IsPlaced, ArePlaced, ArePartsOf, AreSettled}
use Rattle.sz_total.specs.Dealing.{lies_in, share_of, HasShare, HaveShares, MayPut, PutsLast}
use Rattle.sz_total.specs.declared.aggregate.Aggregate.{Aggregate}
use Rattle.sz_total.proofs.ListLemmas.{same_laws, same_is}
use Rattle.sz_total.proofs.PartLemmas.{found_in_part, shown_alike, nothing_past}
use Rattle.sz_total.proofs.PartsLemmas.{as_many_set, written, unwritten}

-- one of two numbers is less, or as great
pub below : (m n : ℕ) → (m < n) ⊎ (n ≤ m)
below m zero = inr (omega arith)
below zero (suc n) = inl (omega arith)
below (suc m) (suc n) = by_rest (below m n)
  where
    by_rest : (m < n) ⊎ (n ≤ m) → (suc m < suc n) ⊎ (suc n ≤ suc m)
    by_rest (inl less) = inl (omega (arith, less))
    by_rest (inr more) = inr (omega (arith, more))

-- the share of a part has what lies in it
found_in_share : (entries : Entries) (indexes : List Datum)
    → lookup (same_indexes indexes) (share_of (part_of 16 indexes) entries) ≡ lookup (same_indexes indexes) entries
found_in_share [] indexes = refl
found_in_share (e ∷ es) indexes = by_test (lies_in (part_of 16 indexes) e) refl (found_in_share es indexes)
  where
    other : lies_in (part_of 16 indexes) e ≡ false → (b : Bool) → same_indexes indexes e.0 ≡ b
        → same_indexes indexes e.0 ≡ false
    other elsewhere true same =
        absurd (true≢false (sym (eq-eqb (part_of 16 e.0) (part_of 16 indexes)
        (ap (part_of 16) (sym (same_is indexes e.0 same)))) ∙ elsewhere))
    other elsewhere false same = same

    by_test : (b : Bool) → lies_in (part_of 16 indexes) e ≡ b
        → lookup (same_indexes indexes) (share_of (part_of 16 indexes) es) ≡ lookup (same_indexes indexes) es
        → lookup (same_indexes indexes)
        (cond b (e ∷ share_of (part_of 16 indexes) es) (share_of (part_of 16 indexes) es))
        ≡ lookup (same_indexes indexes) (e ∷ es)
    by_test true here later = ap (cond (same_indexes indexes e.0) (Some e.1)) later
    by_test false elsewhere later =
        later ∙ ap (λ b. cond b (Some e.1) (lookup (same_indexes indexes) es))
        (sym (other elsewhere (same_indexes indexes e.0) refl))

-- and has nothing else
placed_share : (at : ℕ) (entries : Entries) → IsPlaced 16 at (share_of at entries)
placed_share at [] = tt
placed_share at (e ∷ es) = by_test (lies_in at e) refl (placed_share at es)
  where
    by_test : (b : Bool) → lies_in at e ≡ b → IsPlaced 16 at (share_of at es)
        → IsPlaced 16 at (cond b (e ∷ share_of at es) (share_of at es))
    by_test true here later = (eqb-true (part_of 16 e.0) at here, later)
    by_test false elsewhere later = later

of_table_share : (table : Declaration) (count at : ℕ) (entries : Entries) → AreOfTable table count entries
    → AreOfTable table count (share_of at entries)
of_table_share table count at [] are = are
of_table_share table count at (e ∷ es) are =
    by_test (lies_in at e) (of_table_share table count at es (All-tail (IsOfTable table count) e.1 (values_of es) are))
  where
    by_test : (b : Bool) → AreOfTable table count (share_of at es)
        → AreOfTable table count (cond b (e ∷ share_of at es) (share_of at es))
    by_test true later =
        All-cons (IsOfTable table count) e.1 (values_of (share_of at es))
        (All-head (IsOfTable table count) e.1 (values_of es) are) later
    by_test false later = later

-- all entries were dealt
module _ (entries : Entries) (parts : List PartState) (dealt : HaveShares entries [] parts) where
  nothing_else : (at : ℕ) → 16 ≤ at → part_at parts at ≡ empty_part
  nothing_else at past = nothing_past parts at (omega (arith, past, dealt.as_many))

  placed_by_number : (at : ℕ) → IsPlaced 16 at (part_at parts at).entries
  placed_by_number at = by_place (below at 16)
    where
      by_place : (at < 16) ⊎ (16 ≤ at) → IsPlaced 16 at (part_at parts at).entries
      by_place (inl less) = subst (IsPlaced 16 at) (sym (dealt.each at less).entries) (placed_share at entries)
      by_place (inr past) = subst (λ (p : PartState). IsPlaced 16 at p.entries) (sym (nothing_else at past)) tt

  pub placed_dealt : ArePlaced parts
  placed_dealt = subst (λ c. (at : ℕ) → IsPlaced c at (part_at parts at).entries) (sym dealt.as_many) placed_by_number

  pub settled_dealt : AreSettled parts
  settled_dealt at = by_place (below at 16)
    where
      by_place : (at < 16) ⊎ (16 ≤ at) → (part_at parts at).arriving ≡ []
      by_place (inl less) = (dealt.each at less).arriving
      by_place (inr past) = ap (λ (p : PartState). p.arriving) (nothing_else at past)

  pub parts_of_dealt : (table : Declaration) (count : ℕ) → AreOfTable table count entries → ArePartsOf table count parts
  parts_of_dealt table count are at = by_place (below at 16)
    where
      by_place : (at < 16) ⊎ (16 ≤ at) → AreOfTable table count (part_at parts at).entries
      by_place (inl less) = subst (AreOfTable table count) (sym (dealt.each at less).entries)
          (of_table_share table count at entries are)
      by_place (inr past) =
          subst (λ (p : PartState). AreOfTable table count p.entries) (sym (nothing_else at past))
          (All-nil (IsOfTable table count))

  found_dealt : ((indexes : List Datum) → part_of 16 indexes < 16) → (indexes : List Datum)
      → lookup (same_indexes indexes) (entries_of parts) ≡ lookup (same_indexes indexes) entries
  found_dealt within indexes =
      found_in_part 16 parts placed_by_number indexes
      ∙ ap (lookup (same_indexes indexes)) (dealt.each (part_of 16 indexes) (within indexes)).entries
      ∙ found_in_share entries indexes

  pub shown_dealt : ((indexes : List Datum) → part_of 16 indexes < 16)
      → rows_in_order (entries_of parts) ≡ rows_in_order entries
  shown_dealt within =
      shown_alike (entries_of parts) entries
      (λ indexes.
      sym (is_some-lookup (same_indexes indexes) (entries_of parts)) ∙ ap is_some (found_dealt within indexes)
      ∙ is_some-lookup (same_indexes indexes) entries)
      (λ indexes. ap (λ found. option_map_or shown_of found []) (found_dealt within indexes))

-- what stands later isn't in front, where no two are the same
middle : (P : List Datum → Type 0) (front : Entries) (key : List Datum) (a : Aggregate) (rest : Entries)
    → AllByRecursion P (keys_of (front ++ (key, a) ∷ rest)) → P key
middle P [] key a rest all = all.0
middle P (e ∷ es) key a rest all = middle P es key a rest all.1

not_in_front : (front : Entries) (key : List Datum) (a : Aggregate) (rest : Entries)
    → IsDistinct same_indexes (keys_of (front ++ (key, a) ∷ rest))
    → lookup (same_indexes key) front ≡ None
not_in_front [] key a rest apart = refl
not_in_front (e ∷ es) key a rest apart =
    ap (λ b. cond b (Some e.1) (lookup (same_indexes key) es))
    (same_laws.symm key e.0
    ∙ middle (λ k. same_indexes e.0 k ≡ false) es key a rest
    (IsDistinct-head same_indexes e.0 (keys_of (es ++ (key, a) ∷ rest)) apart))
    ∙ not_in_front es key a rest (IsDistinct-tail same_indexes e.0 (keys_of (es ++ (key, a) ∷ rest)) apart)

-- shares of one entry more
pub share_here : (key : List Datum) (a : Aggregate) (entries : Entries)
    → share_of (part_of 16 key) ((key, a) ∷ entries) ≡ (key, a) ∷ share_of (part_of 16 key) entries
share_here key a entries =
    ap (λ b. cond b ((key, a) ∷ share_of (part_of 16 key) entries) (share_of (part_of 16 key) entries))
    (eq-eqb (part_of 16 key) (part_of 16 key) refl)

pub share_elsewhere : (at : ℕ) (key : List Datum) (a : Aggregate) (entries : Entries)
    → nat_eq (part_of 16 key) at ≡ false → share_of at ((key, a) ∷ entries) ≡ share_of at entries
share_elsewhere at key a entries other = ap (λ b. cond b ((key, a) ∷ share_of at entries) (share_of at entries)) other

-- the next entry is dealt
module _ (first rest : Entries) (key : List Datum) (a : Aggregate) (parts : List PartState)
    (within : part_of 16 key < 16)
    (shares : HaveShares first ((key, a) ∷ rest) parts) where
  abbrev place : ℕ
  place = part_of 16 key

  own : HasShare place first ((key, a) ∷ rest) (part_at parts place)
  own = shares.each place within

  pub may_put : IsDistinct same_indexes (keys_of (first ++ (key, a) ∷ rest)) → MayPut key parts
  may_put apart = record {
    many = shares.as_many;
    own = part_at parts place;
    there = slice_get-get_or parts place empty_part (omega (arith, within, shares.as_many));
    absent = ap (lookup (same_indexes key)) own.entries ∙ found_in_share first key
        ∙ not_in_front first key a rest apart;
    room = omega (arith, own.room, ap length own.entries, ap length (share_here key a rest));
  }

  module _ (new : List PartState) (puts : PutsLast key a parts new) where
    abbrev after : PartState
    after = record { entries = puts.own.entries ++ (key, a) ∷ []; room = puts.own.room; arriving = puts.own.arriving }

    inside : place < length parts
    inside = slice_get_within parts place puts.own puts.there

    own_is : part_at parts place ≡ puts.own
    own_is = get_or_from_slice_get parts place puts.own empty_part puts.there

    share_more : share_of place (first ++ (key, a) ∷ []) ≡ share_of place first ++ (key, a) ∷ []
    share_more = filter-append (lies_in place) first ((key, a) ∷ [])
        ∙ ap (λ l. share_of place first ++ l) (share_here key a [])

    put_here : HasShare place (first ++ (key, a) ∷ []) rest after
    put_here = record {
      entries = ap (λ l. l ++ (key, a) ∷ []) (ap (λ (p : PartState). p.entries) (sym own_is) ∙ own.entries)
          ∙ sym share_more;
      room =
          omega (
            arith,
            own.room,
            ap (λ (p : PartState). p.room) own_is,
            ap length share_more,
            length-append (share_of place first) ((key, a) ∷ []),
            ap length (share_here key a rest),
          );
      arriving = ap (λ (p : PartState). p.arriving) (sym own_is) ∙ own.arriving;
    }

    put_elsewhere : (at : ℕ) → nat_eq place at ≡ false → HasShare at first ((key, a) ∷ rest) (part_at parts at)
        → HasShare at (first ++ (key, a) ∷ []) rest (part_at parts at)
    put_elsewhere at other had =
        let same : share_of at (first ++ (key, a) ∷ []) ≡ share_of at first =
        filter-append (lies_in at) first ((key, a) ∷ [])
        ∙ ap (λ l. share_of at first ++ l) (share_elsewhere at key a [] other)
        ∙ append-nil (share_of at first) in
        record {
          entries = had.entries ∙ sym same;
          room = omega (arith, had.room, ap length same, ap length (share_elsewhere at key a rest other));
          arriving = had.arriving;
        }

    pub put_more : HaveShares (first ++ (key, a) ∷ []) rest new
    put_more = record {
      as_many = as_many_set parts new place after inside puts.now ∙ shares.as_many;
      each = λ at less. by_test at less (nat_eq place at) refl;
    }
      where
        turned : (at : ℕ) → nat_eq place at ≡ false → (b : Bool) → nat_eq at place ≡ b → nat_eq at place ≡ false
        turned at other true same = absurd (true≢false (sym (eq-eqb place at (sym (eqb-true at place same))) ∙ other))
        turned at other false same = same

        by_test : (at : ℕ) → at < 16 → (b : Bool) → nat_eq place at ≡ b
            → HasShare at (first ++ (key, a) ∷ []) rest (part_at new at)
        by_test at less true same =
            let is = eqb-true place at same in
            subst (λ k. HasShare k (first ++ (key, a) ∷ []) rest (part_at new k)) is
            (subst (HasShare place (first ++ (key, a) ∷ []) rest)
            (sym (written parts new place after inside puts.now)) put_here)
        by_test at less false other =
            subst (HasShare at (first ++ (key, a) ∷ []) rest)
            (sym (unwritten parts new place after inside puts.now at (turned at other (nat_eq at place) refl)))
            (put_elsewhere at other (shares.each at less))
