-- What a merge does to the aggregators of a table, and to the rows that they show.
use Rattle.std.proofs.Common.{◌≡◌, ◌∙◌, ℕ, ◌+◌, ◌≤◌, Bool, true, false, cond, Option, Some, None, List, [], ◌∷◌, ◌++◌, map, filter, refl}
use Rattle.std.proofs.Common.{sym, ap, subst, arith, All, IfSome, IfNone, is_some, nat_eq, append_assoc, if◌then◌else◌}
use Rattle.std.specs.Option.{option_map_or}
use Rattle.std.specs.List.{AllByRecursion, IsDistinct}
use Rattle.std.specs.Map.{keys_of, values_of, lookup, set_value}
use Rattle.std.proofs.lemmas.List.{map-append, append-nil}
use Rattle.std.proofs.lemmas.List.Elements.{All-head, All-tail, All-push, All-append, filter-append}
use Rattle.std.proofs.lemmas.Map.{keys-set_value}
use Rattle.std.proofs.lemmas.Map.Keys.{IsDistinct-head, IsDistinct-tail}
use Rattle.std.proofs.lemmas.Map.Made.{is_some-lookup}
use Rattle.std.proofs.lemmas.Map.Views.{IfSome-lookup_from_All, All-values-set_value}
use Rattle.indexmap.specs.IndexMap.{insert_entry}
use Rattle.sz_types.specs.Tables.{Declaration}
use Rattle.sz_value.specs.Data.{Datum}
use Rattle.sz_flat.specs.Spelling.{HasShortLengths}
use Rattle.sz_tabs.specs.Data.{EmitDatum, Weighted}
use Rattle.sz_tabs.specs.Rows.{compare_indexes, brought_to, rows_of}
use Rattle.sz_tabs.specs.Sorting.{distinct}
use Rattle.sz_tabs.proofs.ForCallers.{all_entered, distinct_of_both, distinct_of_either, no_rows, rows_decide, rows_join, brought_by_both}
use Rattle.sz_total.specs.Tables.{indexes_to, table_rows}
use Rattle.sz_total.specs.Aggregates.{sums, family_of, shown_of, HasRoomFor, ChangesRoomAlone, IsJoined}
use Rattle.sz_total.specs.Entries.{Entries, same_indexes, rows_found, rows_in_order, IsOfTable, AreOfTable}
use Rattle.sz_total.specs.Joining.{AreOf, AreAlike, BeginsWithSum, GainsRoom, LooksTheSame, HasRoomUnder, HaveRoomFor}
use Rattle.sz_total.specs.Joining.{MayTake, MayTakeUnder, AreReady, TakesOne, TakesAll}
use Rattle.sz_total.specs.declared.aggregate.Aggregate.{Aggregate}
use Rattle.sz_total.specs.declared.aggregate.Aggregate.TheVariants.{Sum, Extreme, Members}
use Rattle.sz_total.proofs.TablesLemmas.{indexes_total, indexes_tie}
use Rattle.sz_total.proofs.ListLemmas.{same_laws, same_is, distinct_of_more, entered_there}
use Rattle.sz_total.proofs.EntryLemmas.{rows_stand, lists_stand, of_table_there, found_replaced, found_in_front, found_last}

-- what is not under any of these index lists isn't found
pub absent : (indexes : List Datum) (entries : Entries)
    → AllByRecursion (λ l. same_indexes indexes l ≡ false) (keys_of entries)
    → lookup (same_indexes indexes) entries ≡ None
absent indexes [] apart = refl
absent indexes (h ∷ hs) apart = ap (λ b. cond b (Some h.1) (lookup (same_indexes indexes) hs)) apart.0
    ∙ absent indexes hs apart.1

-- room alone changes no row
pub looks_refl : (entries : Entries) → LooksTheSame entries entries
looks_refl entries = record {
  keys = refl;
  rows = λ indexes. refl;
  still = λ table count are. are;
  families = λ family are. are;
}

pub looks_trans : (first mid now : Entries) → LooksTheSame first mid → LooksTheSame mid now → LooksTheSame first now
looks_trans first mid now before after = record {
  keys = after.keys ∙ before.keys;
  rows = λ indexes. after.rows indexes ∙ before.rows indexes;
  still = λ table count are. after.still table count (before.still table count are);
  families = λ family are. after.families family (before.families family are);
}

of_table_changed : (table : Declaration) (count : ℕ) (old new : Aggregate) → ChangesRoomAlone old new
    → IsOfTable table count old → IsOfTable table count new
of_table_changed table count old new changes is = record {
  declared = changes.declared ∙ is.declared;
  family = changes.family ∙ is.family;
  few = omega (arith, is.few, changes.count);
  emits = is.emits;
  stands = record {
    rows = changes.rows ∙ is.stands.rows ∙ ap (λ d. rows_of d is.emits) (sym changes.declared);
    counted = changes.count ∙ is.stands.counted;
  };
  short = is.short;
}

module _ (indexes : List Datum) (entries : Entries) (old new : Aggregate)
    (there : lookup (same_indexes indexes) entries ≡ Some old)
    (changes : ChangesRoomAlone old new) where
  looks_changed : LooksTheSame entries (set_value (same_indexes indexes) entries new)
  looks_changed = record {
    keys = keys-set_value (same_indexes indexes) entries new;
    rows = λ others.
        ap (λ found. option_map_or shown_of found []) (found_replaced indexes others entries old new there)
        ∙ by_test others (same_indexes indexes others) refl;
    still = λ table count are.
        All-values-set_value (same_indexes indexes) (IsOfTable table count) entries new are
        (of_table_changed table count old new changes (of_table_there table count indexes entries old are there));
    families = λ family are.
        All-values-set_value (same_indexes indexes) (λ (a : Aggregate). family_of a ≡ family) entries new are
        (changes.family
        ∙ subst (λ found. IfSome found (λ a. family_of a ≡ family)) there
        (IfSome-lookup_from_All (λ (a : Aggregate). family_of a ≡ family) (same_indexes indexes) entries are));
  }
    where
      by_test : (others : List Datum) (b : Bool) → same_indexes indexes others ≡ b
          → option_map_or shown_of (cond b (Some new) (lookup (same_indexes others) entries)) []
          ≡ rows_found entries others
      by_test others true same =
          changes.rows ∙ ap (λ found. option_map_or shown_of found []) (sym there)
          ∙ ap (rows_found entries) (same_is indexes others same)
      by_test others false same = refl

module _ (indexes : List Datum) (old new : Entries) (gains : GainsRoom indexes old new) where
  pub gained_looks : LooksTheSame old new
  gained_looks = by_found (lookup (same_indexes indexes) old) refl gains.none gains.some
    where
      by_found : (found : Option Aggregate) → lookup (same_indexes indexes) old ≡ found → IfNone found (new ≡ old)
          → IfSome found
          (λ own. (now : Aggregate) × ChangesRoomAlone own now × (new ≡ set_value (same_indexes indexes) old now))
          → LooksTheSame old new
      by_found None is none some = subst (LooksTheSame old) (sym none) (looks_refl old)
      by_found (Some own) is none some =
          subst (LooksTheSame old) (sym some.2) (looks_changed indexes old own some.0 is some.1)

  gained_elsewhere : (others : List Datum) → same_indexes indexes others ≡ false
      → lookup (same_indexes others) new ≡ lookup (same_indexes others) old
  gained_elsewhere others other = by_found (lookup (same_indexes indexes) old) refl gains.none gains.some
    where
      by_found : (found : Option Aggregate) → lookup (same_indexes indexes) old ≡ found → IfNone found (new ≡ old)
          → IfSome found
          (λ own. (now : Aggregate) × ChangesRoomAlone own now × (new ≡ set_value (same_indexes indexes) old now))
          → lookup (same_indexes others) new ≡ lookup (same_indexes others) old
      by_found None is none some = ap (lookup (same_indexes others)) none
      by_found (Some own) is none some =
          ap (lookup (same_indexes others)) some.2 ∙ found_replaced indexes others old own some.0 is
          ∙ ap (λ b. cond b (Some some.0) (lookup (same_indexes others) old)) other

-- what changed under the index list of an aggregator, and under one where there is none
pub gains_some : (indexes : List Datum) (entries new : Entries) (own now : Aggregate)
    → lookup (same_indexes indexes) entries ≡ Some own
    → ChangesRoomAlone own now → new ≡ set_value (same_indexes indexes) entries now → GainsRoom indexes entries new
gains_some indexes entries new own now there changes written = record {
  none = subst (λ o. IfNone o (new ≡ entries)) (sym there) tt;
  some =
      subst (λ o. IfSome o (λ own. (now : Aggregate) × ChangesRoomAlone own now
      × (new ≡ set_value (same_indexes indexes) entries now))) (sym there)
      (now, changes, written);
}

pub gains_none : (indexes : List Datum) (entries new : Entries) → lookup (same_indexes indexes) entries ≡ None
    → new ≡ entries → GainsRoom indexes entries new
gains_none indexes entries new none same = record {
  none = subst (λ o. IfNone o (new ≡ entries)) (sym none) same;
  some =
      subst (λ o. IfSome o (λ own. (now : Aggregate) × ChangesRoomAlone own now
      × (new ≡ set_value (same_indexes indexes) entries now))) (sym none)
      tt;
}

-- an index list that is there keeps its place where its aggregator is written
pub put_there : (indexes : List Datum) (entries : Entries) (own now : Aggregate)
    → lookup (same_indexes indexes) entries ≡ Some own
    → insert_entry same_indexes entries indexes now ≡ set_value (same_indexes indexes) entries now
put_there indexes [] own now there = absurd (cc)
put_there indexes (e ∷ es) own now there = by_test (same_indexes indexes e.0) refl there (put_there indexes es own now)
  where
    by_test : (b : Bool) → same_indexes indexes e.0 ≡ b
        → cond b (Some e.1) (lookup (same_indexes indexes) es) ≡ Some own
        → (lookup (same_indexes indexes) es ≡ Some own
        → insert_entry same_indexes es indexes now ≡ set_value (same_indexes indexes) es now)
        → insert_entry same_indexes (e ∷ es) indexes now ≡ set_value (same_indexes indexes) (e ∷ es) now
    by_test true same found rest =
        ap (λ b. if b then (e.0, now) ∷ es else e ∷ insert_entry same_indexes es indexes now) same
        ∙ sym (ap (λ b. cond b ((e.0, now) ∷ es) (e ∷ set_value (same_indexes indexes) es now)) same)
    by_test false same found rest =
        ap (λ b. if b then (e.0, now) ∷ es else e ∷ insert_entry same_indexes es indexes now) same
        ∙ ap (λ l. e ∷ l) (rest found)
        ∙ sym (ap (λ b. cond b ((e.0, now) ∷ es) (e ∷ set_value (same_indexes indexes) es now)) same)

-- the same of an aggregator that takes another, and of one that is put where there is none
pub takes_some : (indexes : List Datum) (other : Aggregate) (entries new : Entries) (own now : Aggregate)
    → lookup (same_indexes indexes) entries ≡ Some own
    → IsJoined own other now → new ≡ set_value (same_indexes indexes) entries now → TakesOne indexes other entries new
takes_some indexes other entries new own now there joined written = record {
  none = subst (λ o. IfNone o (new ≡ entries ++ (indexes, other) ∷ [])) (sym there) tt;
  some =
      subst (λ o. IfSome o (λ own. (now : Aggregate) × IsJoined own other now
      × (new ≡ set_value (same_indexes indexes) entries now))) (sym there)
      (now, joined, written);
}

pub takes_last : (indexes : List Datum) (other : Aggregate) (entries new : Entries)
    → lookup (same_indexes indexes) entries ≡ None
    → new ≡ entries ++ (indexes, other) ∷ [] → TakesOne indexes other entries new
takes_last indexes other entries new none last = record {
  none = subst (λ o. IfNone o (new ≡ entries ++ (indexes, other) ∷ [])) (sym none) last;
  some =
      subst (λ o. IfSome o (λ own. (now : Aggregate) × IsJoined own other now
      × (new ≡ set_value (same_indexes indexes) entries now))) (sym none)
      tt;
}

-- room was made for each of these in turn
abbrev pub IsRoomMade : Entries → Entries → Entries → Type 0
IsRoomMade [] old new = new ≡ old
IsRoomMade (o ∷ os) old new = (mid : Entries) × GainsRoom o.0 old mid × HasRoomUnder mid o × IsRoomMade os mid new

untouched : (os old new : Entries) → IsRoomMade os old new → (indexes : List Datum)
    → AllByRecursion (λ l. same_indexes indexes l ≡ false) (keys_of os)
    → lookup (same_indexes indexes) new ≡ lookup (same_indexes indexes) old
untouched [] old new made indexes apart = ap (lookup (same_indexes indexes)) made
untouched (o ∷ os) old new made indexes apart =
    untouched os made.0 new made.3 indexes apart.1
    ∙ gained_elsewhere o.0 old made.0 made.1 indexes (same_laws.symm o.0 indexes ∙ apart.0)

pub room_made : (os : Entries) → IsDistinct same_indexes (keys_of os) → (old new : Entries) → IsRoomMade os old new
    → HaveRoomFor new os
room_made [] apart old new made = tt
room_made (o ∷ os) apart old new made = (
  subst (λ found. IfSome found (λ own. HasRoomFor own o.1))
      (sym (untouched os made.0 new made.3 o.0 (IsDistinct-head same_indexes o.0 (keys_of os) apart))) made.2,
  room_made os (IsDistinct-tail same_indexes o.0 (keys_of os) apart) made.0 new made.3,
)

-- sums have room for each other
sum_room : (own other : Aggregate) → family_of own ≡ sums → family_of other ≡ sums → HasRoomFor own other
sum_room (Sum s) (Sum other) mine yours = tt
sum_room (Extreme e) other mine yours = absurd (cc)
sum_room (Members m) other mine yours = absurd (cc)
sum_room own (Extreme e) mine yours = absurd (cc)
sum_room own (Members m) mine yours = absurd (cc)

sums_room : (own others : Entries) → AreOf sums own → AreOf sums others → HaveRoomFor own others
sums_room own [] mine yours = tt
sums_room own (o ∷ os) mine yours = (
  by_found (lookup (same_indexes o.0) own)
      (IfSome-lookup_from_All (λ (a : Aggregate). family_of a ≡ sums) (same_indexes o.0) own mine),
  sums_room own os mine (All-tail (λ (a : Aggregate). family_of a ≡ sums) o.1 (values_of os) yours),
)
  where
    by_found : (found : Option Aggregate) → IfSome found (λ a. family_of a ≡ sums)
        → IfSome found (λ a. HasRoomFor a o.1)
    by_found None is = tt
    by_found (Some a) is = sum_room a o.1 is (All-head (λ (a : Aggregate). family_of a ≡ sums) o.1 (values_of os) yours)

-- so where all are of one family, and the first is a sum, there is room
pub room_for_sums : (own others : Entries) → AreAlike own others → BeginsWithSum others → HaveRoomFor own others
room_for_sums own [] alike first = tt
room_for_sums own (o ∷ os) alike first =
    let all =
    sym (All-head (λ (a : Aggregate). family_of a ≡ alike.family) o.1 (values_of os) alike.others_too) ∙ first in
    sums_room own (o ∷ os) (subst (λ f. AreOf f own) all alike.mine)
    (subst (λ f. AreOf f (o ∷ os)) all alike.others_too)

-- where there is room, aggregators of one table may take each other
pub are_ready : (table : Declaration) (mine yours count : ℕ) → mine + yours ≤ count → (own others : Entries)
    → AreOfTable table mine own → AreOfTable table yours others → HaveRoomFor own others → AreReady count own others
are_ready table mine yours count few own [] are beside room = tt
are_ready table mine yours count few own (o ∷ os) are beside room = (
  by_found (lookup (same_indexes o.0) own) refl room.0,
  are_ready table mine yours count few own os are (All-tail (IsOfTable table yours) o.1 (values_of os) beside) room.1,
)
  where
    by_found : (found : Option Aggregate) → lookup (same_indexes o.0) own ≡ found → IfSome found (λ a. HasRoomFor a o.1)
        → IfSome found (λ a. MayTake count a o.1)
    by_found None is r = tt
    by_found (Some a) is r =
        let one = of_table_there table mine o.0 own a are is in
        let other = All-head (IsOfTable table yours) o.1 (values_of os) beside in
        record { declared = other.declared ∙ sym one.declared; few = omega (arith, one.few, other.few, few); room = r }

-- what taking one aggregator of the other side does to those of a table
record IsTakenAt (table : Declaration) (count : ℕ) (indexes : List Datum) (other : Aggregate)
    (old new : Entries) : Type 0 where
  lists : (rest : List (List Datum))
      → distinct compare_indexes (keys_of new ++ rest) ≡ distinct compare_indexes (keys_of old ++ indexes ∷ rest)
  here : (front later : List Weighted) → rows_found old indexes ≡ rows_of table front
      → shown_of other ≡ rows_of table later → rows_found new indexes ≡ rows_of table (front ++ later)
  elsewhere : (others : List Datum) → same_indexes indexes others ≡ false
      → lookup (same_indexes others) new ≡ lookup (same_indexes others) old
  still : AreOfTable table count new

-- it stands last where there was none
module _ (table : Declaration) (count : ℕ) (indexes : List Datum) (other : Aggregate) (entries : Entries)
    (none : lookup (same_indexes indexes) entries ≡ None) (are : AreOfTable table count entries)
    (is : IsOfTable table count other) where
  taken_last : IsTakenAt table count indexes other entries (entries ++ (indexes, other) ∷ [])
  taken_last = record {
    lists = λ rest.
        ap (λ l. distinct compare_indexes (l ++ rest))
        (map-append (λ (p : List Datum × Aggregate). p.0) entries ((indexes, other) ∷ []))
        ∙ ap (distinct compare_indexes) (append_assoc (keys_of entries) (indexes ∷ []) rest);
    here = λ front later before beside.
        ap (λ found. option_map_or shown_of found [])
        (found_last (same_indexes indexes) entries indexes other (same_laws.refl indexes) none)
        ∙ beside
        ∙ sym
        (rows_decide table front [] later
        (sym before ∙ ap (λ found. option_map_or shown_of found []) none ∙ sym (no_rows table)));
    elsewhere = λ others apart.
        found_in_front (same_indexes others) entries indexes other (same_laws.symm others indexes ∙ apart);
    still =
        subst (All (IsOfTable table count))
        (sym (map-append (λ (p : List Datum × Aggregate). p.1) entries ((indexes, other) ∷ [])))
        (All-push (IsOfTable table count) (values_of entries) other are is);
  }

-- it is joined with the one that was there
module _ (table : Declaration) (count : ℕ) (indexes : List Datum) (other : Aggregate) (entries : Entries)
    (own now : Aggregate) (there : lookup (same_indexes indexes) entries ≡ Some own)
    (are : AreOfTable table count entries) (is : IsOfTable table count other)
    (may : MayTake count own other) (joined : IsJoined own other now) where
  mine : IsOfTable table count own
  mine = of_table_there table count indexes entries own are there

  of_table_joined : IsOfTable table count now
  of_table_joined = record {
    declared = joined.joins.same_table ∙ mine.declared;
    family = joined.family ∙ mine.family;
    few = omega (arith, may.few, joined.joins.both_counts);
    emits = mine.emits ++ is.emits;
    stands = joined.joins.joined mine.emits is.emits mine.stands is.stands;
    short = All-append (λ (w : Weighted). HasShortLengths w.value) mine.emits is.emits mine.short is.short;
  }

  rows_joined : (front later : List Weighted) → rows_found entries indexes ≡ rows_of table front
      → shown_of other ≡ rows_of table later → shown_of now ≡ rows_of table (front ++ later)
  unfolding of_table_joined
  rows_joined front later before beside =
      of_table_joined.stands.rows ∙ ap (λ d. rows_of d (mine.emits ++ is.emits)) of_table_joined.declared
      ∙ rows_join table mine.emits front is.emits later
      (ap (λ d. rows_of d mine.emits) (sym mine.declared) ∙ sym mine.stands.rows
      ∙ ap (λ found. option_map_or shown_of found []) (sym there) ∙ before)
      (ap (λ d. rows_of d is.emits) (sym is.declared) ∙ sym is.stands.rows ∙ beside)

  taken_into : IsTakenAt table count indexes other entries (set_value (same_indexes indexes) entries now)
  taken_into = record {
    lists = λ rest.
        ap (λ l. distinct compare_indexes (l ++ rest)) (keys-set_value (same_indexes indexes) entries now)
        ∙ distinct_of_either indexes_total indexes_tie (keys_of entries) rest
        ∙ ap (all_entered compare_indexes rest)
        (sym (entered_there (keys_of entries) indexes
        (sym (is_some-lookup (same_indexes indexes) entries) ∙ ap is_some there))
        ∙ sym (distinct_of_more (keys_of entries) indexes))
        ∙ sym (distinct_of_either indexes_total indexes_tie (keys_of entries ++ indexes ∷ []) rest)
        ∙ ap (distinct compare_indexes) (append_assoc (keys_of entries) (indexes ∷ []) rest);
    here = λ front later before beside.
        ap (λ found. option_map_or shown_of found [])
        (found_replaced indexes indexes entries own now there
        ∙ ap (λ b. cond b (Some now) (lookup (same_indexes indexes) entries)) (same_laws.refl indexes))
        ∙ rows_joined front later before beside;
    elsewhere = λ others apart.
        found_replaced indexes others entries own now there
        ∙ ap (λ b. cond b (Some now) (lookup (same_indexes others) entries)) apart;
    still = All-values-set_value (same_indexes indexes) (IsOfTable table count) entries now are of_table_joined;
  }

taken_at : (table : Declaration) (count : ℕ) (indexes : List Datum) (other : Aggregate) (old new : Entries)
    → TakesOne indexes other old new → AreOfTable table count old → IsOfTable table count other
    → MayTakeUnder count old (indexes, other) → IsTakenAt table count indexes other old new
taken_at table count indexes other old new takes are is may =
    by_found (lookup (same_indexes indexes) old) refl takes.none takes.some may
  where
    by_found : (found : Option Aggregate) → lookup (same_indexes indexes) old ≡ found
        → IfNone found (new ≡ old ++ (indexes, other) ∷ []) → IfSome found
        (λ own. (now : Aggregate) × IsJoined own other now × (new ≡ set_value (same_indexes indexes) old now))
        → IfSome found (λ own. MayTake count own other) → IsTakenAt table count indexes other old new
    by_found None none last some may =
        subst (IsTakenAt table count indexes other old) (sym last)
        (taken_last table count indexes other old none are is)
    by_found (Some own) there last some may =
        subst (IsTakenAt table count indexes other old) (sym some.2)
        (taken_into table count indexes other old own some.0 there are is may some.1)

-- taking one changes nothing under other index lists
pub taken_elsewhere : (indexes : List Datum) (other : Aggregate) (old new : Entries) → TakesOne indexes other old new
    → (others : List Datum) → same_indexes indexes others ≡ false
    → lookup (same_indexes others) new ≡ lookup (same_indexes others) old
taken_elsewhere indexes other old new takes others apart =
    by_found (lookup (same_indexes indexes) old) refl takes.none takes.some
  where
    by_found : (found : Option Aggregate) → lookup (same_indexes indexes) old ≡ found
        → IfNone found (new ≡ old ++ (indexes, other) ∷ []) → IfSome found
        (λ own. (now : Aggregate) × IsJoined own other now × (new ≡ set_value (same_indexes indexes) old now))
        → lookup (same_indexes others) new ≡ lookup (same_indexes others) old
    by_found None none last some =
        ap (lookup (same_indexes others)) last
        ∙ found_in_front (same_indexes others) old indexes other (same_laws.symm others indexes ∙ apart)
    by_found (Some own) there last some =
        ap (lookup (same_indexes others)) some.2 ∙ found_replaced indexes others old own some.0 there
        ∙ ap (λ b. cond b (Some some.0) (lookup (same_indexes others) old)) apart

-- the others still may be taken
pub ready_still : (count : ℕ) (indexes : List Datum) (other : Aggregate) (old new : Entries)
    → TakesOne indexes other old new → (os : Entries) → AllByRecursion (λ l. same_indexes indexes l ≡ false)
    (keys_of os) → AreReady count old os → AreReady count new os
ready_still count indexes other old new takes [] apart ready = tt
ready_still count indexes other old new takes (o ∷ os) apart ready = (
  subst (λ found. IfSome found (λ own. MayTake count own o.1))
      (sym (taken_elsewhere indexes other old new takes o.0 apart.0)) ready.0,
  ready_still count indexes other old new takes os apart.1 ready.1,
)

-- each of these was taken in turn
abbrev pub IsTaken : Entries → Entries → Entries → Type 0
IsTaken [] old new = new ≡ old
IsTaken (o ∷ os) old new = (mid : Entries) × TakesOne o.0 o.1 old mid × IsTaken os mid new

-- one is taken before the others
module _ (table : Declaration) (count : ℕ) (indexes : List Datum) (other : Aggregate) (os old mid new : Entries)
    (apart : AllByRecursion (λ l. same_indexes indexes l ≡ false) (keys_of os))
    (step : IsTakenAt table count indexes other old mid)
    (rest : TakesAll table count os mid new) where
  rows_taken : (others : List Datum) (front later : List Weighted) → rows_found old others ≡ rows_of table front
      → rows_found ((indexes, other) ∷ os) others ≡ rows_of table later
      → rows_found new others ≡ rows_of table (front ++ later)
  rows_taken others front later before beside = by_test (same_indexes others indexes) refl beside
    where
      by_test : (b : Bool) → same_indexes others indexes ≡ b
          → option_map_or shown_of (cond b (Some other) (lookup (same_indexes others) os)) [] ≡ rows_of table later
          → rows_found new others ≡ rows_of table (front ++ later)
      by_test true same beside =
          let is = same_is others indexes same in
          rest.rows others (front ++ later) []
          (ap (rows_found mid) is ∙ step.here front later (ap (rows_found old) (sym is) ∙ before) beside)
          (ap (rows_found os) is ∙ ap (λ found. option_map_or shown_of found []) (absent indexes os apart)
          ∙ sym (no_rows table)) ∙ ap (rows_of table) (append-nil (front ++ later))
      by_test false same beside =
          rest.rows others front later
          (ap (λ found. option_map_or shown_of found [])
          (step.elsewhere others (same_laws.symm indexes others ∙ same)) ∙ before) beside

  takes_more : TakesAll table count ((indexes, other) ∷ os) old new
  takes_more = record { indexes = rest.indexes ∙ step.lists (keys_of os); rows = rows_taken; still = rest.still }

pub takes_none : (table : Declaration) (count : ℕ) (old new : Entries) → new ≡ old → AreOfTable table count old
    → TakesAll table count [] old new
takes_none table count old new same are = record {
  indexes = ap (λ h. distinct compare_indexes (keys_of h)) same
      ∙ ap (distinct compare_indexes) (sym (append-nil (keys_of old)));
  rows = λ indexes front later before beside.
      ap (λ h. rows_found h indexes) same ∙ before ∙ ap (rows_of table) (sym (append-nil front))
      ∙ rows_join table front front [] later refl (no_rows table ∙ beside);
  still = subst (AreOfTable table count) (sym same) are;
}

pub takes_all : (table : Declaration) (count : ℕ) (os : Entries) → IsDistinct same_indexes (keys_of os)
    → (old new : Entries) → IsTaken os old new
    → AreOfTable table count old → AreOfTable table count os → AreReady count old os → TakesAll table count os old new
takes_all table count [] apart old new taken are beside ready = takes_none table count old new taken are
takes_all table count (o ∷ os) apart old new taken are beside ready =
    let head = IsDistinct-head same_indexes o.0 (keys_of os) apart in
    let step = taken_at table count o.0 o.1 old taken.0 taken.1 are
    (All-head (IsOfTable table count) o.1 (values_of os) beside) ready.0 in
    takes_more table count o.0 o.1 os old taken.0 new head step
    (takes_all table count os (IsDistinct-tail same_indexes o.0 (keys_of os) apart) taken.0 new taken.2 step.still
    (All-tail (IsOfTable table count) o.1 (values_of os) beside)
    (ready_still count o.0 o.1 old taken.0 taken.1 os head ready.1))

-- joined lists have the distinct elements of lists with the same ones
distinct_joined : (xs us ys vs : List (List Datum)) → distinct compare_indexes xs ≡ distinct compare_indexes us
    → distinct compare_indexes ys ≡ distinct compare_indexes vs
    → distinct compare_indexes (xs ++ ys) ≡ distinct compare_indexes (us ++ vs)
distinct_joined xs us ys vs front later =
    distinct_of_both indexes_total indexes_tie xs ys ∙ ap (all_entered compare_indexes xs) later
    ∙ sym (distinct_of_both indexes_total indexes_tie xs vs) ∙ distinct_of_either indexes_total indexes_tie xs vs
    ∙ ap (all_entered compare_indexes vs) front ∙ sym (distinct_of_either indexes_total indexes_tie us vs)

-- where all aggregators of the other side were taken, the rows are those of the emits of both
module _ (number : ℕ) (table : Declaration) (front later : List EmitDatum) (count : ℕ) (others old new : Entries)
    (takes : TakesAll table count others old new) (before : rows_in_order old ≡ table_rows number table front)
    (beside : rows_in_order others ≡ table_rows number table later) where
  indexes_of_both : indexes_to number (front ++ later) ≡ indexes_to number front ++ indexes_to number later
  indexes_of_both =
      ap (map (λ (e : EmitDatum). e.indexes)) (filter-append (λ (e : EmitDatum). nat_eq e.table number) front later)
      ∙ map-append (λ (e : EmitDatum). e.indexes) (filter (λ (e : EmitDatum). nat_eq e.table number) front) _

  lists : distinct compare_indexes (keys_of new) ≡ distinct compare_indexes (indexes_to number (front ++ later))
  lists =
      takes.indexes
      ∙ distinct_joined (keys_of old) (indexes_to number front) (keys_of others) (indexes_to number later)
      (lists_stand number table front old before) (lists_stand number table later others beside)
      ∙ ap (distinct compare_indexes) (sym indexes_of_both)

  under : (indexes : List Datum) → rows_found new indexes ≡ rows_of table (brought_to number indexes (front ++ later))
  under indexes =
      takes.rows indexes (brought_to number indexes front) (brought_to number indexes later)
      (rows_stand number table front old before indexes) (rows_stand number table later others beside indexes)
      ∙ ap (rows_of table) (sym (brought_by_both number indexes front later))

  pub rows_of_both : rows_in_order new ≡ table_rows number table (front ++ later)
  rows_of_both = (λ i. map (λ indexes. record { indexes = indexes; rows = under indexes i }) (lists i))
