-- What calls on parts do to all index lists of a table.
use Rattle.std.proofs.Common.{◌≡◌, ◌∙◌, ℕ, zero, suc, ◌+◌, ◌<◌, Bool, true, false, ◌||◌, true≢false, List, [], ◌∷◌}
use Rattle.std.proofs.Common.{◌++◌, length, refl, sym, ap, subst, arith, All, nat_eq}
use Rattle.std.specs.Prelude.{set}
use Rattle.std.specs.List.{AllByRecursion}
use Rattle.std.specs.Map.{keys_of, values_of}
use Rattle.std.proofs.lemmas.Bool.{eq-eqb, eqb-true}
use Rattle.std.proofs.lemmas.List.{length-set, map-append, get_or-set_same, get_or-set_other}
use Rattle.std.proofs.lemmas.List.Elements.{All-nil, All-cons, All-head, All-tail}
use Rattle.std.proofs.lemmas.Option.{slice_get_within, get_or_from_slice_get}
use Rattle.sz_types.specs.Tables.{Declaration}
use Rattle.sz_value.specs.Data.{Datum}
use Rattle.sz_tabs.specs.Data.{EmitDatum}
use Rattle.sz_tabs.specs.Rows.{compare_indexes}
use Rattle.sz_tabs.specs.Sorting.{distinct}
use Rattle.sz_tabs.proofs.ForCallers.{distinct_of_both}
use Rattle.sz_total.specs.Entries.{same_indexes, rows_found, rows_in_order, IsOfTable, AreOfTable, TakesEmit}
use Rattle.sz_total.specs.Joining.{TakesAll}
use Rattle.sz_total.specs.Parts.{PartState, empty_part, part_at, part_of, entries_of, IsPlaced, ArePlaced, ArePartsOf, AreSettled}
use Rattle.sz_total.specs.Parts.{PartTakesEmit, PartsLookTheSame}
use Rattle.sz_total.specs.declared.aggregate.Aggregate.{Aggregate}
use Rattle.sz_total.proofs.TablesLemmas.{indexes_total, indexes_tie}
use Rattle.sz_total.proofs.ListLemmas.{same_is, is_among, among_distinct, among_entered}
use Rattle.sz_total.proofs.EntryLemmas.{of_table_longer}
use Rattle.sz_total.proofs.PartLemmas.{rows_in_part, among_in_part, distinct_alike, alike_distinct, among_both, shown_alike, number_among}
use Rattle.sz_total.proofs.PartLemmas.{placed_by, all_of_table}

-- one part was written
module _ (old new : List PartState) (at : ℕ) (after : PartState) (within : at < length old)
    (now : new ≡ set old at after) where
  pub as_many_set : length new ≡ length old
  as_many_set = ap length now ∙ length-set old at after

  pub written : part_at new at ≡ after
  written = ap (λ l. part_at l at) now ∙ get_or-set_same old at after empty_part within

  pub unwritten : (i : ℕ) → nat_eq i at ≡ false → part_at new i ≡ part_at old i
  unwritten i other =
      ap (λ l. part_at l i) now
      ∙ get_or-set_other old at i after empty_part (λ same. true≢false (sym (eq-eqb i at same) ∙ other))

  -- so what holds of it and held of the others holds of all
  pub each_set : (P : ℕ → PartState → Type 0) → P at after → ((i : ℕ) → P i (part_at old i)) → (i : ℕ)
      → P i (part_at new i)
  each_set P here before i = by_test (nat_eq i at) refl
    where
      by_test : (b : Bool) → nat_eq i at ≡ b → P i (part_at new i)
      by_test true same =
          let is = eqb-true i at same in
          subst (λ k. P k (part_at new k)) (sym is) (subst (P at) (sym written) here)
      by_test false other = subst (P i) (sym (unwritten i other)) (before i)

-- the front and the rest of a list of which all is such
all_front : {X : Type 0} (P : X → Type 0) (xs ys : List X) → All P (xs ++ ys) → All P xs
all_front P [] ys all = All-nil P
all_front P (x ∷ xs) ys all =
    All-cons P x xs (All-head P x (xs ++ ys) all) (all_front P xs ys (All-tail P x (xs ++ ys) all))

all_rest : {X : Type 0} (P : X → Type 0) (xs ys : List X) → All P (xs ++ ys) → All P ys
all_rest P [] ys all = all
all_rest P (x ∷ xs) ys all = all_rest P xs ys (All-tail P x (xs ++ ys) all)

-- where all aggregators are of the table, those of each part are
values_both : (table : Declaration) (count : ℕ) (p : PartState) (ps : List PartState)
    → AreOfTable table count (entries_of (p ∷ ps))
    → All (IsOfTable table count) (values_of p.entries ++ values_of (entries_of ps))
values_both table count p ps are =
    subst (All (IsOfTable table count)) (map-append (λ (e : List Datum × Aggregate). e.1) p.entries (entries_of ps)) are

each_of_table : (table : Declaration) (count : ℕ) (parts : List PartState) → AreOfTable table count (entries_of parts)
    → ArePartsOf table count parts
each_of_table table count [] are zero = All-nil (IsOfTable table count)
each_of_table table count [] are (suc at) = All-nil (IsOfTable table count)
each_of_table table count (p ∷ ps) are zero =
    all_front (IsOfTable table count) (values_of p.entries) (values_of (entries_of ps))
    (values_both table count p ps are)
each_of_table table count (p ∷ ps) are (suc at) =
    each_of_table table count ps
    (all_rest (IsOfTable table count) (values_of p.entries) (values_of (entries_of ps))
    (values_both table count p ps are)) at

-- the part of an emit takes it
module _ (table : Declaration) (emit : EmitDatum) (old new : List PartState) (placed : ArePlaced old)
    (takes : PartTakesEmit table emit old new) where
  abbrev count : ℕ
  count = length old

  abbrev at : ℕ
  at = part_of count emit.indexes

  within : at < length old
  within = slice_get_within old at takes.before takes.there

  before_is : part_at old at ≡ takes.before
  before_is = get_or_from_slice_get old at takes.before empty_part takes.there

  pub as_many_taken : length new ≡ length old
  as_many_taken = as_many_set old new at takes.after within takes.now

  after_is : part_at new at ≡ takes.after
  after_is = written old new at takes.after within takes.now

  among_after : (indexes : List Datum) → is_among indexes (keys_of takes.after.entries)
      ≡ (same_indexes indexes emit.indexes || is_among indexes (keys_of (part_at old at).entries))
  among_after indexes =
      sym (among_distinct indexes (keys_of takes.after.entries)) ∙ ap (is_among indexes) takes.takes.indexes
      ∙ among_entered indexes (distinct compare_indexes (keys_of takes.before.entries)) emit.indexes
      ∙ ap (λ b. same_indexes indexes emit.indexes || b)
      (among_distinct indexes (keys_of takes.before.entries)
      ∙ ap (λ (p : PartState). is_among indexes (keys_of p.entries)) (sym before_is))

  by_either : (indexes : List Datum) (b : Bool) → same_indexes indexes emit.indexes ≡ b
      → (b || is_among indexes (keys_of (part_at old at).entries)) ≡ true → part_of count indexes ≡ at
  by_either indexes true same there = ap (part_of count) (same_is indexes emit.indexes same)
  by_either indexes false same there =
      number_among count at (keys_of (part_at old at).entries) (placed at) indexes there

  still_placed : (i : ℕ) → IsPlaced count i (part_at new i).entries
  still_placed =
      each_set old new at takes.after within takes.now (λ i p. IsPlaced count i p.entries)
      (placed_by count at (keys_of takes.after.entries)
      (λ indexes there. by_either indexes (same_indexes indexes emit.indexes) refl (sym (among_after indexes) ∙ there)))
      placed

  pub placed_taken : ArePlaced new
  placed_taken = subst (λ c. (i : ℕ) → IsPlaced c i (part_at new i).entries) (sym as_many_taken) still_placed

  pub settled_taken : AreSettled old → AreSettled new
  settled_taken settled =
      each_set old new at takes.after within takes.now (λ i p. p.arriving ≡ [])
      (takes.arriving ∙ ap (λ (p : PartState). p.arriving) (sym before_is) ∙ settled at) settled

  pub parts_of_taken : (most : ℕ) → ArePartsOf table most old → ArePartsOf table (most + 1) new
  parts_of_taken most are =
      each_set old new at takes.after within takes.now (λ i p. AreOfTable table (most + 1) p.entries)
      (takes.takes.still most (subst (λ (p : PartState). AreOfTable table most p.entries) before_is (are at)))
      (λ i. of_table_longer table most (most + 1) (omega arith) (part_at old i).entries (are i))

  lists_taken : (indexes : List Datum)
      → is_among indexes (keys_of (entries_of new)) ≡ is_among indexes (emit.indexes ∷ keys_of (entries_of old))
  lists_taken indexes =
      among_in_part count new still_placed indexes ∙ by_test (nat_eq (part_of count indexes) at) refl
      ∙ ap (λ b. same_indexes indexes emit.indexes || b) (sym (among_in_part count old placed indexes))
    where
      elsewhere : nat_eq (part_of count indexes) at ≡ false → (b : Bool) → same_indexes indexes emit.indexes ≡ b
          → same_indexes indexes emit.indexes ≡ false
      elsewhere other true same =
          absurd (true≢false
          (sym (eq-eqb (part_of count indexes) at (ap (part_of count) (same_is indexes emit.indexes same))) ∙ other))
      elsewhere other false same = same

      by_test : (b : Bool) → nat_eq (part_of count indexes) at ≡ b
          → is_among indexes (keys_of (part_at new (part_of count indexes)).entries)
          ≡ (same_indexes indexes emit.indexes
          || is_among indexes (keys_of (part_at old (part_of count indexes)).entries))
      by_test true same =
          let is = eqb-true (part_of count indexes) at same in
          ap (λ k. is_among indexes (keys_of (part_at new k).entries)) is
          ∙ ap (λ (p : PartState). is_among indexes (keys_of p.entries)) after_is
          ∙ among_after indexes
          ∙ ap (λ k. same_indexes indexes emit.indexes || is_among indexes (keys_of (part_at old k).entries)) (sym is)
      by_test false other =
          ap (λ (p : PartState). is_among indexes (keys_of p.entries))
          (unwritten old new at takes.after within takes.now (part_of count indexes) other)
          ∙ ap (λ b. b || is_among indexes (keys_of (part_at old (part_of count indexes)).entries))
          (sym (elsewhere other (same_indexes indexes emit.indexes) refl))

  rows_elsewhere_stay : (indexes : List Datum) → same_indexes emit.indexes indexes ≡ false
      → rows_found (part_at new (part_of count indexes)).entries indexes
      ≡ rows_found (part_at old (part_of count indexes)).entries indexes
  rows_elsewhere_stay indexes apart = by_test (nat_eq (part_of count indexes) at) refl
    where
      by_test : (b : Bool) → nat_eq (part_of count indexes) at ≡ b
          → rows_found (part_at new (part_of count indexes)).entries indexes
          ≡ rows_found (part_at old (part_of count indexes)).entries indexes
      by_test true same =
          let is = eqb-true (part_of count indexes) at same in
          ap (λ k. rows_found (part_at new k).entries indexes) is
          ∙ ap (λ (p : PartState). rows_found p.entries indexes) after_is
          ∙ takes.takes.others indexes apart ∙ ap (λ (p : PartState). rows_found p.entries indexes) (sym before_is)
          ∙ ap (λ k. rows_found (part_at old k).entries indexes) (sym is)
      by_test false other =
          ap (λ (p : PartState). rows_found p.entries indexes)
          (unwritten old new at takes.after within takes.now (part_of count indexes) other)

  pub table_takes : TakesEmit table emit (entries_of old) (entries_of new)
  table_takes = record {
    indexes =
        distinct_alike (keys_of (entries_of new)) (emit.indexes ∷ keys_of (entries_of old)) lists_taken
        ∙ distinct_of_both indexes_total indexes_tie (emit.indexes ∷ []) (keys_of (entries_of old));
    rows = λ emits shown.
        rows_in_part count new still_placed emit.indexes
        ∙ ap (λ (p : PartState). rows_found p.entries emit.indexes) after_is
        ∙ takes.takes.rows emits
        (ap (λ (p : PartState). rows_found p.entries emit.indexes) (sym before_is)
        ∙ sym (rows_in_part count old placed emit.indexes) ∙ shown);
    others = λ indexes apart.
        rows_in_part count new still_placed indexes ∙ rows_elsewhere_stay indexes apart
        ∙ sym (rows_in_part count old placed indexes);
    still = λ most are. all_of_table table (most + 1) new (parts_of_taken most (each_of_table table most old are));
  }

-- each part takes that of the other side with its number
module _ (table : Declaration) (most count : ℕ) (others old new : List PartState)
    (placed : (i : ℕ) → IsPlaced count i (part_at old i).entries)
    (beside : (i : ℕ) → IsPlaced count i (part_at others i).entries)
    (takes : (i : ℕ)
    → TakesAll table most (part_at others i).entries (part_at old i).entries (part_at new i).entries) where
  among_new : (i : ℕ) (indexes : List Datum) → is_among indexes (keys_of (part_at new i).entries)
      ≡ (is_among indexes (keys_of (part_at old i).entries) || is_among indexes (keys_of (part_at others i).entries))
  among_new i indexes =
      alike_distinct (keys_of (part_at new i).entries)
      (keys_of (part_at old i).entries ++ keys_of (part_at others i).entries) (takes i).indexes indexes
      ∙ among_both indexes (keys_of (part_at old i).entries) (keys_of (part_at others i).entries)

  by_side : (i : ℕ) (indexes : List Datum) (b : Bool) → is_among indexes (keys_of (part_at old i).entries) ≡ b
      → (b || is_among indexes (keys_of (part_at others i).entries)) ≡ true → part_of count indexes ≡ i
  by_side i indexes true mine there = number_among count i (keys_of (part_at old i).entries) (placed i) indexes mine
  by_side i indexes false mine there =
      number_among count i (keys_of (part_at others i).entries) (beside i) indexes there

  pub placed_both : (i : ℕ) → IsPlaced count i (part_at new i).entries
  placed_both i =
      placed_by count i (keys_of (part_at new i).entries)
      (λ indexes there. by_side i indexes (is_among indexes (keys_of (part_at old i).entries)) refl
      (sym (among_new i indexes) ∙ there))

  lists_of_both : (indexes : List Datum) → is_among indexes (keys_of (entries_of new))
      ≡ is_among indexes (keys_of (entries_of old) ++ keys_of (entries_of others))
  lists_of_both indexes =
      among_in_part count new placed_both indexes ∙ among_new (part_of count indexes) indexes
      ∙ (λ i. sym (among_in_part count old placed indexes) i || sym (among_in_part count others beside indexes) i)
      ∙ sym (among_both indexes (keys_of (entries_of old)) (keys_of (entries_of others)))

  pub takes_parts : TakesAll table most (entries_of others) (entries_of old) (entries_of new)
  takes_parts = record {
    indexes = distinct_alike (keys_of (entries_of new))
        (keys_of (entries_of old) ++ keys_of (entries_of others)) lists_of_both;
    rows = λ indexes front later before after.
        rows_in_part count new placed_both indexes
        ∙ (takes (part_of count indexes)).rows indexes front later
        (sym (rows_in_part count old placed indexes) ∙ before) (sym (rows_in_part count others beside indexes) ∙ after);
    still = all_of_table table most new (λ i. (takes i).still);
  }

-- where room alone changed in parts, the same is shown
module _ (old new : List PartState) (placed : ArePlaced old) (looks : PartsLookTheSame old new) where
  looks_placed : (i : ℕ) → IsPlaced (length old) i (part_at new i).entries
  looks_placed i = subst (AllByRecursion (λ l. part_of (length old) l ≡ i)) (sym (looks.each i).keys) (placed i)

  pub placed_roomier : ArePlaced new
  placed_roomier = subst (λ c. (i : ℕ) → IsPlaced c i (part_at new i).entries) (sym looks.as_many) looks_placed

  pub shown_roomier : rows_in_order (entries_of new) ≡ rows_in_order (entries_of old)
  shown_roomier =
      shown_alike (entries_of new) (entries_of old)
      (λ indexes.
      among_in_part (length old) new looks_placed indexes
      ∙ ap (is_among indexes) (looks.each (part_of (length old) indexes)).keys
      ∙ sym (among_in_part (length old) old placed indexes)) (λ indexes.
      rows_in_part (length old) new looks_placed indexes ∙ (looks.each (part_of (length old) indexes)).rows indexes
      ∙ sym (rows_in_part (length old) old placed indexes))

  pub settled_roomier : AreSettled old → AreSettled new
  settled_roomier settled i = looks.arriving i ∙ settled i

  pub parts_of_roomier : (table : Declaration) (count : ℕ) → ArePartsOf table count old → ArePartsOf table count new
  parts_of_roomier table count are i = (looks.each i).still table count (are i)
