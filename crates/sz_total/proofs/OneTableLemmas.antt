-- What one table keeps to, and what is shown of it, when its parts change.
use Rattle.std.proofs.Common.{◌≡◌, ◌∙◌, ℕ, ◌+◌, ◌%◌, ◌≤◌, ◌<◌, ◌⊎◌, inl, inr, List, [], ◌∷◌, length, refl, sym, ap, subst, arith, All, zero, suc}
use Rattle.std.specs.Map.{values_of}
use Rattle.std.proofs.lemmas.List.Elements.{All-nil, All-weaker}
use Rattle.std.proofs.lemmas.Option.{slice_get-get_or}
use Rattle.sz_types.specs.Tables.{Declaration}
use Rattle.sz_value.specs.Data.{Datum}
use Rattle.sz_flat.specs.Digest.{list_digest}
use Rattle.sz_tabs.specs.Data.{EmitDatum}
use Rattle.sz_total.specs.Aggregates.{family_of, family_for}
use Rattle.sz_total.specs.Dealing.{HaveShares}
use Rattle.sz_total.specs.Entries.{IsOfTable, AreOfTable}
use Rattle.sz_total.specs.OneTable.{TableState, IsKept, ChangesRoomAlone}
use Rattle.sz_total.specs.Parts.{PartState, empty_part, part_at, part_of, entries_of, IsPlaced, ArePartsOf, IsPartOf, ArePartsAlike, PartTakesEmit, PartsLookTheSame}
use Rattle.sz_total.specs.Weights.{HasItsWeights}
use Rattle.sz_total.specs.declared.aggregate.Aggregate.{Aggregate}
use Rattle.sz_total.proofs.EntryLemmas.{of_table_longer}
use Rattle.sz_total.proofs.PartLemmas.{all_of_table}
use Rattle.sz_total.proofs.PartsLemmas.{as_many_taken, placed_taken, settled_taken, parts_of_taken}
use Rattle.sz_total.proofs.PartsLemmas.{placed_roomier, shown_roomier, settled_roomier, parts_of_roomier}
use Rattle.sz_total.proofs.DealingLemmas.{placed_dealt, settled_dealt, parts_of_dealt, shown_dealt}

-- the number of a part is one of 16
pub part_within : (indexes : List Datum) → part_of 16 indexes < 16
unfolding part_of
part_within indexes = below_16 (list_digest indexes)
  where
    below_16 : (n : ℕ) → n % 16 < 16
    below_16 n = omega arith

-- the part with a number is one of the table's
pub part_of_table : (table : Declaration) (count at : ℕ) (parts : List PartState) → at < length parts
    → ArePartsOf table count parts → IsPartOf table count at parts
part_of_table table count at parts less are = record {
  own = part_at parts at;
  there = slice_get-get_or parts at empty_part less;
  are = are at;
}

-- where there is one part, each index list is one of it
pub only_part : (parts : List PartState) (indexes : List Datum) → length parts ≡ 1 → 0 ≡ part_of (length parts) indexes
unfolding part_of
only_part parts indexes one = zero_by (list_digest indexes) ∙ ap (λ n. list_digest indexes % n) (sym one)
  where
    zero_by : (n : ℕ) → 0 ≡ n % 1
    zero_by n = omega arith

-- there is a part
pub some_parts : (parts : List PartState) → (length parts ≡ 1) ⊎ (length parts ≡ 16) → 0 < length parts
some_parts parts (inl one) = omega (arith, one)
some_parts parts (inr many) = omega (arith, many)

pub longer_parts : (table : Declaration) (few many : ℕ) → few ≤ many → (parts : List PartState)
    → ArePartsOf table few parts → ArePartsOf table many parts
longer_parts table few many more parts are at = of_table_longer table few many more (part_at parts at).entries (are at)

-- parts of one table are alike
all_alike : (table : Declaration) (count : ℕ) (values : List Aggregate) → All (IsOfTable table count) values
    → All (λ (a : Aggregate). family_of a ≡ family_for table.kind) values
all_alike table count values are = All-weaker (IsOfTable table count)
    (λ (a : Aggregate). family_of a ≡ family_for table.kind) (λ a is. is.family) values are

pub parts_alike : (table : Declaration) (mine yours : ℕ) (parts others : List PartState) → ArePartsOf table mine parts
    → ArePartsOf table yours others → ArePartsAlike parts others
parts_alike table mine yours parts others are others_are at = record {
  family = family_for table.kind;
  mine = all_alike table mine (values_of (part_at parts at).entries) (are at);
  others_too = all_alike table yours (values_of (part_at others at).entries) (others_are at);
}

-- a table that took an emit
pub kept_taken : (table : Declaration) (count : ℕ) (emit : EmitDatum) (old new : List PartState)
    → IsKept table count old → PartTakesEmit table emit old new → IsKept table (count + 1) new
kept_taken table count emit old new kept takes = record {
  weights = kept.weights;
  one_or_many =
      subst (λ n. (n ≡ 1) ⊎ (n ≡ 16)) (sym (as_many_taken table emit old new kept.placed takes)) kept.one_or_many;
  placed = placed_taken table emit old new kept.placed takes;
  aggregates = parts_of_taken table emit old new kept.placed takes count kept.aggregates;
  settled = settled_taken table emit old new kept.placed takes kept.settled;
}

-- a table whose parts have more room
pub kept_roomier : (table : Declaration) (count : ℕ) (old new : List PartState) → IsKept table count old
    → PartsLookTheSame old new → IsKept table count new
kept_roomier table count old new kept looks = record {
  weights = kept.weights;
  one_or_many = subst (λ n. (n ≡ 1) ⊎ (n ≡ 16)) (sym looks.as_many) kept.one_or_many;
  placed = placed_roomier old new kept.placed looks;
  aggregates = parts_of_roomier old new kept.placed looks table count kept.aggregates;
  settled = settled_roomier old new kept.placed looks kept.settled;
}

pub changes_roomier : (table : Declaration) (count : ℕ) (old new : List PartState) (state : TableState)
    → IsKept table count old → PartsLookTheSame old new
    → (record { table = table; count = count; parts = old }) ≡ state
    → ChangesRoomAlone state (record { table = table; count = count; parts = new })
changes_roomier table count old new state kept looks is =
    subst (λ s. ChangesRoomAlone s (record { table = table; count = count; parts = new })) is
    (record { same_table = refl; same_count = refl; rows = shown_roomier old new kept.placed looks })

-- a table that was dealt out
pub kept_dealt : (table : Declaration) (count : ℕ) (old new : List PartState) → IsKept table count old
    → HaveShares (entries_of old) [] new → IsKept table count new
kept_dealt table count old new kept dealt = record {
  weights = kept.weights;
  one_or_many = inr dealt.as_many;
  placed = placed_dealt (entries_of old) new dealt;
  aggregates = parts_of_dealt (entries_of old) new dealt table count (all_of_table table count old kept.aggregates);
  settled = settled_dealt (entries_of old) new dealt;
}

pub changes_dealt : (table : Declaration) (count : ℕ) (old new : List PartState) (state : TableState)
    → HaveShares (entries_of old) [] new → (record { table = table; count = count; parts = old }) ≡ state
    → ChangesRoomAlone state (record { table = table; count = count; parts = new })
changes_dealt table count old new state dealt is =
    subst (λ s. ChangesRoomAlone s (record { table = table; count = count; parts = new })) is
    (record { same_table = refl; same_count = refl; rows = shown_dealt (entries_of old) new dealt part_within })

-- what is shown stays through both changes
pub changes_same : (state : TableState) → ChangesRoomAlone state state
changes_same state = record { same_table = refl; same_count = refl; rows = refl }

pub changes_both : (first mid last : TableState) → ChangesRoomAlone first mid → ChangesRoomAlone mid last
    → ChangesRoomAlone first last
changes_both first mid last before after = record {
  same_table = after.same_table ∙ before.same_table;
  same_count = after.same_count ∙ before.same_count;
  rows = after.rows ∙ before.rows;
}

-- a table without any emit
pub kept_new : (table : Declaration) → HasItsWeights table → IsKept table 0 (empty_part ∷ [])
kept_new table weights = record {
  weights = weights;
  one_or_many = inl refl;
  placed = λ at. placed at;
  aggregates = λ at. are at;
  settled = λ at. settled at;
}
  where
    at_any : (at : ℕ) → part_at (empty_part ∷ []) at ≡ empty_part
    at_any zero = refl
    at_any (suc zero) = refl
    at_any (suc (suc at)) = refl

    placed : (at : ℕ) → IsPlaced 1 at (part_at (empty_part ∷ []) at).entries
    placed at = subst (λ (p : PartState). IsPlaced 1 at p.entries) (sym (at_any at)) tt

    are : (at : ℕ) → AreOfTable table 0 (part_at (empty_part ∷ []) at).entries
    are at = subst (λ (p : PartState). AreOfTable table 0 p.entries) (sym (at_any at)) (All-nil (IsOfTable table 0))

    settled : (at : ℕ) → (part_at (empty_part ∷ []) at).arriving ≡ []
    settled at = ap (λ (p : PartState). p.arriving) (at_any at)
