-- What a merge does to one table, and to all of them.
use Rattle.std.proofs.Common.{◌≡◌, ◌∙◌, ℕ, zero, suc, ◌+◌, ◌≤◌, ◌<◌, ◌^◌, Bool, true, false, true≢false, ◌⊎◌, inl, inr, Option, Some, None, List}
use Rattle.std.proofs.Common.{Result, Ok, Err, OnOk}
use Rattle.std.specs.Result.{is_err}
use Rattle.std.proofs.Common.{[], ◌∷◌, ◌++◌, map, length, refl, sym, ap, subst, arith, All, nat_eq}
use Rattle.std.specs.Prelude.{slice_get, slice_index_or, set}
use Rattle.std.specs.Option.{option_map}
use Rattle.std.proofs.Math.Seq.{map-set_same}
use Rattle.std.proofs.lemmas.Bool.{eq-eqb, eqb-true}
use Rattle.std.proofs.lemmas.List.{length-append, length-set}
use Rattle.std.proofs.lemmas.List.Elements.{All-set, All-head, All-tail, All-cons, All-nil}
use Rattle.std.proofs.lemmas.Option.{slice_get-map, slice_get_within, get_or_from_slice_get}
use Rattle.sz_types.specs.Tables.{Declaration}
use Rattle.sz_tabs.specs.Data.{EmitDatum}
use Rattle.sz_total.specs.Tables.{table_rows}
use Rattle.sz_total.specs.Totals.{StandsFor, Joins}
use Rattle.sz_total.specs.States.{TotalState, declarations, emit_count, shown}
use Rattle.sz_total.specs.Entries.{AreOfTable}
use Rattle.sz_total.specs.Joining.{TakesAll, JoinsEntries}
use Rattle.sz_total.specs.Parts.{PartState, part_at, entries_of, IsPlaced, ArePlaced, ArePartsOf, AreSettled, HavePartRoom, Receives}
use Rattle.sz_total.specs.Parts.{MayJoin, MayJoinAll, SettleAll}
use Rattle.sz_total.specs.OneTable.{TableState, IsKept, table_shown, AreTables, HasRoomToMerge, JoinsTable, state_of}
use Rattle.sz_total.specs.Merging.{tables_of, AreMatched, IsMatchedAt, HasRoomAt, ChangesRoomAt, ChangeRoomAlone, HaveRoomToMerge}
use Rattle.sz_total.specs.Merging.{AreFew, MayMergeAt, MergesAt, JoinTables}
use Rattle.sz_total.proofs.EntryLemmas.{of_table_longer}
use Rattle.sz_total.proofs.JoiningLemmas.{are_ready, takes_none, rows_of_both}
use Rattle.sz_total.proofs.PartLemmas.{nothing_past}
use Rattle.sz_total.proofs.PartsLemmas.{placed_both, takes_parts}
use Rattle.sz_total.proofs.DealingLemmas.{below}
use Rattle.sz_total.proofs.TotalLemmas.{state_at, few_at}

-- what is known of both tables before a merge
pub record AreSides (table its : Declaration) (mine yours : ℕ) (parts others : List PartState) : Type 0 where
  pub same : its ≡ table
  pub as_many : length others ≡ length parts
  pub are : ArePartsOf table mine parts
  pub others_are : ArePartsOf table yours others
  pub few : mine + yours ≤ 2 ^ 63
  pub room : HavePartRoom parts others

pub are_sides : (table its : Declaration) (mine yours : ℕ) (parts others : List PartState) (old other : TableState)
    → (record { table = table; count = mine; parts = parts }) ≡ old
    → (record { table = its; count = yours; parts = others }) ≡ other
    → other.table ≡ old.table → old.count + other.count ≤ 2 ^ 63 → HasRoomToMerge old other
    → ArePartsOf table mine parts → ArePartsOf its yours others → AreSides table its mine yours parts others
are_sides table its mine yours parts others old other is your_is same few room are others_are =
    let one : its ≡ table =
    ap (λ (s : TableState). s.table) your_is ∙ same ∙ sym (ap (λ (s : TableState). s.table) is) in
    record {
      same = one;
      as_many =
          ap (λ (s : TableState). length s.parts) your_is ∙ room.as_many
          ∙ sym (ap (λ (s : TableState). length s.parts) is);
      are = are;
      others_are = subst (λ t. ArePartsOf t yours others) one others_are;
      few = omega (arith, few, ap (λ (s : TableState). s.count) is, ap (λ (s : TableState). s.count) your_is);
      room =
          subst (λ (s : TableState). HavePartRoom s.parts others) (sym is)
          (subst (λ (s : TableState). HavePartRoom old.parts s.parts) (sym your_is) room.parts);
    }

-- parts that may be joined, and their rows after that
module _ (table its : Declaration) (mine yours : ℕ) (parts others mid new : List PartState)
    (sides : AreSides table its mine yours parts others)
    (receives : Receives others parts mid) where
  pub may_join_all : MayJoinAll mid
  may_join_all at less =
      subst MayJoin (sym (receives.each at))
      (record {
        ready =
            are_ready table mine yours (2 ^ 63) sides.few (part_at parts at).entries (part_at others at).entries
            (sides.are at) (sides.others_are at) (sides.room at).aggregates;
        room = (sides.room at).lists;
      })

  module _ (placed : ArePlaced parts) (others_placed : ArePlaced others) (all : SettleAll mid new) where
    abbrev both : ℕ
    both = mine + yours

    pub as_many_new : length new ≡ length parts
    as_many_new = all.as_many ∙ receives.as_many

    takes_each : (at : ℕ)
        → TakesAll table both (part_at others at).entries (part_at parts at).entries (part_at new at).entries
    takes_each at = by_place (below at (length mid))
      where
        are : AreOfTable table both (part_at parts at).entries
        are = of_table_longer table mine both (omega arith) (part_at parts at).entries (sides.are at)

        by_place : (at < length mid) ⊎ (length mid ≤ at)
            → TakesAll table both (part_at others at).entries (part_at parts at).entries (part_at new at).entries
        by_place (inl less) =
            let joins : JoinsEntries (part_at others at).entries (part_at parts at).entries (part_at new at).entries =
            subst (λ (p : PartState). JoinsEntries p.arriving p.entries (part_at new at).entries) (receives.each at)
            (all.each at less).joins in
            joins.takes table both are
            (of_table_longer table yours both (omega arith) (part_at others at).entries (sides.others_are at))
            (are_ready table mine yours both (omega arith)
            (part_at parts at).entries (part_at others at).entries (sides.are at) (sides.others_are at)
            (sides.room at).aggregates)
        by_place (inr past) =
            let mine_not = nothing_past parts at (omega (arith, past, receives.as_many)) in
            let your_not = nothing_past others at (omega (arith, past, receives.as_many, sides.as_many)) in
            let new_not = nothing_past new at (omega (arith, past, all.as_many)) in
            subst (λ (p : PartState).
            TakesAll table both p.entries (part_at parts at).entries (part_at new at).entries) (sym your_not)
            (takes_none table both (part_at parts at).entries (part_at new at).entries
            (ap (λ (p : PartState). p.entries) (new_not ∙ sym mine_not)) are)

    others_numbered : (at : ℕ) → IsPlaced (length parts) at (part_at others at).entries
    others_numbered = subst (λ c. (at : ℕ) → IsPlaced c at (part_at others at).entries) sides.as_many others_placed

    pub placed_joined : ArePlaced new
    placed_joined =
        subst (λ c. (at : ℕ) → IsPlaced c at (part_at new at).entries) (sym as_many_new)
        (placed_both table both (length parts) others parts new placed others_numbered takes_each)

    pub parts_of_joined : ArePartsOf table both new
    parts_of_joined at = (takes_each at).still

    pub settled_joined : AreSettled new
    settled_joined at = by_place (below at (length mid))
      where
        by_place : (at < length mid) ⊎ (length mid ≤ at) → (part_at new at).arriving ≡ []
        by_place (inl less) = (all.each at less).arriving
        by_place (inr past) =
            ap (λ (p : PartState). p.arriving) (nothing_past new at (omega (arith, past, all.as_many)))

    pub table_joined : (old other : TableState) → (record { table = table; count = mine; parts = parts }) ≡ old
        → (record { table = its; count = yours; parts = others }) ≡ other
        → JoinsTable old other (record { table = table; count = mine + yours; parts = new })
    table_joined old other is your_is =
        subst (λ o. JoinsTable o other (record { table = table; count = mine + yours; parts = new })) is
        (subst
        (λ o. JoinsTable (record { table = table; count = mine; parts = parts }) o
        (record { table = table; count = mine + yours; parts = new }))
        your_is
        (record {
          same_table = refl;
          both_counts = refl;
          rows = λ number front later before after.
              rows_of_both number table front later both (entries_of others) (entries_of parts) (entries_of new)
              (takes_parts table both (length parts) others parts new placed others_numbered takes_each) before after;
        }))

-- a table that was merged with another
pub kept_joined : (table its : Declaration) (mine yours : ℕ) (parts others mid new : List PartState)
    → AreSides table its mine yours parts others → Receives others parts mid → IsKept table mine parts
    → IsKept its yours others → SettleAll mid new → IsKept table (mine + yours) new
kept_joined table its mine yours parts others mid new sides receives kept others_kept all = record {
  weights = kept.weights;
  one_or_many =
      subst (λ n. (n ≡ 1) ⊎ (n ≡ 16))
      (sym (as_many_new table its mine yours parts others mid new sides receives kept.placed others_kept.placed all))
      kept.one_or_many;
  placed = placed_joined table its mine yours parts others mid new sides receives kept.placed others_kept.placed all;
  aggregates =
      parts_of_joined table its mine yours parts others mid new sides receives kept.placed others_kept.placed all;
  settled = settled_joined table its mine yours parts others mid new sides receives kept.placed others_kept.placed all;
}

-- what is found after a write
set_here : {X : Type 0} (xs : List X) (i : ℕ) (x : X) → i < length xs → slice_get (set xs i x) i ≡ Some x
set_here [] i x less = let no : ⊥ = omega (arith, less) in absurd no
set_here (y ∷ ys) zero x less = refl
set_here (y ∷ ys) (suc i) x less = set_here ys i x (omega (arith, less))

set_elsewhere : {X : Type 0} (xs : List X) (i j : ℕ) (x : X) → (i ≡ j → ⊥) → slice_get (set xs i x) j ≡ slice_get xs j
set_elsewhere [] i j x other = refl
set_elsewhere (y ∷ ys) zero zero x other = absurd (other refl)
set_elsewhere (y ∷ ys) zero (suc j) x other = refl
set_elsewhere (y ∷ ys) (suc i) zero x other = refl
set_elsewhere (y ∷ ys) (suc i) (suc j) x other = set_elsewhere ys i j x (λ same. other (ap suc same))

-- places that a test tells apart
apart_by : (i j : ℕ) → nat_eq i j ≡ false → i ≡ j → ⊥
apart_by i j apart same = true≢false (sym (eq-eqb i j same) ∙ apart)

at_length : {X : Type 0} (xs : List X) (y : X) (rest : List X) → slice_get (xs ++ y ∷ rest) (length xs) ≡ Some y
at_length [] y rest = refl
at_length (x ∷ xs) y rest = at_length xs y rest

-- what stands after a list is at the place of its length
pub found_after : {X : Type 0} (xs : List X) (y : X) (rest all : List X) (at : ℕ) → at ≡ length xs
    → xs ++ y ∷ rest ≡ all → slice_get all at ≡ Some y
found_after xs y rest all at place is = ap (slice_get all) place ∙ ap (λ l. slice_get l (length xs)) (sym is)
    ∙ at_length xs y rest

-- the other side has a table at each place, with the same declaration
pub matched_at : (states others : List TableState) → AreMatched states others → (at : ℕ) (other : TableState)
    → slice_get others at ≡ Some other → IsMatchedAt at states others
matched_at states others matched at other there =
    let found = state_at (tables_of others) states (sym matched) at other.table
    (slice_get-map (λ (s : TableState). s.table) others at ∙ ap (option_map (λ (s : TableState). s.table)) there) in
    record { state = found.0; there = found.1; other = other; other_there = there; same = sym found.2 }

-- room alone leaves what is known of tables
module _ (at : ℕ) (old new : List TableState) (changes : ChangesRoomAt at old new) where
  before_is : slice_index_or old at changes.before ≡ changes.before
  before_is = get_or_from_slice_get old at changes.before changes.before changes.there

  changed_maps : {X : Type 0} (f : TableState → X) → f changes.after ≡ f changes.before → map f new ≡ map f old
  changed_maps f same =
      ap (map f) changes.now ∙ map-set_same f old at changes.after changes.before (same ∙ ap f (sym before_is))

  one_changed : ChangeRoomAlone old new
  one_changed = record {
    declared = changed_maps (λ (s : TableState). s.table) changes.changes.same_table;
    rows = changed_maps table_shown changes.changes.rows;
    still = λ tables count are. record {
      declared = changed_maps (λ (s : TableState). s.table) changes.changes.same_table ∙ are.declared;
      few =
          subst (All (λ (s : TableState). s.count ≤ count)) (sym changes.now)
          (All-set (λ (s : TableState). s.count ≤ count) old at changes.after
          (omega (arith, few_at count old are.few at changes.before changes.there, changes.changes.same_count))
          are.few);
    };
  }

-- there are as many tables
pub length_changed : (at : ℕ) (old new : List TableState) → ChangesRoomAt at old new → length new ≡ length old
length_changed at old new changes = ap length changes.now ∙ length-set old at changes.after

-- nothing changed
pub changes_none : (states : List TableState) → ChangeRoomAlone states states
changes_none states = record { declared = refl; rows = refl; still = λ tables count are. are }

-- nothing but room changed before, and in the table at a place
pub changes_more : (at : ℕ) (first current new : List TableState) → ChangeRoomAlone first current
    → ChangesRoomAt at current new → ChangeRoomAlone first new
changes_more at first current new before changes =
    let one = one_changed at current new changes in
    record {
      declared = one.declared ∙ before.declared;
      rows = one.rows ∙ before.rows;
      still = λ tables count are. one.still tables count (before.still tables count are);
    }

-- room was made in the first tables
pub record IsRoomMadeTo (at : ℕ) (first your_first current others : List TableState) : Type 0 where
  pub kept : ChangeRoomAlone first current
  pub others_kept : ChangeRoomAlone your_first others
  pub room : (i : ℕ) (own other : TableState) → i < at → slice_get current i ≡ Some own
      → slice_get others i ≡ Some other → HasRoomToMerge own other

pub made_none : (first your_first : List TableState) → IsRoomMadeTo 0 first your_first first your_first
made_none first your_first = record {
  kept = changes_none first;
  others_kept = changes_none your_first;
  room = λ i own other less mine beside. let no : ⊥ = omega (arith, less) in absurd no;
}

not_there : (l : List TableState) (i : ℕ) → i < length l → slice_get l i ≡ None → ⊥
not_there [] i less is = omega (arith, less)
not_there (s ∷ ss) zero less is = let no : ⊥ = cc in no
not_there (s ∷ ss) (suc i) less is = not_there ss i (omega (arith, less)) is

-- the next tables of both sides are matched
pub next_matched : (at : ℕ) (first your_first current others : List TableState) → AreMatched first your_first
    → IsRoomMadeTo at first your_first current others → at < length others → IsMatchedAt at current others
next_matched at first your_first current others matched made less =
    by_found (slice_get others at) refl
  where
    now_matched : AreMatched current others
    now_matched = made.others_kept.declared ∙ matched ∙ sym made.kept.declared

    by_found : (found : Option TableState) → slice_get others at ≡ found → IsMatchedAt at current others
    by_found None is = absurd (not_there others at less is)
    by_found (Some other) is = matched_at current others now_matched at other is

pub made_more : (at : ℕ) (first your_first current others new others_new : List TableState)
    → IsRoomMadeTo at first your_first current others
    → ChangesRoomAt at current new → ChangesRoomAt at others others_new → HasRoomAt at new others_new
    → IsRoomMadeTo (at + 1) first your_first new others_new
made_more at first your_first current others new others_new before changes their_changes has = record {
  kept = changes_more at first current new before.kept changes;
  others_kept = changes_more at your_first others others_new before.others_kept their_changes;
  room = λ i own yours less mine beside. by_test i own yours less mine beside (nat_eq at i) refl;
}
  where
    by_test : (i : ℕ) (own yours : TableState) → i < at + 1 → slice_get new i ≡ Some own
        → slice_get others_new i ≡ Some yours → (b : Bool) → nat_eq at i ≡ b → HasRoomToMerge own yours
    by_test i own yours less mine beside true here =
        let is = eqb-true at i here in
        let one : has.state ≡ own = let e = sym has.there ∙ ap (slice_get new) is ∙ mine in cc in
        let two : has.other ≡ yours = let e = sym has.other_there ∙ ap (slice_get others_new) is ∙ beside in cc in
        subst (λ o. HasRoomToMerge o yours) one (subst (HasRoomToMerge has.state) two has.room)
    by_test i own yours less mine beside false apart =
        before.room i own yours (omega (arith, less, apart_by at i apart))
        (sym (set_elsewhere current at i changes.after (apart_by at i apart))
        ∙ ap (λ l. slice_get l i) (sym changes.now) ∙ mine)
        (sym (set_elsewhere others at i their_changes.after (apart_by at i apart))
        ∙ ap (λ l. slice_get l i) (sym their_changes.now) ∙ beside)

-- all were made
pub all_made : (at : ℕ) (first your_first current others : List TableState) → length others ≤ at
    → IsRoomMadeTo at first your_first current others → HaveRoomToMerge current others
all_made at first your_first current others end made = λ i own other mine beside.
    made.room i own other (omega (arith, end, slice_get_within others i other beside)) mine beside

-- the first tables were merged, and the others are as they were
pub record IsMergedTo (at : ℕ) (others first current : List TableState) : Type 0 where
  pub as_many : length current ≡ length first
  pub joined : (i : ℕ) (own other : TableState) → i < at → slice_get first i ≡ Some own
      → slice_get others i ≡ Some other
      → (now : TableState) × (slice_get current i ≡ Some now) × JoinsTable own other now
  pub still : (i : ℕ) → at ≤ i → slice_get current i ≡ slice_get first i

-- the next table may be merged
pub may_merge : (at : ℕ) (other : TableState) (others first current : List TableState)
    → slice_get others at ≡ Some other → AreMatched first others → AreFew first others → HaveRoomToMerge first others
    → IsMergedTo at others first current → MayMergeAt at other current
unfolding matched_at
may_merge at other others first current there matched few room merged =
    let own = matched_at first others matched at other there in
    record {
      state = own.state;
      there = merged.still at (omega arith) ∙ own.there;
      same = own.same;
      few = few at own.state other own.there there;
      room = room at own.state other own.there there;
    }

pub merged_more : (at : ℕ) (other : TableState) (others first current new : List TableState)
    → slice_get others at ≡ Some other
    → IsMergedTo at others first current → MergesAt at other current new → IsMergedTo (at + 1) others first new
merged_more at other others first current new there before merges = record {
  as_many = ap length merges.now ∙ length-set current at merges.after ∙ before.as_many;
  joined = λ i own yours less mine beside. by_test i own yours less mine beside (nat_eq at i) refl;
  still = λ i more.
      ap (λ l. slice_get l i) merges.now ∙ set_elsewhere current at i merges.after (higher i more)
      ∙ before.still i (omega (arith, more));
}
  where
    higher : (i : ℕ) → at + 1 ≤ i → at ≡ i → ⊥
    higher i more same = omega (arith, more, same)

    by_test : (i : ℕ) (own yours : TableState) → i < at + 1 → slice_get first i ≡ Some own
        → slice_get others i ≡ Some yours → (b : Bool)
        → nat_eq at i ≡ b → (now : TableState) × (slice_get new i ≡ Some now) × JoinsTable own yours now
    by_test i own yours less mine beside true here =
        let is = eqb-true at i here in
        let one : merges.before ≡ own =
        let e = sym merges.there ∙ before.still at (omega arith) ∙ ap (slice_get first) is ∙ mine in cc in
        let two : other ≡ yours = let e = sym there ∙ ap (slice_get others) is ∙ beside in cc in (
          merges.after,
          ap (λ l. slice_get l i) merges.now ∙ ap (slice_get (set current at merges.after)) (sym is)
              ∙ set_here current at merges.after (slice_get_within current at merges.before merges.there),
          subst (λ o. JoinsTable o yours merges.after) one
              (subst (λ y. JoinsTable merges.before y merges.after) two merges.joins),
        )
    by_test i own yours less mine beside false apart =
        let earlier = before.joined i own yours (omega (arith, less, apart_by at i apart)) mine beside in (
          earlier.0,
          ap (λ l. slice_get l i) merges.now
              ∙ set_elsewhere current at i merges.after (apart_by at i apart) ∙ earlier.1,
          earlier.2,
        )

pub all_merged : (at : ℕ) (others first current : List TableState) → length others ≤ at
    → IsMergedTo at others first current → JoinTables first others current
all_merged at others first current end merged = record {
  as_many = merged.as_many;
  joined = λ i own other mine beside.
      merged.joined i own other (omega (arith, end, slice_get_within others i other beside)) mine beside;
}

-- tables of which each is merged are tables still
merged_tail : (o t n : TableState) (old others new : List TableState) → JoinTables (o ∷ old) (t ∷ others) (n ∷ new)
    → JoinTables old others new
merged_tail o t n old others new joins = record {
  as_many = omega (arith, joins.as_many);
  joined = λ at own other mine beside. joins.joined (suc at) own other mine beside;
}

merged_head : (o t n : TableState) (old others new : List TableState) → JoinTables (o ∷ old) (t ∷ others) (n ∷ new)
    → JoinsTable o t n
merged_head o t n old others new joins =
    let first = joins.joined 0 o t refl refl in
    subst (JoinsTable o t) (let e = first.1 in cc) first.2

merged_declared : (old others new : List TableState) → length others ≡ length old → JoinTables old others new
    → tables_of new ≡ tables_of old
merged_declared [] others [] as_many joins = refl
merged_declared [] others (n ∷ new) as_many joins = let no : ⊥ = omega (arith, joins.as_many) in absurd no
merged_declared (o ∷ old) [] new as_many joins = let no : ⊥ = omega (arith, as_many) in absurd no
merged_declared (o ∷ old) (t ∷ others) [] as_many joins = let no : ⊥ = omega (arith, joins.as_many) in absurd no
merged_declared (o ∷ old) (t ∷ others) (n ∷ new) as_many joins = λ i.
    (merged_head o t n old others new joins).same_table i
    ∷ merged_declared old others new (omega (arith, as_many)) (merged_tail o t n old others new joins) i

merged_few : (mine yours : ℕ) (old others new : List TableState) → length others ≡ length old
    → JoinTables old others new → All (λ (s : TableState). s.count ≤ mine) old
    → All (λ (s : TableState). s.count ≤ yours) others → All (λ (s : TableState). s.count ≤ mine + yours) new
merged_few mine yours [] others [] as_many joins few beside = All-nil (λ (s : TableState). s.count ≤ mine + yours)
merged_few mine yours [] others (n ∷ new) as_many joins few beside =
    let no : ⊥ = omega (arith, joins.as_many) in absurd no
merged_few mine yours (o ∷ old) [] new as_many joins few beside = let no : ⊥ = omega (arith, as_many) in absurd no
merged_few mine yours (o ∷ old) (t ∷ others) [] as_many joins few beside =
    let no : ⊥ = omega (arith, joins.as_many) in absurd no
merged_few mine yours (o ∷ old) (t ∷ others) (n ∷ new) as_many joins few beside =
    let one : o.count ≤ mine = All-head (λ (s : TableState). s.count ≤ mine) o old few in
    let two : t.count ≤ yours = All-head (λ (s : TableState). s.count ≤ yours) t others beside in
    All-cons (λ (s : TableState). s.count ≤ mine + yours) n new
    (omega (arith, one, two, (merged_head o t n old others new joins).both_counts))
    (merged_few mine yours old others new (omega (arith, as_many)) (merged_tail o t n old others new joins)
    (All-tail (λ (s : TableState). s.count ≤ mine) o old few)
    (All-tail (λ (s : TableState). s.count ≤ yours) t others beside))

-- both sides have tables at the same places
matched_length : (states others : List TableState) → AreMatched states others → length others ≡ length states
matched_length states others matched =
    sym (length-tables others) ∙ ap length matched ∙ length-tables states
  where
    length-tables : (l : List TableState) → length (tables_of l) ≡ length l
    length-tables [] = refl
    length-tables (s ∷ ss) = ap suc (length-tables ss)

-- few enough to be merged
pub are_few : (tables : List Declaration) (mine yours : ℕ) (states others : List TableState) → mine + yours ≤ 2 ^ 63
    → AreTables tables mine states → AreTables tables yours others → AreFew states others
are_few tables mine yours states others room are beside = λ at own other there yours_there.
    let one = few_at mine states are.few at own there in
    let two = few_at yours others beside.few at other yours_there in
    omega (arith, room, one, two)

-- all tables after a merge
module _ (tables : List Declaration) (mine yours : ℕ) (first states others new : List TableState)
    (are : AreTables tables mine first)
    (beside : AreTables tables yours others) (kept : ChangeRoomAlone first states)
    (joins : JoinTables states others new) where
  now_are : AreTables tables mine states
  now_are = kept.still tables mine are

  matched : AreMatched states others
  matched = beside.declared ∙ sym now_are.declared

  pub tables_joined : AreTables tables (mine + yours) new
  tables_joined = record {
    declared = merged_declared states others new (matched_length states others matched) joins ∙ now_are.declared;
    few = merged_few mine yours states others new (matched_length states others matched) joins now_are.few beside.few;
  }

  -- what is shown of a table that is there
  shown_there : (states : List TableState) (at : ℕ) (s : TableState) → slice_get states at ≡ Some s
      → slice_index_or (map table_shown states) at [] ≡ table_shown s
  shown_there states at s there =
      get_or_from_slice_get (map table_shown states) at (table_shown s) []
      (slice_get-map table_shown states at ∙ ap (option_map table_shown) there)

  rows_joined : (front later : List EmitDatum)
      → StandsFor declarations emit_count shown (state_of tables mine first) front
      → StandsFor declarations emit_count shown (state_of tables yours others) later
      → (table : ℕ) (declaration : Declaration) → slice_get tables table ≡ Some declaration
      → slice_index_or (map table_shown new) table [] ≡ table_rows table declaration (front ++ later)
  rows_joined front later stands theirs table declaration declared =
      let own = state_at tables states now_are.declared table declaration declared in
      let other = state_at tables others beside.declared table declaration declared in
      let now = joins.joined table own.0 other.0 own.1 other.1 in
      shown_there new table now.0 now.1
      ∙ now.2.rows table front later
      (sym (shown_there states table own.0 own.1) ∙ ap (λ l. slice_index_or l table []) kept.rows
      ∙ stands.rows table declaration declared ∙ ap (λ d. table_rows table d front) (sym own.2))
      (sym (shown_there others table other.0 other.1) ∙ theirs.rows table declaration declared
      ∙ ap (λ d. table_rows table d later) (sym own.2)) ∙ ap (λ d. table_rows table d (front ++ later)) own.2

  pub total_joined : (old other : TotalState) → state_of tables mine first ≡ old → state_of tables yours others ≡ other
      → Joins declarations emit_count shown old other (state_of tables (mine + yours) new)
  total_joined old other is your_is =
      subst (λ s. Joins declarations emit_count shown s other (state_of tables (mine + yours) new)) is
      (subst (λ s. Joins declarations emit_count shown (state_of tables mine first) s
      (state_of tables (mine + yours) new)) your_is
      (record {
        same_tables = refl;
        both_counts = refl;
        joined = λ front later stands theirs. record {
          rows = rows_joined front later stands theirs;
          counted = (λ i. stands.counted i + theirs.counted i) ∙ sym (length-append front later);
        };
      }))

-- what is known of all tables of both sides before a merge
pub record AreBoth (tables its : List Declaration) (mine yours : ℕ) (others : List TableState) : Type 0 where
  pub same : its ≡ tables
  pub beside : AreTables tables yours others
  pub few : mine + yours ≤ 2 ^ 63

pub its_state : (tables its : List Declaration) (yours : ℕ) (others : List TableState) (other : TotalState)
    → its ≡ tables → state_of its yours others ≡ other → state_of tables yours others ≡ other
its_state tables its yours others other same is = ap (λ t. state_of t yours others) (sym same) ∙ is

pub its_roomier : (tables : List Declaration) (yours : ℕ) (others roomy : List TableState) (other : TotalState)
    → ChangeRoomAlone others roomy → state_of tables yours others ≡ other → state_of tables yours roomy ≡ other
its_roomier tables yours others roomy other kept is =
    ap (λ rows. record { tables = tables; count = yours; rows = rows }) kept.rows ∙ is

pub are_both : (tables its : List Declaration) (mine yours : ℕ) (states others : List TableState)
    (old other : TotalState) → state_of tables mine states ≡ old → state_of its yours others ≡ other
    → other.tables ≡ old.tables → old.count + other.count ≤ 2 ^ 63 → AreTables its yours others
    → AreBoth tables its mine yours others
are_both tables its mine yours states others old other is your_is same few beside =
    let one : its ≡ tables =
    ap (λ (s : TotalState). s.tables) your_is ∙ same ∙ sym (ap (λ (s : TotalState). s.tables) is) in
    record {
      same = one;
      beside = subst (λ t. AreTables t yours others) one beside;
      few = omega (arith, few, ap (λ (s : TotalState). s.count) is, ap (λ (s : TotalState). s.count) your_is);
    }

-- what an answer says that is no refusal
pub not_refused : {T E P : Type 0} (r : Result T E) → is_err r ≡ false → OnOk r P → P
not_refused (Ok x) not p = p
not_refused (Err e) not p = absurd (true≢false not)
