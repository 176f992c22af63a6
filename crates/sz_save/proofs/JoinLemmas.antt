-- What is joined of what can be saved can be saved, and has under each index list the rows of both sides.
use Rattle.std.proofs.Common.{◌≡◌, ◌∙◌, ℕ, zero, suc, ◌+◌, ◌*◌, ◌^◌, ◌-◌, ◌≤◌, ℤ, pos, negsuc, unsigned_abs, Bool, true, false, true≢false, cond, ◌||◌, ◌⊎◌, inl, ⊎_elim, Some, List, [], ◌∷◌, ◌++◌, length, map, take, zip, slice_get, refl, sym, ap, subst, arith, le-ltb, take_all}
use Rattle.std.specs.List.{AllByRecursion}
use Rattle.std.proofs.lemmas.Int.{ints}
use Rattle.std.proofs.lemmas.List.{length-append}
use Rattle.sz_types.specs.Data.{Shape}
use Rattle.sz_types.specs.Tables.{Declaration}
use Rattle.sz_types.specs.declared.table.TableKind.{TableKind}
use Rattle.sz_types.specs.declared.table.TableKind.TheVariants.{Sum, Maximum, Minimum, Set, Collection}
use Rattle.sz_value.specs.Data.{Datum}
use Rattle.sz_value.specs.Order.{compare}
use Rattle.sz_value.specs.Total.{compare_total}
use Rattle.sz_flat.specs.Spelling.{IsShort}
use Rattle.sz_tabs.specs.Bounds.{IsWithin, AreWithin}
use Rattle.sz_tabs.specs.Data.{Shown, one, sums, overflow, RowDatum}
use Rattle.sz_tabs.specs.Sorting.{sorted, distinct}
use Rattle.sz_tabs.specs.Rows.{plus, value_row, overflow_row, set_rows}
use Rattle.sz_tabs.proofs.ForCallers.{within_further, within_plus}
use Rattle.sz_total.specs.Tables.{Indexed}
use Rattle.sz_save_format.specs.Entries.{IsCount, overflows, components, IsSavedValue, AreSavedSums, IsSavedSum, IsSavedRow, AreSavedRows, AreSumRows, HaveRows, IsSavedEntry, AreSavedEntries}
use Rattle.sz_save_format.specs.Saved.{SavedState, IsSavedTable, CanBeSaved}
use Rattle.sz_save.specs.Joined.{values_shown, sums_in, joined_sums, joined_sets, joined_rows, JoinsTable, JoinTables, Joins}
use Rattle.sz_save.specs.Walk.{joined_entries, joined_tables, HasSum, HasSums, CanJoin, CanJoinAll, HasCountedRows, AreCounted}
use Rattle.sz_save.proofs.SumLemmas.{length_of_plus}
use Rattle.sz_save.proofs.RisingLemmas.{rise, rising, all_hold, joined_rise, joined_at}
use Rattle.sz_save.proofs.RowLemmas.{all_both, sorted_long, maximum_saved, minimum_saved, set_saved, collection_saved, shown_saved, shown_long, value_rows_long}

-- ---- sums

near : (most : ℕ) (z : ℤ) → unsigned_abs z ≤ most → IsWithin most z
near most (pos n) h = record { low = omega (arith, ints, h); high = omega (arith, ints, h) }
near most (negsuc n) h = record { low = omega (arith, ints, h); high = omega (arith, ints, h) }

not_far : (most : ℕ) (z : ℤ) → IsWithin most z → unsigned_abs z ≤ most
not_far most (pos n) h = omega (arith, ints, h.low, h.high)
not_far most (negsuc n) h = omega (arith, ints, h.low, h.high)

sums_near : (bound : ℕ) (ns : List ℤ) → AllByRecursion (IsSavedSum bound) ns → AreWithin (bound * 2 ^ 63) ns
sums_near bound [] h = tt
sums_near bound (n ∷ ns) h = (near (bound * 2 ^ 63) n h.0, sums_near bound ns h.1)

pub sums_saved : (bound : ℕ) (ns : List ℤ) → AreWithin (bound * 2 ^ 63) ns → AllByRecursion (IsSavedSum bound) ns
sums_saved bound [] h = tt
sums_saved bound (n ∷ ns) h = (not_far (bound * 2 ^ 63) n h.0, sums_saved bound ns h.1)

module _ (element : Shape) where
  sums_wider : (low bound : ℕ) (shown : Shown) → low ≤ bound → AreSavedSums low element shown
      → AreSavedSums bound element shown
  sums_wider low bound (sums ns) le h = (
    h.0,
    h.1,
    sums_saved bound ns (within_further (low * 2 ^ 63) (bound * 2 ^ 63) ns (omega (arith, le)) (sums_near low ns h.2)),
  )
  sums_wider low bound (one d) le h = absurd h
  sums_wider low bound overflow le h = absurd h

  row_wider : (low bound : ℕ) (rows : List RowDatum) → low ≤ bound → AreSumRows low element rows
      → AreSumRows bound element rows
  row_wider low bound [] le h = absurd h
  row_wider low bound (r ∷ []) le h = record { sums = sums_wider low bound r.shown le h.sums; weight = h.weight }
  row_wider low bound (r ∷ s ∷ rows) le h = absurd h

  sums_added : (first second : ℕ) (s t : Shown) → AreSavedSums first element s → AreSavedSums second element t
      → AreSavedSums (first + second) element (sums (plus (sums_in s) (sums_in t)))
  sums_added first second (sums ns) (sums ms) g h =
      let same = length_of_plus ns ms (h.1 ∙ sym g.1) in (
        subst IsShort (sym same) g.0,
        same ∙ g.1,
        sums_saved (first + second) (plus ns ms)
            (within_further (first * 2 ^ 63 + second * 2 ^ 63) ((first + second) * 2 ^ 63) (plus ns ms) (omega arith)
            (within_plus (first * 2 ^ 63) (second * 2 ^ 63) ns ms (sums_near first ns g.2) (sums_near second ms h.2))),
      )
  sums_added first second (sums ns) (one d) g h = absurd h
  sums_added first second (sums ns) overflow g h = absurd h
  sums_added first second (one d) t g h = absurd g
  sums_added first second overflow t g h = absurd g

  sums_both : (first second : ℕ) (rows others : List RowDatum) → AreSumRows first element rows
      → AreSumRows second element others → AreSumRows (first + second) element (joined_sums rows others)
  sums_both first second [] others g h = absurd g
  sums_both first second (r ∷ s ∷ rows) others g h = absurd g
  sums_both first second (r ∷ []) [] g h = absurd h
  sums_both first second (r ∷ []) (o ∷ p ∷ others) g h = absurd h
  sums_both first second (r ∷ []) (o ∷ []) g h = record {
    sums = sums_added first second r.shown o.shown g.sums h.sums;
    weight = tt;
  }

  sums_alone : (rows : List RowDatum) (bound : ℕ) → AreSumRows bound element rows
      → AreSumRows bound element (joined_sums rows [])
  sums_alone [] bound h = absurd h
  sums_alone (r ∷ rows) bound h = h

  -- ---- rows of values

  -- both sides are rows of values, and at least one side has one
  record Sides (ranked : Bool) (rows others : List RowDatum) : Type 0 where
    each : AllByRecursion (IsSavedRow ranked element) rows
    each_other : AllByRecursion (IsSavedRow ranked element) others
    some : 1 ≤ length rows + length others

  all_of : (ranked : Bool) (rows others : List RowDatum) → Sides ranked rows others
      → AllByRecursion (IsSavedRow ranked element) (rows ++ others)
  all_of ranked rows others h = all_both (IsSavedRow ranked element) rows others h.each h.each_other

  some_of : (ranked : Bool) (rows others : List RowDatum) → Sides ranked rows others → 1 ≤ length (rows ++ others)
  some_of ranked rows others h = let long = length-append rows others in omega (arith, long, h.some)

  values_of_both : (rows others : List RowDatum) → Sides false rows others
      → AllByRecursion (IsSavedValue element) (values_shown rows ++ values_shown others)
      × (1 ≤ length (values_shown rows ++ values_shown others))
  values_of_both rows others h =
      let long = length-append (values_shown rows) (values_shown others) in
      let first = shown_long element false rows h.each in
      let second = shown_long element false others h.each_other in (
        all_both (IsSavedValue element) (values_shown rows) (values_shown others)
            (shown_saved element false rows h.each) (shown_saved element false others h.each_other),
        omega (arith, long, first, second, h.some),
      )

  collection_of : (rows others : List RowDatum) → Sides false rows others
      → IsCount (length (map value_row (sorted compare (values_shown rows ++ values_shown others))))
      → AreSavedRows Collection false (2 ^ 64 - 1) element
      (map value_row (sorted compare (values_shown rows ++ values_shown others)))
  collection_of rows others h few =
      let values = values_shown rows ++ values_shown others in
      let both = values_of_both rows others h in
      let long = value_rows_long element (sorted compare values) in
      let same = sorted_long compare_total values in
      collection_saved element (2 ^ 64 - 1) values both.0 both.1 (omega (arith, few, long, same))

  -- a side of a set that isn't too full
  abbrev SetSide : ℕ → List RowDatum → Type 0
  SetSide limit rows = (rows ≡ overflow_row ∷ []) ⊎ AreSavedRows Set false limit element rows

  full : (b : Bool) (limit : ℕ) (rows : List RowDatum) → SetSide limit rows → overflows rows ≡ false
      → AreSavedRows Set false limit element rows
  full b limit rows side not_full =
      ⊎_elim (λ is. absurd (true≢false (sym (ap overflows is) ∙ not_full))) (λ are. are) side

  neither : (p q : Bool) → (p || q) ≡ false → (p ≡ false) × (q ≡ false)
  neither true q h = absurd (true≢false h)
  neither false q h = (refl, h)

  sets_of : (limit : ℕ) (rows others : List RowDatum)
      → (overflows rows ≡ false → overflows others ≡ false → Sides false rows others)
      → SetSide limit (joined_sets limit rows others)
  sets_of limit rows others sides = by_test (overflows rows || overflows others) refl
    where
      values : List Datum
      values = values_shown rows ++ values_shown others

      by_test : (b : Bool) → (overflows rows || overflows others) ≡ b
          → SetSide limit (cond b (overflow_row ∷ []) (set_rows limit (distinct compare values)))
      by_test true is = inl refl
      by_test false is =
          let none = neither (overflows rows) (overflows others) is in
          let both = values_of_both rows others (sides none.0 none.1) in
          set_saved element limit values both.0 both.1

  -- ---- rows of any kind

  pub alone_saved : (kind : TableKind) (low bound limit : ℕ) (rows : List RowDatum) → low ≤ bound
      → HaveRows kind low limit element rows → IsCount (length (joined_rows kind limit rows []))
      → HaveRows kind bound limit element (joined_rows kind limit rows [])
  alone_saved Sum low bound limit rows le h few = sums_alone rows bound (row_wider low bound rows le h)
  alone_saved Maximum low bound limit rows le h few =
      let sides : Sides true rows [] = record { each = h.each; each_other = tt; some = omega (arith, h.some) } in
      maximum_saved element limit (rows ++ []) (all_of true rows [] sides) (some_of true rows [] sides)
      (omega (arith, h.some, h.few))
  alone_saved Minimum low bound limit rows le h few =
      let sides : Sides true rows [] = record { each = h.each; each_other = tt; some = omega (arith, h.some) } in
      minimum_saved element limit (rows ++ []) (all_of true rows [] sides) (some_of true rows [] sides)
      (omega (arith, h.some, h.few))
  alone_saved Set low bound limit rows le h few =
      sets_of limit rows [] (λ free _. let are = full true limit rows h free in
      record { each = are.each; each_other = tt; some = omega (arith, are.some) })
  alone_saved Collection low bound limit rows le h few =
      collection_of rows [] (record { each = h.each; each_other = tt; some = omega (arith, h.some) }) few

  pub other_saved : (kind : TableKind) (low bound limit : ℕ) (others : List RowDatum) → low ≤ bound
      → HaveRows kind low limit element others → IsCount (length (joined_rows kind limit [] others))
      → HaveRows kind bound limit element (joined_rows kind limit [] others)
  other_saved Sum low bound limit others le h few = row_wider low bound others le h
  other_saved Maximum low bound limit others le h few =
      maximum_saved element limit others h.each h.some (omega (arith, h.some, h.few))
  other_saved Minimum low bound limit others le h few =
      minimum_saved element limit others h.each h.some (omega (arith, h.some, h.few))
  other_saved Set low bound limit others le h few =
      sets_of limit [] others (λ _ free. let are = full true limit others h free in
      record { each = tt; each_other = are.each; some = omega (arith, are.some) })
  other_saved Collection low bound limit others le h few =
      collection_of [] others (record { each = tt; each_other = h.each; some = omega (arith, h.some) }) few

  pub both_saved : (kind : TableKind) (first second limit : ℕ) (rows others : List RowDatum)
      → HaveRows kind first limit element rows
      → HaveRows kind second limit element others → IsCount (length (joined_rows kind limit rows others))
      → HaveRows kind (first + second) limit element (joined_rows kind limit rows others)
  both_saved Sum first second limit rows others g h few = sums_both first second rows others g h
  both_saved Maximum first second limit rows others g h few =
      let sides : Sides true rows others = record {
        each = g.each;
        each_other = h.each;
        some = omega (arith, g.some);
      } in
      maximum_saved element limit (rows ++ others) (all_of true rows others sides) (some_of true rows others sides)
      (omega (arith, g.some, g.few))
  both_saved Minimum first second limit rows others g h few =
      let sides : Sides true rows others = record {
        each = g.each;
        each_other = h.each;
        some = omega (arith, g.some);
      } in
      minimum_saved element limit (rows ++ others) (all_of true rows others sides) (some_of true rows others sides)
      (omega (arith, g.some, g.few))
  both_saved Set first second limit rows others g h few =
      sets_of limit rows others (λ free other_free.
      let are = full true limit rows g free in
      let others_are = full true limit others h other_free in
      record { each = are.each; each_other = others_are.each; some = omega (arith, are.some) })
  both_saved Collection first second limit rows others g h few =
      collection_of rows others (record { each = g.each; each_other = h.each; some = omega (arith, g.some) }) few

-- ---- tables

taken_of_none : (limit : ℕ) → take {A = RowDatum} limit [] ≡ []
taken_of_none zero = refl
taken_of_none (suc n) = refl

none_joined : (kind : TableKind) (limit : ℕ) → joined_rows kind limit [] [] ≡ []
none_joined Sum limit = refl
none_joined Maximum limit = taken_of_none limit
none_joined Minimum limit = taken_of_none limit
none_joined Set limit = rw (le-ltb limit 0 (omega arith))
none_joined Collection limit = refl

-- under each index list there are the rows of both sides
pub table_joins : (table : Declaration) (first second : ℕ) (es os : List Indexed) → AreSavedEntries first table es
    → AreSavedEntries second table os → JoinsTable table es os (joined_entries table.kind table.limit es os)
table_joins table first second es os g h = record {
  rows = λ indexes. joined_at table.kind table.limit (none_joined table.kind table.limit) indexes es os
      (rise es g.rising) (rise os h.rising);
}

counted_hold : (P : Indexed → Type 0) (es : List Indexed) → AllByRecursion (λ e. HasCountedRows e → P e) es
    → AllByRecursion HasCountedRows es → AllByRecursion P es
counted_hold P [] h few = tt
counted_hold P (e ∷ es) h few = (h.0 few.0, counted_hold P es h.1 few.1)

nothing : (kind : TableKind) (limit : ℕ) (es os : List Indexed) → es ≡ [] → os ≡ []
    → joined_entries kind limit es os ≡ []
unfolding joined_entries
nothing kind limit es os none also = λ i. joined_entries kind limit (none i) (also i)

pub table_saved : (table : Declaration) (first second : ℕ) (es os : List Indexed) → AreSavedEntries first table es
    → AreSavedEntries second table os → AreCounted (joined_entries table.kind table.limit es os)
    → AreSavedEntries (first + second) table (joined_entries table.kind table.limit es os)
table_saved table first second es os g h counted =
    let kind = table.kind in
    let limit = table.limit in
    record {
      few = counted.0;
      none = λ zero_bound. nothing kind limit es os (g.none (omega (arith, zero_bound)))
          (h.none (omega (arith, zero_bound)));
      each = counted_hold (IsSavedEntry (first + second) table) (joined_entries kind limit es os)
          (all_hold kind limit (λ e. HasCountedRows e → IsSavedEntry (first + second) table e)
          (IsSavedEntry first table) (IsSavedEntry second table)
          (λ e a few. record {
            indexes = a.indexes;
            rows = alone_saved table.element kind first (first + second) limit e.rows (omega arith) a.rows few;
          })
          (λ o b few. record {
            indexes = b.indexes;
            rows = other_saved table.element kind second (first + second) limit o.rows (omega arith) b.rows few;
          })
          (λ e o a b few. record {
            indexes = a.indexes;
            rows = both_saved table.element kind first second limit e.rows o.rows a.rows b.rows few;
          })
          es os g.each h.each)
          counted.1;
      rising = rising (joined_entries kind limit es os)
          (joined_rise kind limit es os (rise es g.rising) (rise os h.rising));
    }

-- the sums of both sides can be added
pub row_sums : (bound : ℕ) (element : Shape) (rows : List RowDatum) → AreSumRows bound element rows
    → AllByRecursion (HasSum (components element) (bound * 2 ^ 63)) rows
row_sums bound element [] h = absurd h
row_sums bound element (r ∷ s ∷ rows) h = absurd h
row_sums bound element (r ∷ []) h = (has r.shown h.sums, tt)
  where
    has : (shown : Shown) → AreSavedSums bound element shown
        → HasSum (components element) (bound * 2 ^ 63) (record { shown = shown; weight = r.weight })
    has (sums ns) g = record { long = g.1; within = sums_near bound ns g.2 }
    has (one d) g = absurd g
    has overflow g = absurd g

pub all_sums : (bound : ℕ) (limit : ℕ) (element : Shape) (es : List Indexed)
    → AllByRecursion (λ e. HaveRows Sum bound limit element e.rows) es
    → AllByRecursion (HasSums (components element) (bound * 2 ^ 63)) es
all_sums bound limit element [] h = tt
all_sums bound limit element (e ∷ es) h = (row_sums bound element e.rows h.0, all_sums bound limit element es h.1)

can_of : (kind : TableKind) (first second limit : ℕ) (element : Shape) (es os : List Indexed) → first + second ≤ 2 ^ 63
    → AllByRecursion (λ e. HaveRows kind first limit element e.rows) es
    → AllByRecursion (λ e. HaveRows kind second limit element e.rows) os → CanJoin kind es os
can_of Sum first second limit element es os low g h = record {
  count = components element;
  most = first * 2 ^ 63;
  others_most = second * 2 ^ 63;
  low = omega (arith, low);
  each = all_sums first limit element es g;
  each_other = all_sums second limit element os h;
}
can_of Maximum first second limit element es os low g h = tt
can_of Minimum first second limit element es os low g h = tt
can_of Set first second limit element es os low g h = tt
can_of Collection first second limit element es os low g h = tt

pub have_rows : (bound : ℕ) (table : Declaration) (es : List Indexed) → AllByRecursion (IsSavedEntry bound table) es
    → AllByRecursion (λ e. HaveRows table.kind bound table.limit table.element e.rows) es
have_rows bound table [] h = tt
have_rows bound table (e ∷ es) h = (h.0.rows, have_rows bound table es h.1)

-- ---- all tables

module _ (first second : ℕ) where
  pub can_all : (ds : List Declaration) (ts us : List (List Indexed)) → first + second ≤ 2 ^ 63
      → AllByRecursion (IsSavedTable first) (zip ds ts)
      → AllByRecursion (IsSavedTable second) (zip ds us) → CanJoinAll ds ts us
  can_all [] ts us low g h = tt
  can_all (d ∷ ds) [] us low g h = tt
  can_all (d ∷ ds) (t ∷ ts) [] low g h = tt
  can_all (d ∷ ds) (t ∷ ts) (u ∷ us) low g h = (
    can_of d.kind first second d.limit d.element t u low (have_rows first d t g.0.entries.each)
        (have_rows second d u h.0.entries.each),
    can_all ds ts us low g.1 h.1,
  )

  pub all_join : (ds : List Declaration) (ts us : List (List Indexed)) → length ts ≡ length ds → length us ≡ length ds
      → AllByRecursion (IsSavedTable first) (zip ds ts) → AllByRecursion (IsSavedTable second) (zip ds us)
      → JoinTables ds ts us (joined_tables ds ts us)
  all_join [] [] [] long other_long g h = tt
  all_join [] (t ∷ ts) us long other_long g h = absurd (omega (arith, long))
  all_join [] [] (u ∷ us) long other_long g h = absurd (omega (arith, other_long))
  all_join (d ∷ ds) [] us long other_long g h = absurd (omega (arith, long))
  all_join (d ∷ ds) (t ∷ ts) [] long other_long g h = absurd (omega (arith, other_long))
  all_join (d ∷ ds) (t ∷ ts) (u ∷ us) long other_long g h = (
    table_joins d first second t u g.0.entries h.0.entries,
    all_join ds ts us (omega (arith, long)) (omega (arith, other_long)) g.1 h.1,
  )

  pub all_saved : (ds : List Declaration) (ts us : List (List Indexed)) → length ts ≡ length ds → length us ≡ length ds
      → AllByRecursion (IsSavedTable first) (zip ds ts) → AllByRecursion (IsSavedTable second) (zip ds us)
      → AllByRecursion AreCounted (joined_tables ds ts us)
      → AllByRecursion (IsSavedTable (first + second)) (zip ds (joined_tables ds ts us))
  all_saved [] [] [] long other_long g h counted = tt
  all_saved [] (t ∷ ts) us long other_long g h counted = absurd (omega (arith, long))
  all_saved [] [] (u ∷ us) long other_long g h counted = absurd (omega (arith, other_long))
  all_saved (d ∷ ds) [] us long other_long g h counted = absurd (omega (arith, long))
  all_saved (d ∷ ds) (t ∷ ts) [] long other_long g h counted = absurd (omega (arith, other_long))
  all_saved (d ∷ ds) (t ∷ ts) (u ∷ us) long other_long g h counted = (
    record {
      declaration = g.0.declaration;
      entries = table_saved d first second t u g.0.entries h.0.entries counted.0;
    },
    all_saved ds ts us (omega (arith, long)) (omega (arith, other_long)) g.1 h.1 counted.1,
  )

  pub as_many : (ds : List Declaration) (ts us : List (List Indexed)) → length ts ≡ length ds → length us ≡ length ds
      → length (joined_tables ds ts us) ≡ length ds
  as_many [] ts us long other_long = refl
  as_many (d ∷ ds) [] us long other_long = absurd (omega (arith, long))
  as_many (d ∷ ds) (t ∷ ts) [] long other_long = absurd (omega (arith, other_long))
  as_many (d ∷ ds) (t ∷ ts) (u ∷ us) long other_long =
      let more = as_many ds ts us (omega (arith, long)) (omega (arith, other_long)) in omega (arith, more)

-- two states with the same declarations, joined
module _ (one other : SavedState) (same : other.decls ≡ one.decls) (can : CanBeSaved one)
    (can_other : CanBeSaved other) where
  abbrev joined : List (List Indexed)
  joined = joined_tables one.decls one.tables other.tables

  other_long : length other.tables ≡ length one.decls
  other_long = can_other.as_many ∙ ap length same

  other_each : AllByRecursion (IsSavedTable other.bound) (zip one.decls other.tables)
  other_each = subst (λ ds. AllByRecursion (IsSavedTable other.bound) (zip ds other.tables)) same can_other.each

  pub states_can : one.bound + other.bound ≤ 2 ^ 63 → CanJoinAll one.decls one.tables other.tables
  states_can low = can_all one.bound other.bound one.decls one.tables other.tables low can.each other_each

  -- what the walk over the tables asks
  pub tables_ask : (ds : List Declaration) (ts us : List (List Indexed)) → ds ≡ one.decls → ts ≡ one.tables
      → us ≡ other.tables → one.bound + other.bound ≤ 2 ^ 63
      → (length ts ≡ length ds) × (length us ≡ length ds) × CanJoinAll ds ts us
  tables_ask ds ts us decls tables others low = (
    ap length tables ∙ can.as_many ∙ ap length (sym decls),
    ap length others ∙ other_long ∙ ap length (sym decls),
    subst (λ l. CanJoinAll ds ts l) (sym others) (subst (λ l. CanJoinAll ds l other.tables) (sym tables)
        (subst (λ l. CanJoinAll l one.tables other.tables) (sym decls) (states_can low))),
  )

  module _ (n : ℕ) (ds ds_again : List Declaration) (ts us vs : List (List Indexed))
      (bound : n ≡ one.bound + other.bound) (decls : ds ≡ one.decls)
      (tables : ts ≡ joined_tables ds_again us vs) (again : ds_again ≡ one.decls) (mine : us ≡ one.tables)
      (theirs : vs ≡ other.tables) where
    are_joined : ts ≡ joined
    are_joined = tables ∙ (λ i. joined_tables (again i) (mine i) (theirs i))

    pub states_saved : one.bound + other.bound ≤ 2 ^ 63 → AllByRecursion AreCounted ts
        → CanBeSaved (record { bound = n; decls = ds; tables = ts })
    states_saved low counted =
        subst CanBeSaved (λ i. record { bound = sym bound i; decls = sym decls i; tables = sym are_joined i })
        (record {
          bound = low;
          few = can.few;
          as_many = as_many one.bound other.bound one.decls one.tables other.tables can.as_many other_long;
          each = all_saved one.bound other.bound one.decls one.tables other.tables can.as_many other_long
              can.each other_each (subst (AllByRecursion AreCounted) are_joined counted);
        })

    pub states_join : Joins one other (record { bound = n; decls = ds; tables = ts })
    states_join = record {
      same = same;
      decls = decls;
      bound = bound;
      tables = subst (JoinTables one.decls one.tables other.tables) (sym are_joined)
          (all_join one.bound other.bound one.decls one.tables other.tables can.as_many other_long can.each other_each);
    }

-- one table more is joined
pub table_more : (ds : List Declaration) (ts us : List (List Indexed)) (i : ℕ) (d : Declaration) (t u : List Indexed)
    → slice_get ds i ≡ Some d → slice_get ts i ≡ Some t → slice_get us i ≡ Some u
    → take (i + 1) (joined_tables ds ts us) ≡ take i (joined_tables ds ts us) ++ joined_entries d.kind d.limit t u ∷ []
table_more [] ts us i d t u here there beyond = absurd (cc)
table_more (e ∷ ds) [] us i d t u here there beyond = absurd (cc)
table_more (e ∷ ds) (s ∷ ts) [] i d t u here there beyond = absurd (cc)
table_more (e ∷ ds) (s ∷ ts) (v ∷ us) zero d t u here there beyond =
    let first : e ≡ d = cc in
    let second : s ≡ t = cc in
    let last : v ≡ u = cc in
    λ k. joined_entries (first k).kind (first k).limit (second k) (last k) ∷ []
table_more (e ∷ ds) (s ∷ ts) (v ∷ us) (suc i) d t u here there beyond =
    let next : suc i + 1 ≡ suc (i + 1) = omega arith in
    ap (λ n. take n (joined_entries e.kind e.limit s v ∷ joined_tables ds ts us)) next
    ∙ ap (λ l. joined_entries e.kind e.limit s v ∷ l) (table_more ds ts us i d t u here there beyond)

pub table_can : (ds : List Declaration) (ts us : List (List Indexed)) (i : ℕ) (d : Declaration) (t u : List Indexed)
    → slice_get ds i ≡ Some d
    → slice_get ts i ≡ Some t → slice_get us i ≡ Some u → CanJoinAll ds ts us → CanJoin d.kind t u
table_can [] ts us i d t u here there beyond can = absurd (cc)
table_can (e ∷ ds) [] us i d t u here there beyond can = absurd (cc)
table_can (e ∷ ds) (s ∷ ts) [] i d t u here there beyond can = absurd (cc)
table_can (e ∷ ds) (s ∷ ts) (v ∷ us) zero d t u here there beyond can =
    let first : e ≡ d = cc in
    let second : s ≡ t = cc in
    let last : v ≡ u = cc in
    subst (λ (p : Declaration × (List Indexed × List Indexed)). CanJoin p.0.kind p.1.0 p.1.1)
    (λ k. (first k, (second k, last k))) can.0
table_can (e ∷ ds) (s ∷ ts) (v ∷ us) (suc i) d t u here there beyond can =
    table_can ds ts us i d t u here there beyond can.1

pub counted_push : (ts : List (List Indexed)) (t : List Indexed) → AllByRecursion AreCounted ts → AreCounted t
    → AllByRecursion AreCounted (ts ++ t ∷ [])
counted_push [] t h g = (g, tt)
counted_push (s ∷ ts) t h g = (h.0, counted_push ts t h.1 g)

pub tables_more : (ds : List Declaration) (ts us : List (List Indexed)) (i : ℕ) (d : Declaration)
    (t u joined : List Indexed) (now next : List (List Indexed)) → slice_get ds i ≡ Some d → slice_get ts i ≡ Some t
    → slice_get us i ≡ Some u → joined ≡ joined_entries d.kind d.limit t u → AreCounted joined
    → next ≡ now ++ joined ∷ [] → (now ≡ take i (joined_tables ds ts us)) × AllByRecursion AreCounted now
    → (next ≡ take (i + 1) (joined_tables ds ts us)) × AllByRecursion AreCounted next
tables_more ds ts us i d t u joined now next here there beyond is counted pushed before = (
  pushed ∙ (λ k. before.0 k ++ is k ∷ []) ∙ sym (table_more ds ts us i d t u here there beyond),
  subst (AllByRecursion AreCounted) (sym pushed) (counted_push now joined before.1 counted),
)

pub tables_end : (ds : List Declaration) (ts us : List (List Indexed)) (i : ℕ) (now : List (List Indexed))
    → length ts ≡ length ds → length us ≡ length ds
    → length ds ≤ i → now ≡ take i (joined_tables ds ts us) → now ≡ joined_tables ds ts us
tables_end ds ts us i now long other_long last is =
    let many = as_many 0 0 ds ts us long other_long in
    is ∙ take_all i (joined_tables ds ts us) (omega (arith, last, many))
