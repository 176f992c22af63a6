-- What a total shows can be saved.
use Rattle.std.proofs.Common.{◌≡◌, ◌∙◌, ℕ, zero, suc, ◌+◌, ◌*◌, ◌^◌, ◌<◌, ◌≤◌, ℤ, Bool, true, false, true≢false, not, ◌&&◌, cond, ◌⊎◌, inl, inr, Option, Some, None, List, [], ◌∷◌, ◌++◌, length, map, take, drop, zip, filter, refl, sym, ap, subst, arith, append_assoc}
use Rattle.std.proofs.Common.{Ordering, Less, Equal, Greater, is_lt, is_gt, is_eq, All, nat_eq}
use Rattle.std.specs.Prelude.{slice_get, nat_lt, is_some, IfSome}
use Rattle.std.specs.Cmp.{IsTotalOrder}
use Rattle.std.specs.List.{AllByRecursion}
use Rattle.std.specs.List.Sorted.{IsStrictlySortedBy}
use Rattle.std.specs.Ordering.{ordering_reverse}
use Rattle.std.proofs.lemmas.Bool.{and_from, and_parts, ltb-false, leb-true}
use Rattle.std.proofs.lemmas.List.{length-map, append-nil, drop_all}
use Rattle.std.proofs.lemmas.List.Elements.{All-head, All-tail, All-weaker}
use Rattle.sz_types.specs.Data.{Shape, FieldShapes, no_fields, with_field}
use Rattle.sz_types.specs.Tables.{Declaration}
use Rattle.sz_types.specs.declared.table.TableKind.{TableKind}
use Rattle.sz_types.specs.declared.table.TableKind.TheVariants.{Sum, Maximum, Minimum, Set, Collection}
use Rattle.sz_types.specs.Types.{has_type, have_types}
use Rattle.sz_value.specs.Data.{Datum}
use Rattle.sz_value.specs.Order.{compare}
use Rattle.sz_value.specs.Total.{compare_total, compare_ties}
use Rattle.sz_core.specs.WellFormed.{is_between, is_weight, kind_allows, has_sum}
use Rattle.sz_flat.specs.Spelling.{IsShort}
use Rattle.sz_tabs.specs.Bounds.{AreWithin}
use Rattle.sz_tabs.specs.Data.{EmitDatum, Weighted, Shown, one, sums, overflow, RowDatum}
use Rattle.sz_tabs.specs.Rows.{compare_indexes, went_to, brought_by, brought_to, values_of, sums_of, value_row, weighted_row, overflow_row, rows_by}
use Rattle.sz_tabs.specs.Sorting.{sorted, distinct}
use Rattle.sz_tabs.proofs.ForCallers.{Ascends, sorted_ascends, distinct_rises, least_total, greatest_total, within_further}
use Rattle.sz_sum.specs.Data as sum
use Rattle.sz_total.specs.Bounded.{IsShownWithin, RowsAreWithin, SumsAreWithin}
use Rattle.sz_total.specs.Laws.{indexes_shown, ShowsItsIndexes}
use Rattle.sz_total.specs.Origin.{ComesFromEmits}
use Rattle.sz_total.specs.States.{TotalState, declarations, emit_count, shown}
use Rattle.sz_total.specs.Tables.{Indexed, indexes_to, rows_under, table_rows}
use Rattle.sz_total.specs.Totals.{StandsFor}
use Rattle.sz_total.specs.Typed.{FitsShown, FitsRow, FitsTable, ShowsWhatFits}
use Rattle.sz_total.specs.Weights.{ranks}
use Rattle.sz_save_format.specs.Declarations.{IsSavedDeclaration}
use Rattle.sz_save_format.specs.Entries.{IsCount, AreSavedValues, components, ShowsSavedValue, IsSavedRank, IsSavedRow, IsSavedSumRow, AreSavedRows, HaveRows, IsSavedEntry, AreSavedEntries, entry_may_follow, row_may_follow, in_order}
use Rattle.sz_save_format.specs.Saved.{SavedState, IsSavedTable, CanBeSaved}
use Rattle.sz_save_format.specs.Short.{ShowsShort, HasShortRow, HasShortEntry}
use Rattle.sz_save_format.specs.Types.{field_count, IsSavedType}
use Rattle.sz_save.specs.Saving.{HaveSpelling, shown_from, state_shown, tables_from, state_of_emits}
use Rattle.sz_save.specs.Spelled.{IsSpelled, ShowsSpelled, IsSpelledWeight, IsSpelledRow, IsSpelledEntry, CanBeWritten}
use Rattle.sz_save.proofs.JoinLemmas.{sums_saved}
use Rattle.sz_save.proofs.RisingLemmas.{indexes_total}
use Rattle.sz_save.proofs.RowLemmas.{all_distinct, ascending_in_order, strict_in_order, some_taken, few_taken, sorted_long, some_distinct, taken_ascends, value_rows_long}

-- ---- rows

-- how many sums there are is how wide the type is
fields_alike : (fs : FieldShapes) → sum.field_count fs ≡ field_count fs
fields_alike no_fields = refl
fields_alike (with_field f fs) = ap (λ n. n + 1) (fields_alike fs)

wide : (element : Shape) → has_sum element ≡ true → sum.width element ≡ components element
wide Shape.int h = refl
wide (Shape.tuple fs) h = fields_alike fs
wide (Shape.proto fs) h = fields_alike fs
wide _ h = absurd (true≢false (sym h))

few_components : (element : Shape) → IsSavedType element → IsShort (components element)
few_components (Shape.tuple fs) h = h.has.0
few_components (Shape.proto fs) h = h.has.0
few_components _ h = omega arith

module _ (d : Declaration) where
  -- what is known of a row of a table of this kind
  record IsKnown (kind : TableKind) (row : RowDatum) : Type 0 where
    fits : FitsShown d row.shown
    weight : is_some row.weight ≡ (ranks kind && is_some d.weight)
    spelled : IsSpelledRow row

  all_known : (rows : List RowDatum) → All (FitsRow d) rows → AllByRecursion IsSpelledRow rows
      → AllByRecursion (IsKnown d.kind) rows
  all_known [] fit spelled = tt
  all_known (r ∷ rows) fit spelled =
      let here = All-head (FitsRow d) r rows fit in (
        record { fits = here.element; weight = here.weight; spelled = spelled.0 },
        all_known rows (All-tail (FitsRow d) r rows fit) spelled.1,
      )

  -- what is shown is a value
  abbrev IsValue : Shown → Type 0
  IsValue (one v) = Unit {0}
  IsValue _ = ⊥

  abbrev ShowsValue : RowDatum → Type 0
  ShowsValue row = IsValue row.shown

  weighted_show : (ws : List Weighted) → AllByRecursion ShowsValue (map weighted_row ws)
  weighted_show [] = tt
  weighted_show (w ∷ ws) = (tt, weighted_show ws)

  values_show : (vs : List Datum) → AllByRecursion ShowsValue (map value_row vs)
  values_show [] = tt
  values_show (v ∷ vs) = (tt, values_show vs)

  value_saved : (s : Shown) → IsValue s → FitsShown d s → ShowsSpelled s → ShowsSavedValue d.element s
  value_saved (one v) h fits spelled = record { has = spelled.has; typed = fits.0; long = spelled.long }
  value_saved (sums ns) h fits spelled = absurd h
  value_saved overflow h fits spelled = absurd h

  rank_saved : (ranked : Bool) (w : Option ℤ) → is_some w ≡ ranked → IfSome w IsSpelledWeight → IsSavedRank ranked w
  rank_saved true (Some n) is h = h
  rank_saved true None is h = absurd (true≢false (sym is))
  rank_saved false None is h = tt
  rank_saved false (Some n) is h = absurd (true≢false is)

  rows_saved : (kind : TableKind) (ranked : Bool) → (ranks kind && is_some d.weight) ≡ ranked → (rows : List RowDatum)
      → AllByRecursion ShowsValue rows
      → AllByRecursion (IsKnown kind) rows → AllByRecursion (IsSavedRow ranked d.element) rows
  rows_saved kind ranked is [] show known = tt
  rows_saved kind ranked is (r ∷ rows) show known = (
    record {
      value = value_saved r.shown show.0 known.0.fits known.0.spelled.shown;
      weight = rank_saved ranked r.weight (known.0.weight ∙ is) known.0.spelled.weight;
    },
    rows_saved kind ranked is rows show.1 known.1,
  )

  -- ---- extremes

  module _ (kind : TableKind) {order : Weighted → Weighted → Ordering} (total : IsTotalOrder order)
      (follows : (a b : Weighted) → is_gt (order a b) ≡ false
      → row_may_follow kind (weighted_row a) (weighted_row b) ≡ true) where
    in_order_of : (ws : List Weighted) → Ascends total ws → in_order (row_may_follow kind) (map weighted_row ws) ≡ true
    in_order_of [] up = refl
    in_order_of (w ∷ []) up = refl
    in_order_of (w ∷ x ∷ ws) up =
        and_from (row_may_follow kind (weighted_row w) (weighted_row x))
        (in_order (row_may_follow kind) (map weighted_row (x ∷ ws))) (follows w x up.0.0) (in_order_of (x ∷ ws) up.1)

    extreme_saved : (limit : ℕ) (brought : List Weighted) → (ranks kind && is_some d.weight) ≡ true → 1 ≤ limit
        → 1 ≤ length brought → AllByRecursion (IsKnown kind) (map weighted_row (take limit (sorted order brought)))
        → AreSavedRows kind true limit d.element (map weighted_row (take limit (sorted order brought)))
    extreme_saved limit brought ranked room some known =
        let first = take limit (sorted order brought) in
        let long = length-map first weighted_row in
        record {
          some =
              let same = sorted_long total brought in
              let there = some_taken limit (sorted order brought) room (omega (arith, same, some)) in
              omega (arith, long, there);
          few = let few = few_taken limit (sorted order brought) in omega (arith, long, few);
          each = rows_saved kind true ranked (map weighted_row first) (weighted_show first) known;
          ordered = in_order_of first (taken_ascends total limit (sorted order brought) (sorted_ascends total brought));
        }

  -- ---- sets

  set_of : (limit : ℕ) (vs : List Datum) (b : Bool) → nat_lt limit (length (distinct compare vs)) ≡ b → 1 ≤ length vs
      → AllByRecursion (IsKnown Set) (cond b (overflow_row ∷ []) (map value_row (distinct compare vs)))
      → (cond b (overflow_row ∷ []) (map value_row (distinct compare vs)) ≡ overflow_row ∷ [])
      ⊎ AreSavedRows Set false limit d.element (cond b (overflow_row ∷ []) (map value_row (distinct compare vs)))
  set_of limit vs true full some known = inl refl
  set_of limit vs false room some known =
      let rows = distinct compare vs in
      let long = value_rows_long d.element rows in
      inr (record {
        some = let there = some_distinct compare_total vs some in omega (arith, long, there);
        few = let below = ltb-false limit (length rows) room in omega (arith, long, below);
        each = rows_saved Set false refl (map value_row rows) (values_show rows) known;
        ordered = strict_in_order rows (distinct_rises compare_total compare_ties vs);
      })

  -- ---- sums

  sum_saved : (bound most : ℕ) (ns : List ℤ) → most ≤ bound * 2 ^ 63 → has_sum d.element ≡ true
      → IsSavedType d.element → length ns ≡ sum.width d.element
      → AreWithin most ns → IsSavedSumRow bound d.element (record { shown = sums ns; weight = None })
  sum_saved bound most ns low summed type long within =
      let same = long ∙ wide d.element summed in
      record {
        sums = (
          subst IsShort (sym same) (few_components d.element type),
          same,
          sums_saved bound ns (within_further most (bound * 2 ^ 63) ns low within),
        );
        weight = tt;
      }

  -- ---- rows of any kind

  weight_there : (w : Option Shape) → is_weight w ≡ true → is_some w ≡ true
  weight_there (Some t) h = refl
  weight_there None h = absurd (true≢false (sym h))

  at_least : (least most n : ℕ) → is_between least most n ≡ true → least ≤ n
  at_least least most n h = leb-true least n (and_parts _ _ h).0

  have_rows : (kind : TableKind) → kind_allows kind d ≡ true → (bound most : ℕ) → most ≤ bound * 2 ^ 63
      → IsSavedType d.element → (brought : List Weighted)
      → 1 ≤ length brought → IsCount (length (rows_by kind d.limit brought))
      → AllByRecursion (IsKnown kind) (rows_by kind d.limit brought)
      → RowsAreWithin most (rows_by kind d.limit brought)
      → HaveRows kind bound d.limit d.element (rows_by kind d.limit brought)
  have_rows Sum allowed bound most low type [] some few known within = absurd (omega (arith, some))
  have_rows Sum allowed bound most low type (w ∷ ws) some few known within =
      sum_saved bound most (sums_of (values_of (w ∷ ws))) low
      (and_parts _ _ (and_parts _ _ allowed).0).1 type known.0.fits
      (All-head (λ (r : RowDatum). IsShownWithin most r.shown)
      (record { shown = sums (sums_of (values_of (w ∷ ws))); weight = None }) [] within)
  have_rows Maximum allowed bound most low type brought some few known within =
      let parts = and_parts _ _ allowed in
      extreme_saved Maximum greatest_total (λ a b below. ap not below) d.limit brought (weight_there d.weight parts.1)
      (at_least 1 10000 d.limit parts.0) some known
  have_rows Minimum allowed bound most low type brought some few known within =
      let parts = and_parts _ _ allowed in
      extreme_saved Minimum least_total (λ a b below. ap not below) d.limit brought (weight_there d.weight parts.1)
      (at_least 1 10000 d.limit parts.0) some known
  have_rows Set allowed bound most low type brought some few known within =
      let long = length-map brought (λ (w : Weighted). w.value) in
      set_of d.limit (values_of brought) (nat_lt d.limit (length (distinct compare (values_of brought)))) refl
      (omega (arith, long, some)) known
  have_rows Collection allowed bound most low type brought some few known within =
      let long = length-map brought (λ (w : Weighted). w.value) in
      let same = sorted_long compare_total (values_of brought) in
      let rows = sorted compare (values_of brought) in
      let also = value_rows_long d.element rows in
      record {
        some = omega (arith, long, same, also, some);
        few = omega (arith, few);
        each = rows_saved Collection false refl (map value_row rows) (values_show rows) known;
        ordered = ascending_in_order rows (sorted_ascends compare_total (values_of brought));
      }

-- ---- index lists

indexes_saved : (ts : List Shape) (vs : List Datum) → have_types vs ts ≡ true → AllByRecursion IsSpelled vs
    → AreSavedValues ts vs
indexes_saved [] [] typed spelled = tt
indexes_saved [] (v ∷ vs) typed spelled = absurd (true≢false (sym typed))
indexes_saved (t ∷ ts) [] typed spelled = absurd (true≢false (sym typed))
indexes_saved (t ∷ ts) (v ∷ vs) typed spelled =
    let parts = and_parts (has_type v t) (have_types vs ts) typed in
    (record { has = spelled.0.has; typed = parts.0; long = spelled.0.long }, indexes_saved ts vs parts.1 spelled.1)

-- an index list ties with itself
self_turned : (found : Ordering) → found ≡ ordering_reverse found → is_eq found ≡ true
self_turned Less is = absurd (true≢false (ap is_lt is))
self_turned Equal is = refl
self_turned Greater is = absurd (true≢false (sym (ap is_lt is)))

ties_itself : (l : List Datum) → is_eq (compare_indexes l l) ≡ true
ties_itself l = self_turned (compare_indexes l l) (indexes_total.antisymm l l)

-- something is brought to each index list of an emit
module _ (number : ℕ) where
  abbrev HasSome : List EmitDatum → List Datum → Type 0
  HasSome emits l = 1 ≤ length (brought_to number l emits)

  one_more : (p : Bool) (e : EmitDatum) (passed : List EmitDatum) → 1 ≤ length (map brought_by passed)
      → 1 ≤ length (map brought_by (cond p (e ∷ passed) passed))
  one_more true e passed some = omega arith
  one_more false e passed some = some

  at_head : (p : Bool) (e : EmitDatum) (passed : List EmitDatum) → p ≡ true
      → 1 ≤ length (map brought_by (cond p (e ∷ passed) passed))
  at_head true e passed is = omega arith
  at_head false e passed is = absurd (true≢false (sym is))

  all_further : (e : EmitDatum) (emits : List EmitDatum) (ls : List (List Datum)) → AllByRecursion (HasSome emits) ls
      → AllByRecursion (HasSome (e ∷ emits)) ls
  all_further e emits [] h = tt
  all_further e emits (l ∷ ls) h =
      (one_more (went_to number l e) e (filter (went_to number l) emits) h.0, all_further e emits ls h.1)

  all_some : (emits : List EmitDatum) → AllByRecursion (HasSome emits) (indexes_to number emits)
  all_some [] = tt
  all_some (e ∷ emits) =
      by_test (nat_eq e.table number) refl (all_further e emits (indexes_to number emits) (all_some emits))
    where
      here : EmitDatum → Bool
      here other = nat_eq other.table number

      by_test : (b : Bool) → nat_eq e.table number ≡ b → AllByRecursion (HasSome (e ∷ emits)) (indexes_to number emits)
          → AllByRecursion (HasSome (e ∷ emits))
          (map (λ (x : EmitDatum). x.indexes) (cond b (e ∷ filter here emits) (filter here emits)))
      by_test true is later = (
        at_head (went_to number e.indexes e) e (filter (went_to number e.indexes) emits)
            (and_from (nat_eq e.table number) (is_eq (compare_indexes e.indexes e.indexes)) is (ties_itself e.indexes)),
        later,
      )
      by_test false is later = later

-- index lists that rise are in order
lists_in_order : (es : List Indexed) → IsStrictlySortedBy compare_indexes (indexes_shown es)
    → in_order entry_may_follow es ≡ true
unfolding IsStrictlySortedBy
lists_in_order [] up = refl
lists_in_order (e ∷ []) up = refl
lists_in_order (e ∷ f ∷ es) up =
    and_from (entry_may_follow e f) (in_order entry_may_follow (f ∷ es)) (ap is_lt up.0.0)
    (lists_in_order (f ∷ es) up.1)

-- ---- one table

-- a table with a number that shows what these emits bring to it
module _ (number : ℕ) (d : Declaration) (emits : List EmitDatum) (bound most : ℕ) (low : most ≤ bound * 2 ^ 63)
    (declared : IsSavedDeclaration d) where
  each_saved : (ls : List (List Datum)) → AllByRecursion (HasSome number emits) ls
      → All (FitsTable d) (map (rows_under number d emits) ls) → AllByRecursion IsSpelledEntry
      (map (rows_under number d emits) ls) → SumsAreWithin most (map (rows_under number d emits) ls)
      → AllByRecursion (IsSavedEntry bound d) (map (rows_under number d emits) ls)
  each_saved [] some fit spelled within = tt
  each_saved (l ∷ ls) some fit spelled within =
      let entry = rows_under number d emits l in
      let others = map (rows_under number d emits) ls in
      let fits = All-head (FitsTable d) entry others fit in
      let near = All-head (λ (e : Indexed). RowsAreWithin most e.rows) entry others within in (
        record {
          indexes = indexes_saved d.indexes l fits.indexes spelled.0.indexes;
          rows =
              have_rows d d.kind declared.allowed bound most low declared.element (brought_to number l emits)
              some.0 spelled.0.few (all_known d entry.rows fits.rows spelled.0.rows) near;
        },
        each_saved ls some.1 (All-tail (FitsTable d) entry others fit) spelled.1
            (All-tail (λ (e : Indexed). RowsAreWithin most e.rows) entry others within),
      )

  entries_saved : (es : List Indexed) → es ≡ table_rows number d emits → (bound ≡ 0 → emits ≡ [])
      → ShowsItsIndexes number d emits → All (FitsTable d) es → CanBeWritten most es → AreSavedEntries bound d es
  entries_saved es is none rises fit written =
      let lists = distinct compare_indexes (indexes_to number emits) in
      record {
        few = written.spelled.few;
        none = λ nothing. is ∙ ap (table_rows number d) (none nothing);
        each = subst (AllByRecursion (IsSavedEntry bound d)) (sym is)
            (each_saved lists
            (all_distinct (HasSome number emits) indexes_total (indexes_to number emits) (all_some number emits))
            (subst (All (FitsTable d)) is fit) (subst (AllByRecursion IsSpelledEntry) is written.spelled.each)
            (subst (SumsAreWithin most) is written.within));
        rising = subst (λ l. in_order entry_may_follow l ≡ true) (sym is)
            (lists_in_order (table_rows number d emits) rises.rises);
      }

-- ---- all tables

-- nothing was emitted where nothing is counted
none_counted : (emits : List EmitDatum) (count bound : ℕ) → count ≡ length emits → count ≤ bound
    → bound ≡ 0 → emits ≡ []
none_counted [] count bound is few none = refl
none_counted (e ∷ emits) count bound is few none = absurd (omega (arith, is, few, none))

module _ (total : TotalState) (bound : ℕ) (come : ComesFromEmits total) (fits : ShowsWhatFits total)
    (rises : (table : ℕ) (d : Declaration) (emits : List EmitDatum) → ShowsItsIndexes table d emits)
    (enough : total.count ≤ bound) where
  abbrev most : ℕ
  most = 2 ^ 63 * total.count

  table_saved : (number : ℕ) (d : Declaration) → slice_get total.tables number ≡ Some d → IsSavedDeclaration d
      → CanBeWritten most (shown total number) → IsSavedTable bound (d, shown total number)
  table_saved number d there declared written = record {
    declaration = declared;
    entries =
        entries_saved number d come.emits bound most (omega (arith, enough)) declared (shown total number)
        (come.stands.rows number d there) (λ none. none_counted come.emits total.count bound
        come.stands.counted enough none) (rises number d come.emits) (fits number d there) written;
  }

  all_saved : (number : ℕ) (ds : List Declaration)
      → ((i : ℕ) (d : Declaration) → slice_get ds i ≡ Some d → slice_get total.tables (number + i) ≡ Some d)
      → AllByRecursion IsSavedDeclaration ds → AllByRecursion (CanBeWritten most) (shown_from number ds (shown total))
      → AllByRecursion (IsSavedTable bound) (zip ds (shown_from number ds (shown total)))
  all_saved number [] are declared written = tt
  all_saved number (d ∷ ds) are declared written =
      let here : number + 0 ≡ number = omega arith in (
        table_saved number d (ap (slice_get total.tables) (sym here) ∙ are 0 d refl) declared.0 written.0,
        all_saved (suc number) ds (λ i e there.
            let later : suc number + i ≡ number + suc i = omega arith in
            ap (slice_get total.tables) later ∙ are (suc i) e there) declared.1 written.1,
      )

as_many : (number : ℕ) (ds : List Declaration) (rows : ℕ → List Indexed)
    → length (shown_from number ds rows) ≡ length ds
as_many number [] rows = refl
as_many number (d ∷ ds) rows = omega (arith, as_many (suc number) ds rows)

-- what is saved of a total can be saved
pub state_saved : (total : TotalState) (bound : ℕ) (decls copied : List Declaration) (tables : List (List Indexed))
    → total.tables ≡ decls
    → HaveSpelling decls → total.count ≤ bound → bound ≤ 2 ^ 63 → ComesFromEmits total → ShowsWhatFits total
    → ((table : ℕ) (d : Declaration) (emits : List EmitDatum) → ShowsItsIndexes table d emits) → copied ≡ decls
    → tables ≡ shown_from 0 decls (shown total) → AllByRecursion (CanBeWritten (2 ^ 63 * total.count)) tables
    → CanBeSaved (record { bound = bound; decls = copied; tables = tables })
state_saved total bound decls copied tables same spelled enough low come fits rises again is written =
    let rows = shown_from 0 decls (shown total) in
    subst CanBeSaved (λ i. record { bound = bound; decls = sym again i; tables = sym is i })
    (record {
      bound = low;
      few = spelled.few;
      as_many = as_many 0 decls (shown total);
      each =
          all_saved total bound come fits rises enough 0 decls (λ i d there.
          let here : 0 + i ≡ i = omega arith in
          ap (slice_get total.tables) here ∙ ap (λ ds. slice_get ds i) same ∙ there) spelled.each
          (subst (AllByRecursion (CanBeWritten (2 ^ 63 * total.count))) is written);
    })

-- it is what the total shows
pub state_is : (total : TotalState) (bound : ℕ) (decls copied : List Declaration) (tables : List (List Indexed))
    → total.tables ≡ decls → copied ≡ decls → tables ≡ shown_from 0 decls (shown total)
    → ◌≡◌ {A = SavedState} (record { bound = bound; decls = copied; tables = tables }) (state_shown bound total)
state_is total bound decls copied tables same again is = λ i. record {
  bound = bound;
  decls = (again ∙ sym same) i;
  tables = (is ∙ ap (λ ds. shown_from 0 ds (shown total)) (sym same)) i;
}

-- ---- the emits

-- tables that have the rows of emits are the tables of the emits
alike_from : (number : ℕ) (ds : List Declaration) (rows : ℕ → List Indexed) (emits : List EmitDatum)
    → ((i n : ℕ) (d : Declaration) → n ≡ number + i → slice_get ds i ≡ Some d → rows n ≡ table_rows n d emits)
    → shown_from number ds rows ≡ tables_from number ds emits
alike_from number [] rows emits are = refl
alike_from number (d ∷ ds) rows emits are = λ i.
    are 0 number d (omega arith) refl i ∷ alike_from (suc number) ds rows emits
    (λ j n e is there. are (suc j) n e (omega (arith, is)) there) i

-- what a total shows is what its emits give
pub state_of_its_emits : (total : TotalState) (bound : ℕ) (decls : List Declaration) (saved : SavedState)
    → total.tables ≡ decls → saved ≡ state_shown bound total → (emits : List EmitDatum)
    → StandsFor declarations emit_count shown total emits → saved ≡ state_of_emits bound decls emits
state_of_its_emits total bound decls saved same is emits stands =
    is ∙ (λ i. record {
      bound = bound;
      decls = total.tables;
      tables =
          alike_from 0 total.tables (shown total) emits
          (λ i n d at there. stands.rows n d (ap (slice_get total.tables) (omega (arith, at)) ∙ there)) i;
    }) ∙ ap (λ ds. state_of_emits bound ds emits) same

-- ---- what is asked before rows are spelled

shown_short : (d : Declaration) (s : Shown) → FitsShown d s → ShowsShort s
shown_short d (one v) fits = fits.1
shown_short d (sums ns) fits = tt
shown_short d overflow fits = tt

entry_short : (d : Declaration) (e : Indexed) → FitsTable d e → HasShortEntry e
entry_short d e fits = record {
  indexes = fits.short;
  rows = All-weaker (FitsRow d) HasShortRow (λ r f. shown_short d r.shown f.element) e.rows fits.rows;
}

there_is : (ds : List Declaration) (number : ℕ) → number < length ds
    → (d : Declaration) × (slice_get ds number ≡ Some d)
there_is [] number less = absurd (omega (arith, less))
there_is (d ∷ ds) zero less = (d, refl)
there_is (d ∷ ds) (suc number) less = there_is ds number (omega (arith, less))

-- all lengths in what is shown are short
pub all_short : (total : TotalState) (number : ℕ) (entries : List Indexed) → ShowsWhatFits total
    → number < length total.tables → entries ≡ shown total number
    → All HasShortEntry entries
all_short total number entries fits less is =
    let there = there_is total.tables number less in
    subst (All HasShortEntry) (sym is)
    (All-weaker (FitsTable there.0) HasShortEntry (λ e f. entry_short there.0 e f) (shown total number)
    (fits number there.0 there.1))

-- ---- one table more

table_first : (number base : ℕ) (ds : List Declaration) (rows : ℕ → List Indexed) → number < length ds
    → shown_from base (drop number ds) rows ≡ rows base ∷ shown_from (suc base) (drop (suc number) ds) rows
table_first number base [] rows less = absurd (omega (arith, less))
table_first zero base (d ∷ ds) rows less = refl
table_first (suc number) base (d ∷ ds) rows less = table_first number base ds rows (omega (arith, less))

all_pushed : (P : List Indexed → Type 0) (ts : List (List Indexed)) (t : List Indexed) → AllByRecursion P ts → P t
    → AllByRecursion P (ts ++ t ∷ [])
all_pushed P [] t h g = (g, tt)
all_pushed P (s ∷ ts) t h g = (h.0, all_pushed P ts t h.1 g)

-- the tables so far and those from this one on are all
pub record IsShownUpTo (ds : List Declaration) (rows : ℕ → List Indexed) (most number : ℕ)
    (tables : List (List Indexed)) : Type 0 where
  pub all : tables ++ shown_from number (drop number ds) rows ≡ shown_from 0 ds rows
  pub written : AllByRecursion (CanBeWritten most) tables

pub shown_more : (ds : List Declaration) (rows : ℕ → List Indexed) (most number : ℕ)
    (tables next : List (List Indexed)) (found : List Indexed) → number < length ds → found ≡ rows number
    → CanBeWritten most found → next ≡ tables ++ found ∷ [] → IsShownUpTo ds rows most number tables
    → IsShownUpTo ds rows most (number + 1) next
shown_more ds rows most number tables next found less is written pushed before =
    let more : suc number ≡ number + 1 = omega arith in
    let rest : ℕ → List (List Indexed) = λ n. shown_from n (drop n ds) rows in
    record {
      all =
          ap (λ l. l ++ rest (number + 1)) (pushed ∙ ap (λ f. tables ++ f ∷ []) is)
          ∙ append_assoc tables (rows number ∷ []) (rest (number + 1)) ∙ ap (λ n. tables ++ (rows number ∷ rest n))
          (sym more) ∙ ap (λ l. tables ++ l) (sym (table_first number number ds rows less)) ∙ before.all;
      written = subst (AllByRecursion (CanBeWritten most)) (sym pushed)
          (all_pushed (CanBeWritten most) tables found before.written written);
    }

pub shown_end : (ds : List Declaration) (rows : ℕ → List Indexed) (most number : ℕ) (tables : List (List Indexed))
    → length ds ≤ number → IsShownUpTo ds rows most number tables → tables ≡ shown_from 0 ds rows
shown_end ds rows most number tables last before =
    sym (append-nil tables) ∙ ap (λ l. tables ++ shown_from number l rows) (sym (drop_all number ds last)) ∙ before.all
