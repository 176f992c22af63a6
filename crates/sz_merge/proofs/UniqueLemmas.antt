-- What stands under each index list says what a table holds.
use Rattle.std.proofs.Common.{◌≡◌, ◌∙◌, ℕ, ◌≤◌, Bool, true, false, cond, ⊎_elim, List, [], ◌∷◌, length, map, zip, refl, sym, ap, subst, arith}
use Rattle.std.proofs.Common.{Ordering, Less, Equal, Greater, is_eq}
use Rattle.std.specs.List.{AllByRecursion}
use Rattle.std.proofs.lemmas.Bool.{and_parts}
use Rattle.std.proofs.lemmas.Cmp.{tied_itself}
use Rattle.sz_types.specs.Data.{Shape}
use Rattle.sz_types.specs.Tables.{Declaration}
use Rattle.sz_types.specs.declared.table.TableKind.{TableKind}
use Rattle.sz_types.specs.declared.table.TableKind.TheVariants.{Sum, Maximum, Minimum, Set, Collection}
use Rattle.sz_value.specs.Data.{Datum}
use Rattle.sz_tabs.specs.Data.{RowDatum}
use Rattle.sz_tabs.specs.Rows.{compare_indexes}
use Rattle.sz_total.specs.Tables.{Indexed}
use Rattle.sz_save_format.specs.Entries.{HaveRows, AreSumRows, IsSavedEntry, entry_may_follow, in_order}
use Rattle.sz_save_format.specs.Saved.{IsSavedTable}
use Rattle.sz_save.specs.Joined.{rows_at}
use Rattle.sz_save.proofs.RisingLemmas.{AreAbove, indexes_total, indexes_tie, equal, less, turned, still_above, none_below}

-- each index list has rows and is below those behind it
abbrev pub Rise : List Indexed → Type 0
Rise [] = Unit {0}
Rise (e ∷ es) = (1 ≤ length e.rows) × AreAbove e.indexes es × Rise es

some_sums : (bound : ℕ) (element : Shape) (rows : List RowDatum) → AreSumRows bound element rows → 1 ≤ length rows
some_sums bound element [] h = absurd h
some_sums bound element (r ∷ rows) h = omega arith

some_rows : (kind : TableKind) (bound limit : ℕ) (element : Shape) (rows : List RowDatum)
    → HaveRows kind bound limit element rows → 1 ≤ length rows
some_rows Sum bound limit element rows h = some_sums bound element rows h
some_rows Maximum bound limit element rows h = h.some
some_rows Minimum bound limit element rows h = h.some
some_rows Set bound limit element rows h = ⊎_elim (λ is. omega (arith, ap length is)) (λ are. are.some) h
some_rows Collection bound limit element rows h = h.some

rise : (bound : ℕ) (table : Declaration) (es : List Indexed) → AllByRecursion (IsSavedEntry bound table) es
    → in_order entry_may_follow es ≡ true → Rise es
rise bound table [] each up = tt
rise bound table (e ∷ []) each up = (some_rows table.kind bound table.limit table.element e.rows each.0.rows, tt, tt)
rise bound table (e ∷ f ∷ es) each up =
    let both = and_parts (entry_may_follow e f) (in_order entry_may_follow (f ∷ es)) up in
    let later = rise bound table (f ∷ es) each.1 both.1 in
    let first = less (compare_indexes e.indexes f.indexes) both.0 in (
      some_rows table.kind bound table.limit table.element e.rows each.0.rows,
      (first, still_above e.indexes f es first later.1),
      later,
    )

found_first : (e : Indexed) (es : List Indexed) → rows_at (e ∷ es) e.indexes ≡ e.rows
found_first e es = ap (λ found. cond (is_eq found) e.rows (rows_at es e.indexes)) (tied_itself indexes_total e.indexes)

-- rows and no rows under an index list are not the same
not_alike : (rows : List RowDatum) → 1 ≤ length rows → rows ≡ [] → ⊥
not_alike rows some none = omega (arith, some, ap length none)

same_entries : (es fs : List Indexed) → Rise es → Rise fs
    → ((indexes : List Datum) → rows_at es indexes ≡ rows_at fs indexes) → es ≡ fs
same_entries [] [] g h alike = refl
same_entries [] (f ∷ fs) g h alike = absurd (not_alike f.rows h.0 (sym (found_first f fs) ∙ sym (alike f.indexes)))
same_entries (e ∷ es) [] g h alike = absurd (not_alike e.rows g.0 (sym (found_first e es) ∙ alike e.indexes))
same_entries (e ∷ es) (f ∷ fs) g h alike =
    by_found (compare_indexes e.indexes f.indexes) refl (same_entries es fs g.2 h.2)
  where
    behind : e.indexes ≡ f.indexes → (indexes : List Datum) → rows_at es indexes ≡ rows_at fs indexes
    behind is indexes = by_test (is_eq (compare_indexes e.indexes indexes)) refl (alike indexes)
      where
        by_test : (b : Bool) → is_eq (compare_indexes e.indexes indexes) ≡ b
            → rows_at (e ∷ es) indexes ≡ rows_at (f ∷ fs) indexes
            → rows_at es indexes ≡ rows_at fs indexes
        by_test true found both =
            let here = indexes_tie e.indexes indexes (equal (compare_indexes e.indexes indexes) found) in
            none_below indexes es (subst (λ l. AreAbove l es) here g.1)
            ∙ sym (none_below indexes fs (subst (λ l. AreAbove l fs) (sym is ∙ here) h.1))
        by_test false found both =
            ap (λ b. cond b e.rows (rows_at es indexes)) (sym found) ∙ both
            ∙ ap (λ b. cond b f.rows (rows_at fs indexes))
            (ap (λ l. is_eq (compare_indexes l indexes)) (sym is) ∙ found)

    by_found : (found : Ordering) → compare_indexes e.indexes f.indexes ≡ found
        → (((indexes : List Datum) → rows_at es indexes ≡ rows_at fs indexes) → es ≡ fs) → e ∷ es ≡ f ∷ fs
    by_found Less is later =
        let none = none_below e.indexes (f ∷ fs) (is, still_above e.indexes f fs is h.1) in
        absurd (not_alike e.rows g.0 (sym (found_first e es) ∙ alike e.indexes ∙ none))
    by_found Equal is later =
        let first = indexes_tie e.indexes f.indexes is in
        let rows : e.rows ≡ f.rows =
        sym (found_first e es) ∙ alike e.indexes ∙ ap (rows_at (f ∷ fs)) first ∙ found_first f fs in
        λ i. record { indexes = first i; rows = rows i } ∷ later (behind first) i
    by_found Greater is later =
        let below = turned e.indexes f.indexes Greater is in
        let none = none_below f.indexes (e ∷ es) (below, still_above f.indexes e es below g.1) in
        absurd (not_alike f.rows h.0 (sym (found_first f fs) ∙ sym (alike f.indexes) ∙ none))

-- the rows of all tables under an index list
abbrev pub all_at : List Datum → List (List Indexed) → List (List RowDatum)
all_at indexes tables = map (λ es. rows_at es indexes) tables

-- the index lists of tables that can be saved rise, and have rows
pub saved_rise : (bound : ℕ) (ds : List Declaration) (ts : List (List Indexed)) → length ts ≡ length ds
    → AllByRecursion (IsSavedTable bound) (zip ds ts) → AllByRecursion Rise ts
saved_rise bound ds [] long h = tt
saved_rise bound [] (t ∷ ts) long h = absurd (omega (arith, long))
saved_rise bound (d ∷ ds) (t ∷ ts) long h =
    (rise bound d t h.0.entries.each h.0.entries.rising, saved_rise bound ds ts (omega (arith, long)) h.1)

-- tables whose index lists rise, and have rows, are the same where they have the same rows under each index list
pub same_tables : (ts us : List (List Indexed)) → length ts ≡ length us → AllByRecursion Rise ts
    → AllByRecursion Rise us → ((indexes : List Datum) → all_at indexes ts ≡ all_at indexes us) → ts ≡ us
same_tables [] [] long g h alike = refl
same_tables [] (u ∷ us) long g h alike = absurd (omega (arith, long))
same_tables (t ∷ ts) [] long g h alike = absurd (omega (arith, long))
same_tables (t ∷ ts) (u ∷ us) long g h alike =
    let here = same_entries t u g.0 h.0 (λ indexes. let both = alike indexes in cc) in
    let later = same_tables ts us (omega (arith, long)) g.1 h.1 (λ indexes. let both = alike indexes in cc) in
    λ i. here i ∷ later i
