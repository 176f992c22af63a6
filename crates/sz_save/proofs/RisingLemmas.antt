-- Index lists that rise, and the rows under each.
use Rattle.std.proofs.Common.{◌≡◌, ◌∙◌, ℕ, ◌+◌, ◌≤◌, Bool, true, false, true≢false, cond, List, [], ◌∷◌, length, map, refl, sym, ap, subst, arith}
use Rattle.std.proofs.Common.{Ordering, Less, Equal, Greater, is_lt, is_eq}
use Rattle.std.specs.Cmp.{IsTotalOrder}
use Rattle.std.specs.Cmp.Lexicographic.{lists_total}
use Rattle.std.specs.List.{AllByRecursion}
use Rattle.std.specs.Ordering.{match_ordering, ordering_then, ordering_reverse}
use Rattle.std.proofs.lemmas.Bool.{and_parts, and_from}
use Rattle.sz_types.specs.declared.table.TableKind.{TableKind}
use Rattle.sz_value.specs.Data.{Datum}
use Rattle.sz_value.specs.Order.{compare}
use Rattle.sz_value.specs.Total.{compare_total, compare_ties}
use Rattle.sz_tabs.specs.Data.{RowDatum}
use Rattle.sz_tabs.specs.Rows.{compare_indexes}
use Rattle.sz_total.specs.Tables.{Indexed}
use Rattle.sz_save_format.specs.Entries.{entry_may_follow, in_order}
use Rattle.sz_save.specs.Joined.{joined_rows, rows_at}
use Rattle.sz_save.specs.Walk.{joined_entry, alone, other_alone, against, joined_entries}

pub indexes_total : IsTotalOrder compare_indexes
indexes_total = lists_total compare_total

-- index lists that tie are the same
pub indexes_tie : (xs ys : List Datum) → compare_indexes xs ys ≡ Equal → xs ≡ ys
indexes_tie [] [] tied = refl
indexes_tie [] (y ∷ ys) tied = absurd (true≢false (sym (ap is_eq tied)))
indexes_tie (x ∷ xs) [] tied = absurd (true≢false (sym (ap is_eq tied)))
indexes_tie (x ∷ xs) (y ∷ ys) tied = by_found (compare x y) refl tied (indexes_tie xs ys)
  where
    by_found : (found : Ordering) → compare x y ≡ found → ordering_then found (compare_indexes xs ys) ≡ Equal
        → (compare_indexes xs ys ≡ Equal → xs ≡ ys) → x ∷ xs ≡ y ∷ ys
    by_found Less is tied later = absurd (true≢false (sym (ap is_eq tied)))
    by_found Equal is tied later = λ i. compare_ties x y is i ∷ later tied i
    by_found Greater is tied later = absurd (true≢false (sym (ap is_eq tied)))

pub equal : (found : Ordering) → is_eq found ≡ true → found ≡ Equal
equal Less h = absurd (true≢false (sym h))
equal Equal h = refl
equal Greater h = absurd (true≢false (sym h))

pub less : (found : Ordering) → is_lt found ≡ true → found ≡ Less
less Less h = refl
less Equal h = absurd (true≢false (sym h))
less Greater h = absurd (true≢false (sym h))

pub turned : (xs ys : List Datum) (found : Ordering) → compare_indexes xs ys ≡ found
    → compare_indexes ys xs ≡ ordering_reverse found
turned xs ys found is = indexes_total.antisymm ys xs ∙ ap ordering_reverse is

-- each index list is above this one
abbrev pub AreAbove : List Datum → List Indexed → Type 0
AreAbove indexes entries = AllByRecursion (λ (e : Indexed). compare_indexes indexes e.indexes ≡ Less) entries

-- each index list is below those behind it
abbrev pub Rise : List Indexed → Type 0
Rise [] = Unit {0}
Rise (e ∷ es) = AreAbove e.indexes es × Rise es

pub still_above : (indexes : List Datum) (e : Indexed) (es : List Indexed) → compare_indexes indexes e.indexes ≡ Less
    → AreAbove e.indexes es → AreAbove indexes es
still_above indexes e [] below all = tt
still_above indexes e (f ∷ es) below all =
    (indexes_total.trans indexes e.indexes f.indexes below all.0, still_above indexes e es below all.1)

pub rise : (es : List Indexed) → in_order entry_may_follow es ≡ true → Rise es
rise [] h = tt
rise (e ∷ []) h = (tt, tt)
rise (e ∷ f ∷ es) h =
    let both = and_parts (entry_may_follow e f) (in_order entry_may_follow (f ∷ es)) h in
    let later = rise (f ∷ es) both.1 in
    let first = less (compare_indexes e.indexes f.indexes) both.0 in
    ((first, still_above e.indexes f es first later.0), later)

pub rising : (es : List Indexed) → Rise es → in_order entry_may_follow es ≡ true
rising [] h = refl
rising (e ∷ []) h = refl
rising (e ∷ f ∷ es) h =
    and_from (entry_may_follow e f) (in_order entry_may_follow (f ∷ es)) (ap is_lt h.0.0) (rising (f ∷ es) h.1)

-- under an index list that is below all there are no rows
pub none_below : (indexes : List Datum) (es : List Indexed) → AreAbove indexes es → rows_at es indexes ≡ []
none_below indexes [] all = refl
none_below indexes (e ∷ es) all =
    ap (λ found. cond (is_eq found) e.rows (rows_at es indexes)) (turned indexes e.indexes Less all.0)
    ∙ none_below indexes es all.1

-- what holds of each index list of either side, with the rows of both, holds of all that are joined
module _ (kind : TableKind) (limit : ℕ) (P A B : Indexed → Type 0) (one : (e : Indexed) → A e → P (alone kind limit e))
    (other : (o : Indexed) → B o → P (other_alone kind limit o))
    (both : (e o : Indexed) → A e → B o → P (joined_entry kind limit e.indexes e.rows o.rows)) where
  others_hold : (os : List Indexed) → AllByRecursion B os → AllByRecursion P (map (other_alone kind limit) os)
  others_hold [] h = tt
  others_hold (o ∷ os) h = (other o h.0, others_hold os h.1)

  against_hold : (e : Indexed) (rest : List Indexed → List Indexed) (os : List Indexed) → A e
      → ((left : List Indexed) → AllByRecursion B left → AllByRecursion P (rest left)) → AllByRecursion B os
      → AllByRecursion P (against kind limit e rest os)
  against_hold e rest [] a later h = (one e a, later [] tt)
  against_hold e rest (o ∷ os) a later h =
      by_found (compare_indexes e.indexes o.indexes) (against_hold e rest os a later h.1)
    where
      by_found : (found : Ordering) → AllByRecursion P (against kind limit e rest os)
          → AllByRecursion P (match_ordering found (alone kind limit e ∷ rest (o ∷ os))
          (joined_entry kind limit e.indexes e.rows o.rows ∷ rest os)
          (other_alone kind limit o ∷ against kind limit e rest os))
      by_found Less behind = (one e a, later (o ∷ os) h)
      by_found Equal behind = (both e o a h.0, later os h.1)
      by_found Greater behind = (other o h.0, behind)

  pub all_hold : (es os : List Indexed) → AllByRecursion A es → AllByRecursion B os
      → AllByRecursion P (joined_entries kind limit es os)
  unfolding joined_entries
  all_hold [] os g h = others_hold os h
  all_hold (e ∷ es) os g h = against_hold e (joined_entries kind limit es) os g.0 (λ left. all_hold es left g.1) h

module _ (kind : TableKind) (limit : ℕ) where
  above_all : (indexes : List Datum) (es os : List Indexed) → AreAbove indexes es → AreAbove indexes os
      → AreAbove indexes (joined_entries kind limit es os)
  above_all indexes =
      all_hold kind limit (λ e. compare_indexes indexes e.indexes ≡ Less)
      (λ e. compare_indexes indexes e.indexes ≡ Less)
      (λ e. compare_indexes indexes e.indexes ≡ Less) (λ e h. h) (λ o h. h) (λ e o h k. h)

  others_above : (indexes : List Datum) (os : List Indexed) → AreAbove indexes os
      → AreAbove indexes (map (other_alone kind limit) os)
  others_above indexes [] h = tt
  others_above indexes (o ∷ os) h = (h.0, others_above indexes os h.1)

  others_rise : (os : List Indexed) → Rise os → Rise (map (other_alone kind limit) os)
  others_rise [] h = tt
  others_rise (o ∷ os) h = (others_above o.indexes os h.0, others_rise os h.1)

  same_above : (xs ys : List Datum) (es : List Indexed) → xs ≡ ys → AreAbove ys es → AreAbove xs es
  same_above xs ys es is = subst (λ l. AreAbove l es) (sym is)

  -- the index lists that are joined rise
  pub joined_rise : (es os : List Indexed) → Rise es → Rise os → Rise (joined_entries kind limit es os)
  unfolding joined_entries
  joined_rise [] os g h = others_rise os h
  joined_rise (e ∷ es) [] g h = (above_all e.indexes es [] g.0 tt, joined_rise es [] g.1 tt)
  joined_rise (e ∷ es) (o ∷ os) g h =
      by_found (compare_indexes e.indexes o.indexes) refl (joined_rise (e ∷ es) os g h.1)
      (joined_rise es (o ∷ os) g.1 h) (joined_rise es os g.1 h.1)
    where
      by_found : (found : Ordering) → compare_indexes e.indexes o.indexes ≡ found
          → Rise (joined_entries kind limit (e ∷ es) os)
          → Rise (joined_entries kind limit es (o ∷ os)) → Rise (joined_entries kind limit es os)
          → Rise (match_ordering found (alone kind limit e ∷ joined_entries kind limit es (o ∷ os))
          (joined_entry kind limit e.indexes e.rows o.rows ∷ joined_entries kind limit es os)
          (other_alone kind limit o ∷ joined_entries kind limit (e ∷ es) os))
      by_found Less is greater lesser equal =
          (above_all e.indexes es (o ∷ os) g.0 (is, still_above e.indexes o os is h.0), lesser)
      by_found Equal is greater lesser equal = (
        above_all e.indexes es os g.0 (same_above e.indexes o.indexes os (indexes_tie e.indexes o.indexes is) h.0),
        equal,
      )
      by_found Greater is greater lesser equal =
          let below = turned e.indexes o.indexes Greater is in
          (above_all o.indexes (e ∷ es) os (below, still_above o.indexes e es below g.0) h.0, greater)

  -- how many there are
  others_count : (os : List Indexed) → length (map (other_alone kind limit) os) ≡ length os
  others_count [] = refl
  others_count (o ∷ os) = omega (arith, others_count os)

  against_count : (e : Indexed) (rest : List Indexed → List Indexed) (n : ℕ) (os : List Indexed)
      → ((left : List Indexed) → length (rest left) ≤ n + length left)
      → length (against kind limit e rest os) ≤ n + 1 + length os
  against_count e rest n [] later = omega (arith, later [])
  against_count e rest n (o ∷ os) later =
      by_found (compare_indexes e.indexes o.indexes) (against_count e rest n os later)
    where
      by_found : (found : Ordering) → length (against kind limit e rest os) ≤ n + 1 + length os
          → length (match_ordering found (alone kind limit e ∷ rest (o ∷ os))
          (joined_entry kind limit e.indexes e.rows o.rows ∷ rest os)
          (other_alone kind limit o ∷ against kind limit e rest os)) ≤ n + 1 + length (o ∷ os)
      by_found Less behind = omega (arith, later (o ∷ os))
      by_found Equal behind = omega (arith, later os)
      by_found Greater behind = omega (arith, behind)

  pub joined_count : (es os : List Indexed) → length (joined_entries kind limit es os) ≤ length es + length os
  unfolding joined_entries
  joined_count [] os = omega (arith, others_count os)
  joined_count (e ∷ es) os =
      omega (arith, against_count e (joined_entries kind limit es) (length es) os (joined_count es))

  -- under each index list there are the rows of both sides, if joining none gives none
  module _ (none : joined_rows kind limit [] [] ≡ []) where
    others_at : (indexes : List Datum) (os : List Indexed)
        → rows_at (map (other_alone kind limit) os) indexes ≡ joined_rows kind limit [] (rows_at os indexes)
    others_at indexes [] = sym none
    others_at indexes (o ∷ os) = by_test (is_eq (compare_indexes o.indexes indexes)) (others_at indexes os)
      where
        by_test : (b : Bool)
            → rows_at (map (other_alone kind limit) os) indexes ≡ joined_rows kind limit [] (rows_at os indexes)
            → cond b (joined_rows kind limit [] o.rows) (rows_at (map (other_alone kind limit) os) indexes)
            ≡ joined_rows kind limit [] (cond b o.rows (rows_at os indexes))
        by_test true later = refl
        by_test false later = later

    pub joined_at : (indexes : List Datum) (es os : List Indexed) → Rise es → Rise os
        → rows_at (joined_entries kind limit es os) indexes
        ≡ joined_rows kind limit (rows_at es indexes) (rows_at os indexes)
    unfolding joined_entries
    joined_at indexes [] os g h = others_at indexes os
    joined_at indexes (e ∷ es) [] g h =
        by_test (is_eq (compare_indexes e.indexes indexes)) (joined_at indexes es [] g.1 tt)
      where
        by_test : (b : Bool)
            → rows_at (joined_entries kind limit es []) indexes ≡ joined_rows kind limit (rows_at es indexes) []
            → cond b (joined_rows kind limit e.rows []) (rows_at (joined_entries kind limit es []) indexes)
            ≡ joined_rows kind limit (cond b e.rows (rows_at es indexes)) []
        by_test true later = refl
        by_test false later = later
    joined_at indexes (e ∷ es) (o ∷ os) g h =
        by_found (compare_indexes e.indexes o.indexes) refl (joined_at indexes (e ∷ es) os g h.1)
        (joined_at indexes es (o ∷ os) g.1 h) (joined_at indexes es os g.1 h.1)
      where
        rows : List Indexed → List RowDatum
        rows l = rows_at l indexes

        joined : List Indexed → List Indexed → List RowDatum
        joined l m = joined_rows kind limit (rows l) (rows m)

        -- where the first on this side is found, and the other side lies above it
        one_found : (b : Bool) → is_eq (compare_indexes e.indexes indexes) ≡ b
            → compare_indexes e.indexes o.indexes ≡ Less
            → rows (joined_entries kind limit es (o ∷ os)) ≡ joined es (o ∷ os)
            → cond b (joined_rows kind limit e.rows []) (rows (joined_entries kind limit es (o ∷ os)))
            ≡ joined_rows kind limit (cond b e.rows (rows es)) (rows (o ∷ os))
        one_found true same is later =
            let here = indexes_tie e.indexes indexes (equal (compare_indexes e.indexes indexes) same) in
            let above : AreAbove e.indexes (o ∷ os) = (is, still_above e.indexes o os is h.0) in
            ap (joined_rows kind limit e.rows)
            (sym (none_below indexes (o ∷ os) (subst (λ l. AreAbove l (o ∷ os)) here above)))
        one_found false same is later = later

        both_found : (b : Bool) → is_eq (compare_indexes e.indexes indexes) ≡ b → e.indexes ≡ o.indexes
            → rows (joined_entries kind limit es os) ≡ joined es os
            → cond b (joined_rows kind limit e.rows o.rows) (rows (joined_entries kind limit es os))
            ≡ joined_rows kind limit (cond b e.rows (rows es)) (rows (o ∷ os))
        both_found true same is later =
            ap (λ c. joined_rows kind limit e.rows (cond c o.rows (rows os)))
            (sym same ∙ ap (λ l. is_eq (compare_indexes l indexes)) is)
        both_found false same is later =
            later ∙ ap (λ c. joined_rows kind limit (rows es) (cond c o.rows (rows os)))
            (sym same ∙ ap (λ l. is_eq (compare_indexes l indexes)) is)

        other_found : (b : Bool) → is_eq (compare_indexes o.indexes indexes) ≡ b
            → compare_indexes o.indexes e.indexes ≡ Less
            → rows (joined_entries kind limit (e ∷ es) os) ≡ joined (e ∷ es) os
            → cond b (joined_rows kind limit [] o.rows) (rows (joined_entries kind limit (e ∷ es) os))
            ≡ joined_rows kind limit (rows (e ∷ es)) (cond b o.rows (rows os))
        other_found true same is later =
            let here = indexes_tie o.indexes indexes (equal (compare_indexes o.indexes indexes) same) in
            let above : AreAbove o.indexes (e ∷ es) = (is, still_above o.indexes e es is g.0) in
            ap (λ l. joined_rows kind limit l o.rows)
            (sym (none_below indexes (e ∷ es) (subst (λ l. AreAbove l (e ∷ es)) here above)))
        other_found false same is later = later

        by_found : (found : Ordering) → compare_indexes e.indexes o.indexes ≡ found
            → rows (joined_entries kind limit (e ∷ es) os) ≡ joined (e ∷ es) os
            → rows (joined_entries kind limit es (o ∷ os)) ≡ joined es (o ∷ os)
            → rows (joined_entries kind limit es os) ≡ joined es os
            → rows (match_ordering found (alone kind limit e ∷ joined_entries kind limit es (o ∷ os))
            (joined_entry kind limit e.indexes e.rows o.rows ∷ joined_entries kind limit es os)
            (other_alone kind limit o ∷ joined_entries kind limit (e ∷ es) os)) ≡ joined (e ∷ es) (o ∷ os)
        by_found Less is greater lesser both = one_found (is_eq (compare_indexes e.indexes indexes)) refl is lesser
        by_found Equal is greater lesser both =
            both_found (is_eq (compare_indexes e.indexes indexes)) refl (indexes_tie e.indexes o.indexes is) both
        by_found Greater is greater lesser both =
            other_found (is_eq (compare_indexes o.indexes indexes)) refl (turned e.indexes o.indexes Greater is) greater
