-- Two states joined, and three.
use Rattle.std.proofs.Common.{◌≡◌, ◌∙◌, ℕ, List, [], ◌∷◌, length, zip, refl, sym, ap, subst, arith}
use Rattle.std.specs.List.{AllByRecursion}
use Rattle.std.proofs.lemmas.Bool.{cond_both}
use Rattle.sz_types.specs.Tables.{Declaration}
use Rattle.sz_value.specs.Data.{Datum}
use Rattle.sz_tabs.specs.Data.{RowDatum}
use Rattle.sz_total.specs.Tables.{Indexed}
use Rattle.sz_save_format.specs.Entries.{IsSavedEntry}
use Rattle.sz_save_format.specs.Saved.{SavedState, IsSavedTable, CanBeSaved}
use Rattle.sz_save.specs.Joined.{joined_rows, rows_at, JoinTables, Joins}
use Rattle.sz_merge.specs.JoiningLaws.{IsCommutative, IsAssociative}
use Rattle.sz_merge.proofs.EitherLemmas.{CanBeOrdered, saved_ordered, none_ordered, both_ordered, rows_either}
use Rattle.sz_merge.proofs.JoinedGroupLemmas.{rows_grouped}
use Rattle.sz_merge.proofs.UniqueLemmas.{Rise, all_at, saved_rise, same_tables}

-- the rows of both sides, table by table
abbrev pub all_joined : List Declaration → List (List RowDatum) → List (List RowDatum) → List (List RowDatum)
all_joined (d ∷ ds) (x ∷ xs) (y ∷ ys) = joined_rows d.kind d.limit x y ∷ all_joined ds xs ys
all_joined _ _ _ = []

tables_at : (ds : List Declaration) (ts us bs : List (List Indexed)) (indexes : List Datum) → JoinTables ds ts us bs
    → all_at indexes bs ≡ all_joined ds (all_at indexes ts) (all_at indexes us)
tables_at [] [] [] [] indexes h = refl
tables_at [] (t ∷ ts) us bs indexes h = absurd h
tables_at [] [] (u ∷ us) bs indexes h = absurd h
tables_at [] [] [] (b ∷ bs) indexes h = absurd h
tables_at (d ∷ ds) [] us bs indexes h = absurd h
tables_at (d ∷ ds) (t ∷ ts) [] bs indexes h = absurd h
tables_at (d ∷ ds) (t ∷ ts) (u ∷ us) [] indexes h = absurd h
tables_at (d ∷ ds) (t ∷ ts) (u ∷ us) (b ∷ bs) indexes h = λ i. h.0.rows indexes i ∷ tables_at ds ts us bs indexes h.1 i

-- the rows of each table can be ordered
abbrev pub AllOrdered : List Declaration → List (List RowDatum) → Type 0
AllOrdered (d ∷ ds) (x ∷ xs) = CanBeOrdered d.kind x × AllOrdered ds xs
AllOrdered _ _ = Unit {0}

ordered_at : (bound : ℕ) (table : Declaration) (es : List Indexed) (indexes : List Datum)
    → AllByRecursion (IsSavedEntry bound table) es → CanBeOrdered table.kind (rows_at es indexes)
ordered_at bound table [] indexes h = none_ordered table.kind
ordered_at bound table (e ∷ es) indexes h = cond_both _ e.rows (rows_at es indexes) (CanBeOrdered table.kind)
    (λ _. saved_ordered table.kind bound table.limit table.element e.rows h.0.rows)
    (λ _. ordered_at bound table es indexes h.1)

all_ordered : (bound : ℕ) (ds : List Declaration) (ts : List (List Indexed)) (indexes : List Datum)
    → AllByRecursion (IsSavedTable bound) (zip ds ts) → AllOrdered ds (all_at indexes ts)
all_ordered bound [] ts indexes h = tt
all_ordered bound (d ∷ ds) [] indexes h = tt
all_ordered bound (d ∷ ds) (t ∷ ts) indexes h =
    (ordered_at bound d t indexes h.0.entries.each, all_ordered bound ds ts indexes h.1)

pub all_either : (ds : List Declaration) (xs ys : List (List RowDatum)) → AllOrdered ds xs → AllOrdered ds ys
    → all_joined ds xs ys ≡ all_joined ds ys xs
all_either [] xs ys g h = refl
all_either (d ∷ ds) [] [] g h = refl
all_either (d ∷ ds) [] (y ∷ ys) g h = refl
all_either (d ∷ ds) (x ∷ xs) [] g h = refl
all_either (d ∷ ds) (x ∷ xs) (y ∷ ys) g h =
    λ i. rows_either d.kind d.limit x y g.0 h.0 i ∷ all_either ds xs ys g.1 h.1 i

pub all_grouped : (ds : List Declaration) (xs ys zs : List (List RowDatum)) → AllOrdered ds xs → AllOrdered ds ys
    → AllOrdered ds zs → all_joined ds (all_joined ds xs ys) zs ≡ all_joined ds xs (all_joined ds ys zs)
all_grouped [] xs ys zs f g h = refl
all_grouped (d ∷ ds) [] ys zs f g h = refl
all_grouped (d ∷ ds) (x ∷ xs) [] zs f g h = refl
all_grouped (d ∷ ds) (x ∷ xs) (y ∷ ys) [] f g h = refl
all_grouped (d ∷ ds) (x ∷ xs) (y ∷ ys) (z ∷ zs) f g h =
    λ i. rows_grouped d.kind d.limit x y z f.0 g.0 h.0 i ∷ all_grouped ds xs ys zs f.1 g.1 h.1 i

pub joined_ordered : (ds : List Declaration) (xs ys : List (List RowDatum)) → AllOrdered ds xs → AllOrdered ds ys
    → AllOrdered ds (all_joined ds xs ys)
joined_ordered [] xs ys g h = tt
joined_ordered (d ∷ ds) [] ys g h = tt
joined_ordered (d ∷ ds) (x ∷ xs) [] g h = tt
joined_ordered (d ∷ ds) (x ∷ xs) (y ∷ ys) g h =
    (both_ordered d.kind d.limit x y g.0 h.0, joined_ordered ds xs ys g.1 h.1)

-- a state, seen with the declarations of another
module _ (decls : List Declaration) (saved : SavedState) (same : saved.decls ≡ decls) (can : CanBeSaved saved) where
  pub state_long : length saved.tables ≡ length decls
  state_long = can.as_many ∙ ap length same

  state_each : AllByRecursion (IsSavedTable saved.bound) (zip decls saved.tables)
  state_each = subst (λ ds. AllByRecursion (IsSavedTable saved.bound) (zip ds saved.tables)) same can.each

  pub state_rises : AllByRecursion Rise saved.tables
  state_rises = saved_rise saved.bound decls saved.tables state_long state_each

  pub state_ordered : (indexes : List Datum) → AllOrdered decls (all_at indexes saved.tables)
  state_ordered indexes = all_ordered saved.bound decls saved.tables indexes state_each

-- two states with the same bound, declarations and rows
pub same_states : (decls : List Declaration) (s t : SavedState) → s.decls ≡ decls → t.decls ≡ decls → CanBeSaved s
    → CanBeSaved t → s.bound ≡ t.bound
    → ((indexes : List Datum) → all_at indexes s.tables ≡ all_at indexes t.tables) → s ≡ t
same_states decls s t is also can can_too bound alike =
    let tables = same_tables s.tables t.tables (state_long decls s is can ∙ sym (state_long decls t also can_too))
    (state_rises decls s is can) (state_rises decls t also can_too) alike in
    λ i. record { bound = bound i; decls = (is ∙ sym also) i; tables = tables i }

-- what is joined has the rows of both sides
pub joined_at : (decls : List Declaration) (s t b : SavedState) (indexes : List Datum) → s.decls ≡ decls → Joins s t b
    → all_at indexes b.tables ≡ all_joined decls (all_at indexes s.tables) (all_at indexes t.tables)
joined_at decls s t b indexes is joins =
    tables_at decls s.tables t.tables b.tables indexes
    (subst (λ ds. JoinTables ds s.tables t.tables b.tables) is joins.tables)

pub either_first : IsCommutative
either_first s t b c can can_too g h =
    let decls = s.decls in
    let bound : b.bound ≡ c.bound = omega (arith, g.joins.bound, h.joins.bound) in
    same_states decls b c g.joins.decls (h.joins.decls ∙ g.joins.same) g.can h.can bound (λ indexes.
    joined_at decls s t b indexes refl g.joins
    ∙ all_either decls (all_at indexes s.tables) (all_at indexes t.tables) (state_ordered decls s refl can indexes)
    (state_ordered decls t g.joins.same can_too indexes)
    ∙ sym (joined_at decls t s c indexes g.joins.same h.joins))

pub either_two : IsAssociative
either_two r s t front back left right can can_too can_also f l b g =
    let decls = r.decls in
    let bound : left.bound ≡ right.bound = omega (arith, f.joins.bound, l.joins.bound, b.joins.bound, g.joins.bound) in
    let third : t.decls ≡ decls = l.joins.same ∙ f.joins.decls in
    same_states decls left right (l.joins.decls ∙ f.joins.decls) g.joins.decls l.can g.can bound (λ indexes.
    joined_at decls front t left indexes f.joins.decls l.joins
    ∙ ap (λ rows. all_joined decls rows (all_at indexes t.tables)) (joined_at decls r s front indexes refl f.joins)
    ∙ all_grouped decls (all_at indexes r.tables) (all_at indexes s.tables) (all_at indexes t.tables)
    (state_ordered decls r refl can indexes)
    (state_ordered decls s f.joins.same can_too indexes) (state_ordered decls t third can_also indexes)
    ∙ ap (all_joined decls (all_at indexes r.tables)) (sym (joined_at decls s t back indexes f.joins.same b.joins))
    ∙ sym (joined_at decls r back right indexes refl g.joins))
