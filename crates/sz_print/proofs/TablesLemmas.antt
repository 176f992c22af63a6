-- How the text of the tables is printed one after the other.
use Rattle.std.proofs.Common.{◌≡◌, ◌∙◌, ℕ, suc, ◌+◌, ◌<◌, List, [], ◌∷◌, ◌++◌, map, length, get_or, take, drop, refl, sym, ap, arith, append_assoc, Some}
use Rattle.std.specs.Prelude.{slice_get}
use Rattle.std.specs.List.{flat_map}
use Rattle.std.proofs.Math.Seq.{drop-cons}
use Rattle.std.proofs.lemmas.List.{flat_map_more, take_more}
use Rattle.std.proofs.lemmas.Option.{get_or_from_slice_get, slice_get_within}
use Rattle.sz_types.specs.declared.table.TableDecl.{TableDecl}
use Rattle.sz_types.specs.SeenTables.{seen_table}
use Rattle.sz_types.specs.Tables.{Declaration}
use Rattle.sz_tabs.specs.Data.{EmitDatum}
use Rattle.sz_total.specs.States.{TotalState, declarations, emit_count, shown}
use Rattle.sz_total.specs.Totals.{StandsFor}
use Rattle.sz_total.specs.Tables.{Indexed, table_rows}
use Rattle.sz_print.specs.Lines.{row_lines}
use Rattle.sz_print.specs.Tables.{table_lines, lines_from, lines_shown, rows_text, tables_text}
use Rattle.sz_print.specs.Laws.{ShowsItsEmits}

-- the lines of one index list more
pub lines_more : (table : Declaration) (all : List Indexed) (at : ℕ) (one : Indexed) (before text next : List ℕ)
    → slice_get all at ≡ Some one → next ≡ text ++ row_lines table one.indexes one.rows
    → text ≡ before ++ table_lines table (take at all) → next ≡ before ++ table_lines table (take (at + 1) all)
lines_more table all at one before text next there grown is =
    let lines : Indexed → List ℕ = λ s. row_lines table s.indexes s.rows in
    let front = take_more all at one (slice_get_within all at one there)
    ∙ ap (λ x. take at all ++ x ∷ []) (get_or_from_slice_get all at one one there) in
    grown ∙ ap (λ t. t ++ lines one) is ∙ flat_map_more lines before (take at all) one
    ∙ ap (λ xs. before ++ flat_map lines xs) (sym front)

-- the text so far and that of the tables from this one on are the text of all tables, where the table with a number
-- shows these rows
pub record IsTextUpTo (items : List TableDecl) (rows : ℕ → List Indexed) (at : ℕ) (text : List ℕ) : Type 0 where
  pub printed : text ++ lines_shown at (map seen_table (drop at items)) rows ≡ lines_shown 0 (map seen_table items) rows

pub text_more : (items : List TableDecl) (rows : ℕ → List Indexed) (at : ℕ) (text next : List ℕ) (item : TableDecl)
    (found : List Indexed) → at < length items → item ≡ get_or items at item → found ≡ rows at
    → next ≡ text ++ table_lines (seen_table item) found
    → IsTextUpTo items rows at text → IsTextUpTo items rows (at + 1) next
text_more items rows at text next item found less is shows grown before =
    let table = seen_table item in
    let more : suc at ≡ at + 1 = omega arith in
    let front : drop at items ≡ item ∷ drop (suc at) items =
    drop-cons items at item less ∙ ap (λ x. x ∷ drop (suc at) items) (sym is) in
    let rest : ℕ → List ℕ = λ n. lines_shown n (map seen_table (drop n items)) rows in
    record {
      printed =
          ap (λ t. t ++ rest (at + 1)) (grown ∙ ap (λ r. text ++ table_lines table r) shows)
          ∙ append_assoc text (table_lines table (rows at)) (rest (at + 1))
          ∙ ap (λ n. text ++ (table_lines table (rows at) ++ rest n)) (sym more)
          ∙ ap (λ xs. text ++ lines_shown at (map seen_table xs) rows) (sym front)
          ∙ before.printed;
    }

-- tables whose rows are those of emits have the lines of the emits
lines_agree : (at : ℕ) (tables : List Declaration) (rows : ℕ → List Indexed) (emits : List EmitDatum)
    → ((i n : ℕ) (d : Declaration) → n ≡ at + i → slice_get tables i ≡ Some d → rows n ≡ table_rows n d emits)
    → lines_shown at tables rows ≡ lines_from at tables emits
lines_agree at [] rows emits are = refl
lines_agree at (d ∷ ds) rows emits are = λ i.
    table_lines d (are 0 at d (omega arith) refl i)
    ++ lines_agree (suc at) ds rows emits (λ j n e is there. are (suc j) n e (omega (arith, is)) there) i

pub rows_of_emits : ShowsItsEmits
rows_of_emits total emits stands =
    lines_agree 0 total.tables (shown total) emits
    (λ i n d is there. stands.rows n d (ap (slice_get total.tables) (omega (arith, is)) ∙ there))

-- the text of the rows of tables with the declarations of the total is that of the emits that the total stands for
pub text_of_emits : (total : TotalState) (tables : List Declaration) (text : List ℕ) → tables ≡ total.tables
    → text ≡ rows_text tables (shown total)
    → (emits : List EmitDatum) → StandsFor declarations emit_count shown total emits → text ≡ tables_text tables emits
text_of_emits total tables text same is emits stands =
    is ∙ ap (λ t. rows_text t (shown total)) same ∙ rows_of_emits total emits stands
    ∙ ap (λ t. tables_text t emits) (sym same)
