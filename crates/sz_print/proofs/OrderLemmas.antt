-- The order of emits and of merges can't be seen in the text.
use Rattle.std.proofs.Common.{◌≡◌, ◌∙◌, ℕ, suc, List, [], ◌∷◌, ◌++◌, refl, sym, ap, IsPermutation, append_assoc}
use Rattle.std.proofs.lemmas.List.Sorted.{IsPermutation-append_comm}
use Rattle.sz_types.specs.Tables.{Declaration}
use Rattle.sz_tabs.specs.Data.{EmitDatum}
use Rattle.sz_total.specs.Laws as totals
use Rattle.sz_print.specs.Tables.{table_lines, lines_from, tables_text}
use Rattle.sz_print.specs.Laws.{ForgetsOrder, MergesEitherWay, MergesInAnyGroups}
use Rattle.sz_print.proofs.TablesLemmas.{rows_of_emits}

lines_in_any_order : totals.ForgetsOrder → (at : ℕ) (tables : List Declaration) (first second : List EmitDatum)
    → IsPermutation first second → lines_from at tables first ≡ lines_from at tables second
lines_in_any_order same at [] first second moved = refl
lines_in_any_order same at (d ∷ ds) first second moved = λ i.
    table_lines d (same at d first second moved i) ++ lines_in_any_order same (suc at) ds first second moved i

pub text_in_any_order : totals.ForgetsOrder → ForgetsOrder
text_in_any_order same tables first second moved = lines_in_any_order same 0 tables first second moved

pub merged_either_way : totals.ForgetsOrder → MergesEitherWay
merged_either_way same one other both turned front later alike stands theirs joins turns =
    rows_of_emits both (front ++ later) (joins.joined front later stands theirs)
    ∙ text_in_any_order same both.tables (front ++ later) (later ++ front) (IsPermutation-append_comm front later)
    ∙ ap (λ tables. tables_text tables (later ++ front)) (joins.same_tables ∙ sym alike ∙ sym turns.same_tables)
    ∙ sym (rows_of_emits turned (later ++ front) (turns.joined later front theirs stands))

pub merged_in_any_groups : MergesInAnyGroups
merged_in_any_groups one other third both all rest turned front later last stands theirs others joins then_all
    joins_rest then_turned =
    rows_of_emits all ((front ++ later) ++ last)
    (then_all.joined (front ++ later) last (joins.joined front later stands theirs) others)
    ∙ ap (tables_text all.tables) (append_assoc front later last)
    ∙ ap (λ tables. tables_text tables (front ++ (later ++ last)))
    (then_all.same_tables ∙ joins.same_tables ∙ sym then_turned.same_tables)
    ∙ sym (rows_of_emits turned (front ++ (later ++ last))
    (then_turned.joined front (later ++ last) stands (joins_rest.joined later last theirs others)))
