-- A full set shows its one row, and all else the values that are kept.
use Rattle.std.proofs.Common.{◌≡◌, ◌∙◌, ◌∷◌, [], map, length, sym, ap, append-nil, false}
use Rattle.std.proofs.lemmas.Result.{IfOk-weaker}
use Rattle.sz_types.specs.SeenTables.{seen_table}
use Rattle.sz_tabs.specs.Rows.{rows_of, value_row, overflow_row}
use Rattle.sz_members.specs.Repeats.{emits_tallied, is_full}
use Rattle.sz_members.specs.Showing.{seen_ref}
use Rattle.sz_members.proofs.FullLemmas.{full_shows, tally_shows}
use Rattle.sz_members.proofs.value_rows.rows_of.Goals as goal

pub returns-then-is_full : goal.returns-then-is_full
returns-then-is_full c =
    let table = seen_table c.args.table.now in
    let es = c.args.tally.now.entries in
    let full = sym c.is_full.ensures.value ∙ c.if-is_full.true in
    let shown = full_shows table es [] c.is_full.ensures.unique c.requires.came full in
    record {
      value = IfOk-weaker c.overflow_rows.result (λ rows. rows ≡ overflow_row ∷ [])
          (λ rows. rows ≡ rows_of table (emits_tallied es)) (λ rows is. is
          ∙ sym (ap (rows_of table) (sym (append-nil (emits_tallied es))) ∙ shown)) c.overflow_rows.ensures.value;
    }

pub returns : goal.returns
returns c =
    let table = seen_table c.args.table.now in
    let es = c.args.tally.now.entries in
    let values = c.in_ok-values.values.items in
    let few : is_full table (length es) ≡ false = sym c.is_full.ensures.value ∙ c.if-is_full.false in
    record {
      value = IfOk-weaker c.row_by_row.result (λ rows. rows ≡ map value_row (map seen_ref values))
          (λ rows. rows ≡ rows_of table (emits_tallied es))
          (λ rows is. is ∙ ap (map value_row) c.in_ok-values.ensures.value
          ∙ tally_shows table es c.is_full.ensures.unique c.requires.came c.requires.kind few)
          c.row_by_row.ensures.value;
    }
