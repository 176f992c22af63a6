-- Each turn appends the lines of one index list.
use Rattle.std.proofs.Common.{◌≡◌, ◌∙◌, ◌+◌, ◌-◌, ◌++◌, ℕ, Some, sym, ap, subst, arith, take, drop}
use Rattle.std.specs.Prelude.{slice_get}
use Rattle.sz_types.specs.SeenTables.{seen_table}
use Rattle.sz_total.specs.Tables.{Indexed}
use Rattle.sz_print.specs.Tables.{table_lines}
use Rattle.sz_print.proofs.TablesLemmas.{lines_more}
use Rattle.sz_print.proofs.PiecesLemmas.{found_after}
use Rattle.sz_print.proofs.pieces.push_places.Goals as goal

pub loop-place-preserved : goal.loop-place-preserved
loop-place-preserved c =
    let one : Indexed = record { indexes = c.list.inside.indexes; rows = c.list.inside.rows } in
    let from = c.args.from in
    let at = c.loop-place.place - from in
    let low = c.loop-place.invariant.0 in
    let here : c.loop-place.place ≡ from + at = omega (arith, low) in
    let next : at + 1 ≡ c.loop-place.place + 1 - from = omega (arith, low) in
    let rest = drop from c.args.shown.now in
    let table = seen_table c.args.table.now in
    let before = c.args.out.now.items in
    let there = found_after from c.args.shown.now at one
    (ap (slice_get c.args.shown.now) (sym here) ∙ c.in_ok-list.ensures.value
    ∙ ap (λ s. Some s) (sym c.list.view_is)) in (
      omega (arith, low),
      subst (λ (n : ℕ). c.push_rows.new.out.items ≡ before ++ table_lines table (take n rest)) next
          (lines_more table rest at one before c.loop-place.out.items c.push_rows.new.out.items there
          c.in_ok-push_rows.ensures.value c.loop-place.invariant.1),
    )
