-- No more than the limit are kept, so all of them are shown.
use Rattle.std.proofs.Common.{◌≡◌, ◌∙◌, ◌≤◌, map, length, ap, arith}
use Rattle.std.specs.BinaryHeap.{heap_items}
use Rattle.std.proofs.lemmas.Result.{IfOk-weaker}
use Rattle.std.proofs.lemmas.List.{length-map}
use Rattle.sz_types.specs.SeenTables.{seen_table}
use Rattle.sz_tabs.specs.Rows.{weighted_row}
use Rattle.sz_tabs.specs.Sorting.{sorted}
use Rattle.sz_extreme.specs.Data.{rows_of_extremes}
use Rattle.sz_extreme.specs.Ranks.{by_rank, emit_of, seen_rank}
use Rattle.sz_extreme.proofs.HeapLemmas.{ranks}
use Rattle.sz_extreme.proofs.ExtremeLemmas.{rows_shown}
use Rattle.sz_extreme.proofs.extreme.ExtremeAggregator.rows.Goals as goal

pub returns : goal.returns
returns c =
    let table = seen_table c.self.inside.table.now in
    let items = heap_items c.self.inside.heap in
    let few : length (ranks items) ≤ table.limit = omega (arith, c.self.invariant.few, length-map items seen_rank) in
    let shown =
    ap (λ l. map weighted_row (map (emit_of table.kind) (sorted by_rank (map seen_rank l)))) c.as_slice.ensures.value
    ∙ rows_shown table (ranks items) c.self.invariant.kind few ∙ ap rows_of_extremes c.self.view_is in
    record {
      value = IfOk-weaker c.rows_of.result (λ rows. rows
          ≡ map weighted_row (map (emit_of table.kind) (sorted by_rank (map seen_rank c.as_slice.result.now))))
          (λ rows. rows ≡ rows_of_extremes c.args.self.now) (λ rows is. is ∙ shown) c.rows_of.ensures.value;
    }
