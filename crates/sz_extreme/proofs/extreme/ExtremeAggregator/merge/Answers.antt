-- What is kept of both sides are the least of both.
use Rattle.std.proofs.Common.{◌∙◌, ◌++◌, map, sym, ap, subst}
use Rattle.std.specs.BinaryHeap.{heap_items}
use Rattle.sz_types.specs.SeenTables.{seen_table}
use Rattle.sz_tabs.specs.Rows.{rows_of}
use Rattle.sz_extreme.specs.Ranks.{emit_of, HoldsLeast}
use Rattle.sz_extreme.proofs.HeapLemmas.{ranks}
use Rattle.sz_extreme.proofs.ExtremeLemmas.{extreme_joined, kept_both}
use Rattle.sz_extreme.proofs.extreme.ExtremeAggregator.merge.Goals as goal

pub returns-clause-ok : goal.returns-clause-ok
returns-clause-ok c =
    let table = seen_table c.self.inside.table.now in
    let old = ranks (heap_items c.self.inside.heap) in
    let others = ranks (heap_items c.other-2.inside.heap) in
    let new = ranks (heap_items c.put_all.new.heap) in
    let same = ap (λ e. e.table) c.other-2.view_is ∙ c.requires.same ∙ ap (λ e. e.table) (sym c.self.view_is) in
    let least = subst (λ items. HoldsLeast table.limit (ranks items ++ others) new)
    c.reserve.ensures.items c.put_all.ensures.value in
    extreme_joined _ _ _ _ c.self.view_is c.other-2.view_is _ _ c.requires.same
    (kept_both table old others new c.self.invariant.kind least
    ∙ ap (λ t. rows_of table (map (emit_of table.kind) old ++ map (emit_of t.kind) others)) (sym same))
