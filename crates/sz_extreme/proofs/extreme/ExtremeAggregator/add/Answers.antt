-- What is kept are the least of those kept before and the new one.
use Rattle.std.proofs.Common.{◌≡◌, [], ◌∷◌, ◌++◌, map, subst}
use Rattle.std.specs.Int.{w64}
use Rattle.std.specs.BinaryHeap.{heap_items}
use Rattle.std.proofs.lemmas.Int.{to_z-of_z}
use Rattle.sz_types.specs.SeenTables.{seen_table}
use Rattle.sz_value.specs.Seen.{seen}
use Rattle.sz_tabs.specs.Aggregating.{weighted}
use Rattle.sz_tabs.specs.Rows.{rows_of}
use Rattle.sz_extreme.specs.Ranks.{emit_of, HoldsLeast}
use Rattle.sz_extreme.proofs.HeapLemmas.{ranks}
use Rattle.sz_extreme.proofs.ExtremeLemmas.{extreme_gained, kept_more}
use Rattle.sz_extreme.proofs.extreme.ExtremeAggregator.add.Goals as goal

pub returns-clause-ok : goal.returns-clause-ok
returns-clause-ok c =
    let table = seen_table c.self.inside.table.now in
    let value = seen c.args.value.now in
    let old = ranks (heap_items c.self.inside.heap) in
    let new = ranks (heap_items c.hold.new.heap) in
    let rank = c.rank_of-rank.result in
    let least : HoldsLeast table.limit (old ++ (rank, value) ∷ []) new =
    subst (λ n. HoldsLeast table.limit (old ++ (n, value) ∷ []) new)
    (to_z-of_z w64 rank c.rank_of-rank.ensures.fits) c.in_ok-hold.ensures.ok in
    let emit : emit_of table.kind (rank, value) ≡ weighted value c.args.weight =
    λ i. record { value = value; weight = c.rank_of-rank.ensures.value i } in
    extreme_gained _ _ c.self.view_is _ _ _
    (subst
    (λ e. rows_of table (map (emit_of table.kind) new) ≡ rows_of table (map (emit_of table.kind) old ++ e ∷ [])) emit
    (kept_more table old new (rank, value) c.self.invariant.kind least))
