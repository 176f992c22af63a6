-- The first aggregator takes the emit, where its index list and that of the emit are empty.
use Rattle.std.proofs.Common.{◌∙◌, ◌^◌, ◌-◌, sym, ap, subst, arith}
use Rattle.std.specs.Map.{lookup, set_value}
use Rattle.std.proofs.lemmas.Bool.{eqb-true}
use Rattle.std.proofs.lemmas.List.{nil_from_length}
use Rattle.std.proofs.lemmas.Result.{on_ok_weaker, on_err_weaker}
use Rattle.indexmap.specs.IndexMap.{set_value_at}
use Rattle.indexmap.proofs.CallerLemmas.{index_map_len-with_value_at}
use Rattle.sz_types.specs.SeenTables.{seen_table}
use Rattle.sz_value.specs.Seen.{seen}
use Rattle.sz_tabs.specs.Aggregating.{weighted, Gains}
use Rattle.sz_tabs.specs.Fitting.{Fits}
use Rattle.sz_tabs.specs.Rows.{brought_by}
use Rattle.sz_total.specs.Aggregates.{declaration_of, count_of, shown_of}
use Rattle.sz_total.specs.Entries.{TakesEmit, same_indexes}
use Rattle.sz_total.proofs.EntryLemmas.{of_table_there, taken_there}
use Rattle.sz_total.proofs.KeyLemmas.{is_first}
use Rattle.sz_total.proofs.index_lists.take_emit.Goals as goal

pub add_to-requires-clause-fits : goal.add_to-requires-clause-fits
add_to-requires-clause-fits c =
    let table = seen_table c.args.table.now in
    let entries = c.args.lists.now.entries in
    let old = c.pair_mut-aggregate.result.1.now in
    let none = sym (ap (λ e. e.indexes) c.emit.view_is)
    ∙ nil_from_length c.emit.inside.indexes (eqb-true _ _ (sym c.is_empty.ensures.value ∙ c.if-is_empty.true)) in
    let first = is_first c.args.lists.now.entries _ old c.pair_mut-aggregate.ensures.value
    (c.is_first_without_indexes.ensures.first c.if-is_first_without_indexes.true) in
    let there = ap (λ l. lookup (same_indexes l) entries) none ∙ first.found in
    let one = of_table_there table (2 ^ 63 - 1) c.args.emit.now.indexes entries old c.requires.of_table there in
    subst (λ d. Fits d (weighted (seen c.emit.inside.value) c.emit.inside.weight)) (sym one.declared)
    (subst (λ e. Fits table (brought_by e)) (sym c.emit.view_is) c.requires.fits)

pub add_to-requires-clause-room : goal.add_to-requires-clause-room
add_to-requires-clause-room c =
    let entries = c.args.lists.now.entries in
    let old = c.pair_mut-aggregate.result.1.now in
    let none = sym (ap (λ e. e.indexes) c.emit.view_is)
    ∙ nil_from_length c.emit.inside.indexes (eqb-true _ _ (sym c.is_empty.ensures.value ∙ c.if-is_empty.true)) in
    let first = is_first c.args.lists.now.entries _ old c.pair_mut-aggregate.ensures.value
    (c.is_first_without_indexes.ensures.first c.if-is_first_without_indexes.true) in
    let there = ap (λ l. lookup (same_indexes l) entries) none ∙ first.found in
    let one = of_table_there (seen_table c.args.table.now)
    (2 ^ 63 - 1) c.args.emit.now.indexes entries old c.requires.of_table there in
    omega (arith, one.few)

pub returns-then-is_first_without_indexes-clause-ok : goal.returns-then-is_first_without_indexes-clause-ok
returns-then-is_first_without_indexes-clause-ok c =
    let table = seen_table c.args.table.now in
    let emit = c.args.emit.now in
    let new = c.add_to.new.aggregate in
    let entries = c.args.lists.now.entries in
    let old = c.pair_mut-aggregate.result.1.now in
    let none = sym (ap (λ e. e.indexes) c.emit.view_is)
    ∙ nil_from_length c.emit.inside.indexes (eqb-true _ _ (sym c.is_empty.ensures.value ∙ c.if-is_empty.true)) in
    let first = is_first c.args.lists.now.entries _ old c.pair_mut-aggregate.ensures.value
    (c.is_first_without_indexes.ensures.first c.if-is_first_without_indexes.true) in
    let there = ap (λ l. lookup (same_indexes l) entries) none ∙ first.found in
    let written = first.written new ∙ ap (λ l. set_value (same_indexes l) entries new) (sym none) in
    on_ok_weaker c.add_to.result
    (λ gains. subst (TakesEmit table emit entries) (sym written)
    (taken_there table emit entries old new there
    (subst (λ e. Gains declaration_of count_of shown_of old new (brought_by e)) c.emit.view_is gains)
    c.add_to.ensures.family c.requires.short.value (2 ^ 63 - 1) c.requires.of_table))
    c.add_to.ensures.ok

pub returns-then-is_first_without_indexes-clause-err : goal.returns-then-is_first_without_indexes-clause-err
returns-then-is_first_without_indexes-clause-err c =
    let es = c.args.lists.now.entries in
    let first = is_first es _ c.pair_mut-aggregate.result.1.now c.pair_mut-aggregate.ensures.value
    (c.is_first_without_indexes.ensures.first c.if-is_first_without_indexes.true) in
    on_err_weaker c.add_to.result (λ same. ap (set_value_at es 0) same ∙ first.same) c.add_to.ensures.err

pub returns-then-is_first_without_indexes-clause-capacity : goal.returns-then-is_first_without_indexes-clause-capacity
returns-then-is_first_without_indexes-clause-capacity c =
    omega (arith, index_map_len-with_value_at c.args.lists.now 0 c.add_to.new.aggregate)
