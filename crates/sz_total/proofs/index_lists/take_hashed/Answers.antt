-- The aggregator that is found takes the emit; where there is none, a new one does.
use Rattle.std.proofs.Common.{◌∙◌, ◌^◌, ◌-◌, sym, ap, subst, arith}
use Rattle.std.specs.Map.{lookup, set_value}
use Rattle.std.proofs.lemmas.Map.Steps.{set_value_same}
use Rattle.std.proofs.lemmas.Result.{on_ok_weaker, on_err_weaker}
use Rattle.sz_types.specs.SeenTables.{seen_table}
use Rattle.sz_value.specs.Seen.{seen}
use Rattle.sz_tabs.specs.Aggregating.{weighted, Gains}
use Rattle.sz_tabs.specs.Fitting.{Fits}
use Rattle.sz_tabs.specs.Rows.{brought_by}
use Rattle.sz_total.specs.Aggregates.{declaration_of, count_of, shown_of}
use Rattle.sz_total.specs.Entries.{TakesEmit, same_indexes}
use Rattle.sz_total.proofs.EntryLemmas.{of_table_there, taken_there}
use Rattle.sz_total.proofs.index_lists.take_hashed.Goals as goal

-- what is found under the emit's index list
pub add_to-requires-clause-fits : goal.add_to-requires-clause-fits
add_to-requires-clause-fits c =
    let table = seen_table c.args.table.now in
    let entries = c.args.lists.now.entries in
    let there = ap (λ l. lookup (same_indexes l) entries) (sym c.requires.key) ∙ sym c.in-Some.ensures.value in
    let one = of_table_there table
    (2 ^ 63 - 1) c.args.emit.now.indexes entries c.in-Some.aggregate.now c.requires.of_table there in
    subst (λ d. Fits d (weighted (seen c.emit.inside.value) c.emit.inside.weight)) (sym one.declared)
    (subst (λ e. Fits table (brought_by e)) (sym c.emit.view_is) c.requires.fits)

pub add_to-requires-clause-room : goal.add_to-requires-clause-room
add_to-requires-clause-room c =
    let entries = c.args.lists.now.entries in
    let there = ap (λ l. lookup (same_indexes l) entries) (sym c.requires.key) ∙ sym c.in-Some.ensures.value in
    let one = of_table_there (seen_table c.args.table.now)
    (2 ^ 63 - 1) c.args.emit.now.indexes entries c.in-Some.aggregate.now c.requires.of_table there in
    omega (arith, one.few)

-- nothing is
pub put_emit-requires-clause-absent : goal.put_emit-requires-clause-absent
put_emit-requires-clause-absent c =
    ap (λ m. lookup (same_indexes c.args.emit.now.indexes) m.entries) c.get_mut.follows.holds-at-none
    ∙ ap (λ l. lookup (same_indexes l) c.args.lists.now.entries) (sym c.requires.key) ∙ sym c.in-None.ensures.value

-- what was found is written back, with the emit or as it was
pub returns-in-Some-clause-ok : goal.returns-in-Some-clause-ok
returns-in-Some-clause-ok c =
    let table = seen_table c.args.table.now in
    let emit = c.args.emit.now in
    let entries = c.args.lists.now.entries in
    let old = c.in-Some.aggregate.now in
    let new = c.add_to.new.aggregate in
    let there = ap (λ l. lookup (same_indexes l) entries) (sym c.requires.key) ∙ sym c.in-Some.ensures.value in
    let written = (c.get_mut.follows.holds new).0
    ∙ ap (λ l. set_value (same_indexes l) entries new) c.requires.key in
    on_ok_weaker c.add_to.result
    (λ gains. subst (TakesEmit table emit entries) (sym written)
    (taken_there table emit entries old new there
    (subst (λ e. Gains declaration_of count_of shown_of old new (brought_by e)) c.emit.view_is gains)
    c.add_to.ensures.family c.requires.short.value (2 ^ 63 - 1) c.requires.of_table))
    c.add_to.ensures.ok

pub returns-in-Some-clause-err : goal.returns-in-Some-clause-err
returns-in-Some-clause-err c =
    let es = c.args.lists.now.entries in
    let key = c.args.key.now in
    let new = c.add_to.new.aggregate in
    on_err_weaker c.add_to.result
    (λ same. (c.get_mut.follows.holds new).0 ∙ ap (set_value (same_indexes key) es) same
    ∙ set_value_same (same_indexes key) es c.in-Some.aggregate.now (sym c.in-Some.ensures.value))
    c.add_to.ensures.err
