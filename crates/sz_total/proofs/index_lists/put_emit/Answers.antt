-- The new aggregator takes the emit, and goes last.
use Rattle.std.proofs.Common.{◌∙◌, ◌+◌, ◌++◌, ◌∷◌, [], if◌then◌else◌, is_some, sym, ap, subst, arith}
use Rattle.std.specs.Map.{lookup}
use Rattle.indexmap.specs.IndexMap.{index_map_len}
use Rattle.indexmap.proofs.CallerLemmas.{insert_entry-new}
use Rattle.sz_types.specs.SeenTables.{seen_table}
use Rattle.sz_tabs.specs.Aggregating.{Gains}
use Rattle.sz_tabs.specs.Rows.{brought_by}
use Rattle.sz_total.specs.Aggregates.{declaration_of, count_of, shown_of}
use Rattle.sz_total.specs.Entries.{TakesEmit, same_indexes}
use Rattle.sz_total.proofs.EntryLemmas.{taken_new}
use Rattle.sz_total.proofs.index_lists.put_emit.Goals as goal

pub returns-clause-ok : goal.returns-clause-ok
returns-clause-ok c =
    let table = seen_table c.args.table.now in
    let emit = c.args.emit.now in
    let es = c.args.lists.now.entries in
    let key = c.in_ok-key.key in
    let old = c.in_ok-aggregate.aggregate in
    let new = c.add_to.new.aggregate in
    let key_is = c.in_ok-key.ensures.value ∙ c.requires.key in
    let none = ap (λ l. lookup (same_indexes l) es) key_is ∙ c.requires.absent in
    let now = c.in_ok-insert.ensures.entries ∙ insert_entry-new same_indexes c.args.lists.now key new none
    ∙ ap (λ l. es ++ (l, new) ∷ []) key_is in
    subst (TakesEmit table emit es) (sym now)
    (taken_new table emit es old new c.requires.absent c.in_ok-aggregate.ensures.empty c.in_ok-aggregate.ensures.family
    (subst (λ e. Gains declaration_of count_of shown_of old new (brought_by e))
    c.emit.view_is c.in_ok-add_to.ensures.ok) c.add_to.ensures.family
    c.requires.short.value)

pub returns-clause-capacity : goal.returns-clause-capacity
returns-clause-capacity c =
    let es = c.args.lists.now.entries in
    let key_is = c.in_ok-key.ensures.value ∙ c.requires.key in
    let none = ap (λ l. lookup (same_indexes l) es) key_is ∙ c.requires.absent in
    let longer = c.in_ok-insert.ensures.len
    ∙ ap (λ o. index_map_len c.args.lists.now + (if is_some o then 0 else 1)) (c.in_ok-insert.ensures.old ∙ none) in
    omega (arith, longer, c.insert.ensures.spare)
