use Rattle.std.proofs.Common.{◌∙◌, ◌∷◌, ◌+◌, ◌++◌, [], sym, ap, map, drop, append_assoc, append-nil}
use Rattle.sz_types.specs.SeenTables.{seen_table}
use Rattle.sz_core.specs.declared.program.Item.{Item}
use Rattle.sz_core.specs.Programs.{tables_of}
use Rattle.sz_core.specs.View.{item_of}
use Rattle.sz_types.proofs.ForCallers.{rest_more, rest_none}
use Rattle.sz_gen_stmt.proofs.Made.{no_table}
use Rattle.sz_gen_stmt.proofs.program.copied_tables.Goals as goal

pub loop-item-preserved : goal.loop-item-preserved
loop-item-preserved c =
    let rest = map item_of (drop (c.loop-item.item-index + 1) c.args.items.now) in
    ap (λ l. l ++ tables_of rest) c.in_ok-push.ensures.ok
    ∙ append_assoc c.loop-item.tables (seen_table c.in_ok-made.made ∷ []) (tables_of rest)
    ∙ ap (λ d. c.loop-item.tables ++ d ∷ tables_of rest) c.in_ok-made.ensures.value
    ∙ ap (λ xs. c.loop-item.tables ++ tables_of xs)
    (sym
    (rest_more item_of c.args.items.now c.loop-item.item-index c.item-item.result c.loop-item-test.true c.item-item.is
    ∙ ap (λ (x : Item). item_of x ∷ rest) c.in-Table.is))
    ∙ c.loop-item.invariant

pub loop-item-preserved-in_default : goal.loop-item-preserved-in_default
loop-item-preserved-in_default c =
    ap (λ ts. c.loop-item.tables ++ ts)
    (sym (ap tables_of (rest_more item_of
    c.args.items.now c.loop-item.item-index c.item-item.result c.loop-item-test.true c.item-item.is)
    ∙ no_table c.item-item.result (map item_of (drop (c.loop-item.item-index + 1) c.args.items.now))
    c.in_default.not-Table)) ∙ c.loop-item.invariant

pub returns : goal.returns
returns c = record {
  value = sym (append-nil c.loop-item.tables)
      ∙ ap (λ xs. c.loop-item.tables ++ tables_of xs)
      (sym (rest_none item_of c.args.items.now c.loop-item.item-index c.loop-item-test.false))
      ∙ c.loop-item.invariant;
}
