-- What was dealt fits each side, since all sides have the table of the first.
use Rattle.sz_tables_tests.proofs.TestLemmas.{fit_still}
use Rattle.sz_tables_tests.proofs.dealing.merged_rows.Goals as goal

pub add_number-requires-clause-fits : goal.add_number-requires-clause-fits
add_number-requires-clause-fits g c =
    fit_still (g.A.Aggregator.declaration c.loop-number.first)
    (g.A.Aggregator.declaration c.args.first) c.args.by_weight _ _ c.weight_if-weight.result
    c.requires.fit c.loop-number.invariant.0 c.weight_if-weight.ensures.value

pub add_number-requires-in-1-clause-fits : goal.add_number-requires-in-1-clause-fits
add_number-requires-in-1-clause-fits g c =
    fit_still (g.A.Aggregator.declaration c.loop-number.second)
    (g.A.Aggregator.declaration c.args.first) c.args.by_weight _ _ c.weight_if-weight.result
    c.requires.fit c.loop-number.invariant.1 c.weight_if-weight.ensures.value

pub add_number-requires-in_default-clause-fits : goal.add_number-requires-in_default-clause-fits
add_number-requires-in_default-clause-fits g c =
    fit_still (g.A.Aggregator.declaration c.loop-number.third)
    (g.A.Aggregator.declaration c.args.first) c.args.by_weight _ _ c.weight_if-weight.result
    c.requires.fit c.loop-number.invariant.2 c.weight_if-weight.ensures.value
