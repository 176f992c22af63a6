-- The values are those that were spelled, or none.
use Rattle.std.proofs.Common.{[]}
use Rattle.std.proofs.lemmas.Result.{on_ok_weaker, on_err_weaker}
use Rattle.sz_flat.proofs.ListLemmas.{no_values, values_are, spelled_anyway}
use Rattle.sz_flat.proofs.flat_list.FlatList.set.Goals as goal

pub invariant_of-self-inside : goal.invariant_of-self-inside
invariant_of-self-inside c = (
  spelled_anyway c.spell.result c.spell.new.self c.args.values.now c.spell.ensures.ok c.spell.ensures.err,
  tt,
)

pub returns-clause-ok : goal.returns-clause-ok
returns-clause-ok c =
    on_ok_weaker c.spell.result (λ h. values_are c.spell.new.self c.self-1.given.0 c.args.values.now h)
    c.spell.ensures.ok

pub returns-clause-err : goal.returns-clause-err
returns-clause-err c =
    on_err_weaker c.spell.result
    (λ none. values_are c.spell.new.self c.self-1.given.0 [] (no_values c.spell.new.self none)) c.spell.ensures.err
