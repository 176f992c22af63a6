-- The closure compares the first key of a run with the key that is looked for.
use Rattle.std.proofs.Common.{rules, arith}
use Rattle.std.proofs.lemmas.Fn.{always_returns_same}
use Rattle.sz_value.specs.Runs.{head_order}
use Rattle.sz_value.specs.Seen.{seen}
use Rattle.sz_value.proofs.RunLemmas.{run_searched}
use Rattle.sz_value.proofs.runs.run_for.Goals as goal

pub returns-in-Ok : goal.returns-in-Ok
returns-in-Ok c =
    let facts = c.binary_search_by.ensures in
    let by_head =
    facts.position (λ run. head_order (seen c.args.key.now) run.pairs.items)
    (always_returns_same _ _ _ (λ a r f called. search rules)) in
    let own = run_searched (seen c.args.key.now)
    c.args.runs.now c.binary_search_by.result c.requires.runs facts.bound by_head in
    record { within = rw c.in-Ok.is at facts.bound; value = rw c.in-Ok.is at own.found }

pub returns-in-Err : goal.returns-in-Err
returns-in-Err c =
    let facts = c.binary_search_by.ensures in
    let by_head =
    facts.position (λ run. head_order (seen c.args.key.now) run.pairs.items)
    (always_returns_same _ _ _ (λ a r f called. search rules)) in
    let own = run_searched (seen c.args.key.now)
    c.args.runs.now c.binary_search_by.result c.requires.runs facts.bound by_head in
    let bound = rw c.in-Err.is at facts.bound in
    record {
      within = omega (arith, bound, c.saturating_sub.ensures, c.requires.some);
      value = rw c.saturating_sub.ensures (rw c.in-Err.is at own.none);
    }
