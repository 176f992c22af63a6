-- The closure compares a pair's key with the key that is looked for.
use Rattle.std.proofs.Common.{rules}
use Rattle.std.proofs.lemmas.Fn.{always_returns_same}
use Rattle.sz_value.specs.Order.{compare}
use Rattle.sz_value.specs.Seen.{seen}
use Rattle.sz_value.proofs.MapLemmas.{searched}
use Rattle.sz_value.proofs.run.place_of.Goals as goal

pub returns : goal.returns
returns c =
    let facts = c.binary_search_by.ensures in
    let by_key =
    facts.position (λ pair. compare (seen pair.key) (seen c.args.key.now))
    (always_returns_same _ _ _ (λ a r f called. search rules)) in
    let place =
    searched (seen c.args.key.now) c.args.pairs.now c.binary_search_by.result c.requires.rising facts.bound by_key in
    record { within = facts.bound; found = place.found; none = place.none }
