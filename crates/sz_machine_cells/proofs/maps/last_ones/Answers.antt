-- A pair whose key stands once more isn't kept.
use Rattle.std.proofs.Common.{rules, ◌≡◌, ◌<◌, length, drop, true}
use Rattle.std.proofs.lemmas.List.{take_rest}
use Rattle.sz_machine_cells.specs.PairViews.{seen_pair_views, is_followed, last_ones}
use Rattle.sz_machine_cells.proofs.PairLemmas.{goes_ahead}
use Rattle.sz_machine_cells.proofs.maps.last_ones.Goals as goal

pub loop-i-preserved-then-is_followed : goal.loop-i-preserved-then-is_followed
loop-i-preserved-then-is_followed c =
    let inside : c.loop-i.i < length c.args.pairs.now = search rules in
    let followed : is_followed (seen_pair_views (drop c.loop-i.i c.args.pairs.now)) ≡ true =
    search (rules, take_rest) in
    goes_ahead c.args.pairs.now c.loop-i.i c.loop-i.kept.items (last_ones (seen_pair_views c.args.pairs.now)) inside
    c.loop-i.invariant followed
