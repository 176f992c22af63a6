use Rattle.std.proofs.Common.{suc}
use Rattle.std.specs.Option.{option_map_or}
use Rattle.sz_scope.specs.Sight.{sees}
use Rattle.sz_scope.proofs.WayLemmas.{IsSearch}
use Rattle.sz_scope.proofs.chain.find_seen.Given as goal

abbrev pub invariant-loop-at : goal.invariant-loop-at
invariant-loop-at l = IsSearch (sees l.sight) l.fn.newest l.entries l.at

abbrev pub decreases-loop-at : goal.decreases-loop-at
decreases-loop-at l = option_map_or (λ place. suc place) l.at 0
