use Rattle.std.proofs.Common.{List, ℕ, map, Vec, Global}
use Rattle.sz_protofile_types.proofs.Ends.{none_open}
use Rattle.sz_protofile_types.proofs.search.Search.search_from.Goals as goal

abbrev graph_of : List (Vec ℕ Global) → List (List ℕ)
graph_of links = map (λ (l : Vec ℕ Global). l.items) links

-- nothing is open yet
pub enter-requires-clause-leads : goal.enter-requires-clause-leads
enter-requires-clause-leads c =
    λ u p o. absurd (none_open (graph_of c.args.links.now) c.args.self.now c.requires.sound c.requires.idle u p o)
