use Rattle.std.proofs.Common.{List, ℕ, map, sym, subst, Vec, Global}
use Rattle.sz_protofile_types.specs.Components.{IsGraph, AreNumbers}
use Rattle.sz_protofile_types.proofs.LinkLemmas.{is_graph}
use Rattle.sz_protofile_types.proofs.LoopRankLemmas.{is_ranking}
use Rattle.sz_protofile_types.proofs.ranks.message_ranks.Goals as goal

abbrev links_in : List (Vec ℕ Global) → List (List ℕ)
links_in links = map (λ (l : Vec ℕ Global). l.items) links

pub component_numbers-requires : goal.component_numbers-requires
component_numbers-requires c = record {
  graph = subst (λ l. IsGraph (links_in l)) (sym c.as_slice.ensures.value)
      (is_graph c.args.fields.now c.in_ok-graph.graph.nodes (links_in c.in_ok-graph.graph.links.items)
      c.in_ok-graph.ensures.value);
}

pub returns : goal.returns
returns c = record {
  value = is_ranking c.args.fields.now c.in_ok-graph.graph.nodes (links_in c.in_ok-graph.graph.links.items)
      c.in_ok-graph.ensures.value c.in_ok-numbers.numbers.items
      (subst (λ l. AreNumbers (links_in l) c.in_ok-numbers.numbers.items)
      c.as_slice.ensures.value c.in_ok-numbers.ensures.value);
}
