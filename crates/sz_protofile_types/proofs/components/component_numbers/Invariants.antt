use Rattle.std.proofs.Common.{◌≡◌, ◌<◌, List, [], ℕ, map, Vec, Global}
use Rattle.sz_protofile_types.specs.declared.mark.Mark.TheVariants as mark
use Rattle.sz_protofile_types.specs.Search.{mark_of, none_spared, IsSound}
use Rattle.sz_protofile_types.proofs.components.component_numbers.Given as goal

abbrev graph_of : List (Vec ℕ Global) → List (List ℕ)
graph_of links = map (λ (l : Vec ℕ Global). l.items) links

abbrev pub invariant-loop-root : goal.invariant-loop-root
invariant-loop-root l = record {
  sound : IsSound (graph_of l.links) none_spared l.search;
  idle : l.search.starts.items ≡ [];
  seen : (u : ℕ) → u < l.root → mark_of l.search.marks.items u ≡ mark.Unseen → ⊥;
}
