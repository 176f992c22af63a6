use Rattle.std.proofs.Common.{List, ℕ, map, Vec, Global}
use Rattle.sz_protofile_types.specs.Search.{none_spared, IsSound, KeepsSeen, steps_of}
use Rattle.sz_protofile_types.proofs.search.Search.close_all.Given as goal

abbrev graph_of : List (Vec ℕ Global) → List (List ℕ)
graph_of links = map (λ (l : Vec ℕ Global). l.items) links

abbrev pub invariant-loop-start : goal.invariant-loop-start
invariant-loop-start l = record {
  sound : IsSound (graph_of l.links) none_spared l.self;
  kept : KeepsSeen l.initial.self.marks.items l.self.marks.items;
}

abbrev pub decreases-loop-start : goal.decreases-loop-start
decreases-loop-start l = steps_of (graph_of l.links) l.self
