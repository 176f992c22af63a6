use Rattle.std.proofs.Common.{ℕ, map, take, Vec, Global}
use Rattle.sz_protofile_types.specs.Places.{IsLinked}
use Rattle.sz_protofile_types.proofs.ranks.graph_of.Given as goal

abbrev pub invariant-loop-field : goal.invariant-loop-field
invariant-loop-field l =
    IsLinked (take l.field-index l.fields) l.graph.nodes (map (λ (r : Vec ℕ Global). r.items) l.graph.links.items)
