-- The parts of a value have fewer nodes than the value.
use Rattle.std.specs.Prelude.{◌≡◌, ◌≤◌, ◌+◌, List, [], ◌∷◌, ◌++◌, map, max}
use Rattle.std.proofs.Common.{arith}
use denote.Param.Weighed.{most}
use Rattle.sz_value.specs.Code.{datum_nodes, parts_nodes, pairs_nodes}
use Rattle.sz_value.specs.Data.{Datum}
use Rattle.sz_value.specs.Seen.{seen, seen_pair, seen_runs}
use Rattle.sz_value.specs.declared.value.Value.{Value}
use Rattle.sz_value.specs.declared.value.Value.TheVariants.{Bool, Int, Time, Str, Bytes, Array, Tuple, Map}
use Rattle.sz_value.specs.declared.value.Pair.{Pair}
use Rattle.sz_value.specs.declared.value.Run.{Run}
use Rattle.sz_value.specs.declared.value.List.TheDeep.{deep-Value, deep-Pair, deep-Run}

pub deep_le-nodes : (v : Value) → deep-Value v ≤ datum_nodes (seen v)
deep_le-nodes (Bool b) = omega arith
deep_le-nodes (Int n) = omega arith
deep_le-nodes (Time n) = omega arith
deep_le-nodes (Str s) = omega arith
deep_le-nodes (Bytes s) = omega arith
deep_le-nodes (Array l) = omega arith
deep_le-nodes (Tuple l) = omega arith
deep_le-nodes (Map m) = omega arith

pub most_le-parts : (vs : List Value) → max (most deep-Value vs) 0 ≤ parts_nodes (map seen vs)
most_le-parts [] = omega arith
most_le-parts (v ∷ vs) = omega (arith, deep_le-nodes v, most_le-parts vs)

most_le-pairs : (ps : List Pair) → max (most deep-Pair ps) 0 ≤ pairs_nodes (map seen_pair ps)
most_le-pairs [] = omega arith
most_le-pairs (p ∷ ps) = omega (arith, deep_le-nodes p.key, deep_le-nodes p.value, most_le-pairs ps)

-- the nodes of one list of pairs and then another
nodes_of_both : (ps qs : List (Datum × Datum)) → pairs_nodes (ps ++ qs) ≡ pairs_nodes ps + pairs_nodes qs
nodes_of_both [] qs = omega arith
nodes_of_both (p ∷ ps) qs = omega (arith, nodes_of_both ps qs)

pub most_le-runs : (runs : List Run) → max (most deep-Run runs) 0 ≤ pairs_nodes (seen_runs runs)
most_le-runs [] = omega arith
most_le-runs (run ∷ runs) = omega (
  arith,
  nodes_of_both (map seen_pair run.pairs.items) (seen_runs runs),
  most_le-pairs run.pairs.items,
  most_le-runs runs,
)
