-- Which nodes of a graph lead to each other. A graph is the list of its nodes' links: a node is the number of its
-- place.
use Rattle.std.specs.Prelude.{◌≡◌, ℕ, ◌<◌, ◌≤◌, List, [], length, slice_index_or, Contains}

-- the nodes that a node has links to
abbrev pub links_of : List (List ℕ) → ℕ → List ℕ
links_of graph a = slice_index_or graph a []

-- each link is to a node
abbrev pub IsGraph : List (List ℕ) → Type 0
IsGraph graph = (a b : ℕ) → Contains (links_of graph a) b → b < length graph

-- a node leads to itself, and to what a node leads to that it has a link to
pub data Leads (graph : List (List ℕ)) : ℕ → ℕ → Type 0 where
  itself : (a : ℕ) → Leads graph a a
  further : (a b c : ℕ) → Contains (links_of graph a) b → Leads graph b c → Leads graph a c

-- a number for each node: no link is to a higher one, and nodes with equal ones lead to each other
pub record AreNumbers (graph : List (List ℕ)) (numbers : List ℕ) : Type 0 where
  pub each : length numbers ≡ length graph
  pub falling : (a b : ℕ) → Contains (links_of graph a) b → slice_index_or numbers b 0 ≤ slice_index_or numbers a 0
  pub together : (a b : ℕ) → a < length graph → b < length graph
      → slice_index_or numbers a 0 ≡ slice_index_or numbers b 0 → Leads graph a b
