-- The graph of messages: where in a list of names a name stands, and which links its nodes have.
use Rattle.std.specs.Prelude.{◌≡◌, ◌≢◌, ℕ, List, [], ◌∷◌, ◌++◌, length, Some, Contains}
use Rattle.sz_protofile.specs.declared.field.FieldIn.{FieldIn}
use Rattle.sz_protofile.specs.declared.field.Sort.TheVariants as sorts
use Rattle.sz_scope.specs.Names.{place_of}
use Rattle.sz_protofile_types.specs.Components.{links_of}

-- a link stands for a field: it is to the message of its type, from the one in which it stands
pub record StandsFor (names : List (List ℕ)) (a b : ℕ) (f : FieldIn) : Type 0 where
  pub target : List ℕ
  pub sort : f.sort ≡ sorts.Message target
  pub «from» : place_of f.owner names ≡ Some a
  pub to : place_of target names ≡ Some b

-- a field of a message's type has its link
pub record HasLink (names : List (List ℕ)) (graph : List (List ℕ)) (owner target : List ℕ) : Type 0 where
  pub a : ℕ
  pub b : ℕ
  pub «from» : place_of owner names ≡ Some a
  pub to : place_of target names ≡ Some b
  pub linked : Contains (links_of graph a) b

-- the graph with these names has the links of these fields, and no others
pub record IsLinked (fields : List FieldIn) (names : List (List ℕ)) (graph : List (List ℕ)) : Type 0 where
  pub same : length graph ≡ length names
  pub every : (f : FieldIn) (m : List ℕ) → Contains fields f → f.sort ≡ sorts.Message m → HasLink names graph f.owner m
  pub only : (a b : ℕ) → Contains (links_of graph a) b → (f : FieldIn) × (Contains fields f) × StandsFor names a b f

-- names and links of which there are more: names keep their places, and nodes their links, and the new nodes have none
pub record IsGrown (names : List (List ℕ)) (graph : List (List ℕ)) (more : List (List ℕ))
    (after : List (List ℕ)) : Type 0 where
  pub same : length after ≡ length more
  pub places : (name : List ℕ) (a : ℕ) → place_of name names ≡ Some a → place_of name more ≡ Some a
  pub links : (a : ℕ) → links_of after a ≡ links_of graph a

-- the same with one link more, between the nodes of two messages
pub record HasNewLink (owner target : List ℕ) (names : List (List ℕ)) (graph : List (List ℕ)) (more : List (List ℕ))
    (after : List (List ℕ))
    : Type 0 where
  pub same : length after ≡ length more
  pub places : (name : List ℕ) (a : ℕ) → place_of name names ≡ Some a → place_of name more ≡ Some a
  pub a : ℕ
  pub b : ℕ
  pub «from» : place_of owner more ≡ Some a
  pub to : place_of target more ≡ Some b
  pub own : links_of after a ≡ links_of graph a ++ b ∷ []
  pub others : (c : ℕ) → c ≢ a → links_of after c ≡ links_of graph c
