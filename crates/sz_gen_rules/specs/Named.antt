-- What the code of expressions needs beside their types: the constants and the types that it names are in the tables.
use Rattle.std.specs.Prelude.{List, [], ◌∷◌, Bool, true, false}
use Rattle.sz_types.specs.Data.{Shape}
use Rattle.sz_types.specs.Same.{alike}
use Rattle.sz_core.specs.Nodes.{Node, node, Form, constant, local, static, input, call, builtin, def, convert, array, tuple, mapping, index, slice, type_of}
use Rattle.sz_core.specs.Nodes.{field, unary, binary, both, either, Nodes, no_nodes, with_node, Pairings, no_pairings, with_pairing}
use Rattle.sz_core.specs.Statements.{Step, at_index, at_field}
use Rattle.sz_gen_rules.specs.Tables.{Tables, HasConstant, HasType}

module _ (tables : Tables) where
  -- the tables have the type that a value is converted to, unless it keeps its type
  abbrev pub HasTarget : Bool → Shape → Type 0
  HasTarget true to = Unit {0}
  HasTarget false to = HasType tables to

  abbrev mutual
    -- the tables have what the code of an expression names
    pub HasNames : Node → Type 0
    HasNames (node place t form) = FormHasNames t form

    pub FormHasNames : Shape → Form → Type 0
    FormHasNames t (constant d) = HasConstant tables d
    FormHasNames t (local n) = Unit {0}
    FormHasNames t (static n) = Unit {0}
    FormHasNames t input = Unit {0}
    FormHasNames t (call f es) = HaveNames es
    FormHasNames t (builtin b es) = HaveNames es
    FormHasNames t (def e) = HasNames e
    FormHasNames t (convert e) = HasNames e × HasTarget (alike (type_of e) t) t
    FormHasNames t (array es) = HaveNames es
    FormHasNames t (tuple es) = HaveNames es
    FormHasNames t (mapping ps) = PairingsHaveNames ps
    FormHasNames t (index e i) = HasNames e × HasNames i
    FormHasNames t (slice e i j) = HasNames e × HasNames i × HasNames j
    FormHasNames t (field e n) = HasNames e
    FormHasNames t (unary o e) = HasNames e
    FormHasNames t (binary o a b) = HasNames a × HasNames b
    FormHasNames t (both a b) = HasNames a × HasNames b
    FormHasNames t (either a b) = HasNames a × HasNames b

    -- the same of expressions
    pub HaveNames : Nodes → Type 0
    HaveNames no_nodes = Unit {0}
    HaveNames (with_node e es) = HasNames e × HaveNames es

    pub PairingsHaveNames : Pairings → Type 0
    PairingsHaveNames no_pairings = Unit {0}
    PairingsHaveNames (with_pairing k v ps) = HasNames k × HasNames v × PairingsHaveNames ps

  -- the same of the indexes among steps
  abbrev pub StepsHaveNames : List Step → Type 0
  StepsHaveNames [] = Unit {0}
  StepsHaveNames (at_index e ∷ steps) = HasNames e × StepsHaveNames steps
  StepsHaveNames (at_field n ∷ steps) = StepsHaveNames steps
