-- Checked expressions: each has its place and its type, and numbers stand for names.
use Rattle.std.specs.Prelude.{ℕ, List, [], ◌∷◌}
use Rattle.sz_types.specs.Data.{Shape}
use Rattle.sz_types.specs.declared.place.Place.{Place}
use Rattle.sz_types.specs.declared.operator.UnOp.{UnOp}
use Rattle.sz_types.specs.declared.operator.BinOp.{BinOp}
use Rattle.sz_types.specs.declared.operator.Builtin.{Builtin}
use Rattle.sz_value.specs.Data.{Datum}

mutual
  -- an expression: where its first token stands, its type, and what it is
  pub data Node : Type 0 where
    node : Place → Shape → Form → Node

  -- what an expression is
  pub data Form : Type 0 where
    constant : Datum → Form
    local : ℕ → Form
    static : ℕ → Form
    input : Form
    call : ℕ → Nodes → Form
    builtin : Builtin → Nodes → Form
    def : Node → Form
    convert : Node → Form
    array : Nodes → Form
    tuple : Nodes → Form
    mapping : Pairings → Form
    index : Node → Node → Form
    slice : Node → Node → Node → Form
    field : Node → ℕ → Form
    unary : UnOp → Node → Form
    binary : BinOp → Node → Node → Form
    both : Node → Node → Form
    either : Node → Node → Form

  -- expressions, one after the other
  pub data Nodes : Type 0 where
    no_nodes : Nodes
    with_node : Node → Nodes → Nodes

  -- keys with their values
  pub data Pairings : Type 0 where
    no_pairings : Pairings
    with_pairing : Node → Node → Pairings → Pairings

-- the same as lists
abbrev pub nodes_of : List Node → Nodes
nodes_of [] = no_nodes
nodes_of (e ∷ es) = with_node e (nodes_of es)

abbrev pub pairings_of : List (Node × Node) → Pairings
pairings_of [] = no_pairings
pairings_of (p ∷ ps) = with_pairing p.0 p.1 (pairings_of ps)

-- the type of an expression
abbrev pub type_of : Node → Shape
type_of (node p t f) = t

-- the types of expressions, in order
abbrev pub types_of : Nodes → List Shape
types_of no_nodes = []
types_of (with_node e es) = type_of e ∷ types_of es
