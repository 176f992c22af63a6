-- The code of expressions: it leaves their slots on the stack. Places in it are absolute: code begins at a given line.
use Rattle.std.specs.Prelude.{ℕ, suc, ◌+◌, List, [], ◌∷◌, ◌++◌, length, if◌then◌else◌, Option, Some, None}
use Rattle.sz_types.specs.Data.{Shape}
use Rattle.sz_types.specs.Same.{alike}
use Rattle.sz_types.specs.declared.place.Place.{Place}
use Rattle.sz_core.specs.Nodes.{Node, node, Form, constant, local, static, input, call, builtin, def, convert, array, tuple, mapping, index, slice, type_of}
use Rattle.sz_core.specs.Nodes.{field, unary, binary, both, either, Nodes, no_nodes, with_node, Pairings, no_pairings, with_pairing}
use Rattle.sz_core.specs.Statements.{at_index, at_field}
use Rattle.sz_core.specs.Statements as core
use Rattle.sz_instr.specs.declared.instr.Instr.TheVariants.{Push, Local, Static, Input, Unary, Binary, Apply, Convert, Decode, MakeArray, MakeTuple, MakeMap}
use Rattle.sz_instr.specs.declared.instr.Instr.TheVariants.{Index, Slice, Field, Def, Tick, AndTest, OrTest, Call}
use Rattle.sz_instr.specs.declared.instr.Instr.{Instr}
use Rattle.sz_instr.specs.declared.line.Line.{Line}
use Rattle.sz_gen_rules.specs.Tables.{Tables, constant_number, type_number, line}

-- code and what follows it, which begins where the code ends
abbrev pub followed : ℕ → List Line → (ℕ → List Line) → List Line
followed at code next = code ++ next (at + length code)

-- code and one line after it
abbrev pub closed : List Line → Instr → Place → List Line
closed code instr place = code ++ line instr 1 place ∷ []

-- the code of `&&` or `||` after that of the left operand: the test passes over the right operand to the tick of the
-- whole
abbrev pub decided : (ℕ → Instr) → Place → (ℕ → List Line) → ℕ → List Line
decided test place right at =
    let code = right (suc at) in
    line (test (suc at + length code)) 0 place ∷ closed code Tick place

-- how many expressions there are, and how many pairs of a key and a value
abbrev pub count_of : Nodes → ℕ
count_of no_nodes = 0
count_of (with_node e es) = suc (count_of es)

abbrev pub pair_count_of : Pairings → ℕ
pair_count_of no_pairings = 0
pair_count_of (with_pairing k v ps) = suc (pair_count_of ps)

-- the instruction that makes a value of another type one of this type, which has this number: a message is decoded,
-- since bytes alone become one
abbrev pub changing : Shape → ℕ → Instr
changing (Shape.proto _) number = Decode number
changing _ number = Convert number

module _ (tables : Tables) where
  -- the instruction of a conversion between two types: a value that keeps its type takes a tick alone
  abbrev pub conversion : Shape → Shape → Instr
  conversion from to = if alike from to then Tick else changing to (type_number tables to)

  abbrev mutual
    -- the code of an expression that begins at a line
    pub expression_code : Node → ℕ → List Line
    expression_code (node place t form) at = form_code place t form at

    -- the code of an expression of this form
    pub form_code : Place → Shape → Form → ℕ → List Line
    form_code place t (constant d) at = line (Push (constant_number tables d)) 1 place ∷ []
    form_code place t (local n) at = line (Local n) 1 place ∷ []
    form_code place t (static n) at = line (Static n) 1 place ∷ []
    form_code place t input at = line Input 1 place ∷ []
    form_code place t (call f es) at = closed (expressions_code es at) (Call f) place
    form_code place t (builtin b es) at = closed (expressions_code es at) (Apply b) place
    form_code place t (def e) at = closed (expression_code e at) Def place
    form_code place t (convert e) at = closed (expression_code e at) (conversion (type_of e) t) place
    form_code place t (array es) at = closed (expressions_code es at) (MakeArray (count_of es)) place
    form_code place t (tuple es) at = closed (expressions_code es at) (MakeTuple (count_of es)) place
    form_code place t (mapping ps) at = closed (pairings_code ps at) (MakeMap (pair_count_of ps)) place
    form_code place t (index e i) at = closed (followed at (expression_code e at) (expression_code i)) Index place
    form_code place t (slice e i j) at =
        closed (followed at (followed at (expression_code e at) (expression_code i)) (expression_code j)) Slice place
    form_code place t (field e n) at = closed (expression_code e at) (Field n) place
    form_code place t (unary o e) at = closed (expression_code e at) (Unary o) place
    form_code place t (binary o a b) at =
        closed (followed at (expression_code a at) (expression_code b)) (Binary o) place
    form_code place t (both a b) at = followed at (expression_code a at) (decided AndTest place (expression_code b))
    form_code place t (either a b) at = followed at (expression_code a at) (decided OrTest place (expression_code b))

    -- the code of expressions, one after the other
    pub expressions_code : Nodes → ℕ → List Line
    expressions_code no_nodes at = []
    expressions_code (with_node e es) at = followed at (expression_code e at) (expressions_code es)

    -- the code of keys and values, by turns
    pub pairings_code : Pairings → ℕ → List Line
    pairings_code no_pairings at = []
    pairings_code (with_pairing k v ps) at =
        followed at (followed at (expression_code k at) (expression_code v)) (pairings_code ps)

  -- the code of the indexes among steps
  abbrev pub indexes_code : List core.Step → ℕ → List Line
  indexes_code [] at = []
  indexes_code (at_index e ∷ steps) at = followed at (expression_code e at) (indexes_code steps)
  indexes_code (at_field n ∷ steps) at = indexes_code steps at

  -- the code of an expression, where there is one
  abbrev pub code_if_some : Option Node → ℕ → List Line
  code_if_some None at = []
  code_if_some (Some e) at = expression_code e at
