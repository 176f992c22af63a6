-- The code of a small expression, written out: true && 1 + 1 == 2
use Rattle.std.specs.Prelude.{ℕ, List, [], ◌∷◌, pos, true}
use Rattle.sz_types.specs.Data.{Shape}
use Rattle.sz_types.specs.declared.place.Place.{Place}
use Rattle.sz_types.specs.declared.operator.BinOp.TheVariants.{Add, Equal}
use Rattle.sz_value.specs.Data.{Datum}
use Rattle.sz_core.specs.Nodes.{Node, node, constant, binary, both}
use Rattle.sz_instr.specs.declared.instr.Instr.TheVariants.{Push, Binary, Tick, AndTest}
use Rattle.sz_instr.specs.declared.line.Line.{Line}
use Rattle.sz_gen_rules.specs.Tables.{Tables, line}

-- the place in this column of the first line
abbrev pub column : ℕ → Place
column n = record { line = 1; column = n }

-- the constants of the expression; it names no type
abbrev pub example_tables : Tables
example_tables = record { constants = Datum.truth true ∷ Datum.int (pos 1) ∷ Datum.int (pos 2) ∷ []; types = [] }

-- a whole number at a place
abbrev pub number_at : ℕ → ℕ → Node
number_at n at = node (column at) Shape.int (constant (Datum.int (pos n)))

-- the expression
abbrev pub example : Node
example = node (column 1) Shape.truth (both (node (column 1) Shape.truth (constant (Datum.truth true)))
    (node (column 9) Shape.truth
    (binary Equal (node (column 9) Shape.int (binary Add (number_at 1 9) (number_at 1 13))) (number_at 2 18))))

-- its code, from line 5 on
abbrev pub example_code : List Line
example_code =
    line (Push 0) 1 (column 1) ∷ line (AndTest 12) 0 (column 1)
    ∷ line (Push 1) 1 (column 9) ∷ line (Push 1) 1 (column 13) ∷ line (Binary Add) 1 (column 9)
    ∷ line (Push 2) 1 (column 18) ∷ line (Binary Equal) 1 (column 9) ∷ line Tick 1 (column 1) ∷ []
