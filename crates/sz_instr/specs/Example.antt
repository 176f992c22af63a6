-- The code of examples/first.szl, which docs/ARCHITECTURE.md follows, as an example.
use Rattle.std.specs.Prelude.{ℕ, List, [], ◌∷◌, false, pos, None, codes}
use Rattle.sz_types.specs.Data.{Shape}
use Rattle.sz_types.specs.Tables.{Declaration}
use Rattle.sz_types.specs.declared.operator.BinOp.TheVariants.{Mul}
use Rattle.sz_types.specs.declared.table.TableKind.TheVariants.{Sum}
use Rattle.sz_value.specs.Data.{Datum}
use Rattle.sz_instr.specs.declared.instr.Instr.{Instr}
use Rattle.sz_instr.specs.declared.instr.Instr.TheVariants.{Push, Local, Input, Keep, Binary, Convert, EndRecord, Emit}
use Rattle.sz_instr.specs.declared.line.Line.{Line}
use Rattle.sz_instr.specs.declared.code.Code.{Code}

-- an instruction with its charge, for the part of the program's text that begins in this line and column
abbrev pub line_of : Instr → ℕ → ℕ → ℕ → Line
line_of instr charge row column = record {
  instr = instr;
  charge = charge;
  place = record { line = row; column = column };
}

-- x: int = input; emit count <- 1; emit total <- x; emit sum_of_squares <- x * x;
abbrev pub example_lines : List Line
example_lines =
    line_of Input 1 5 10 ∷ line_of (Convert 0) 1 5 10 ∷ line_of (Keep 0) 1 5 1
    ∷ line_of (Push 0) 1 6 15 ∷ line_of (Emit 0 0 false) 1 6 1
    ∷ line_of (Local 0) 1 7 15 ∷ line_of (Emit 1 0 false) 1 7 1
    ∷ line_of (Local 0) 1 8 24 ∷ line_of (Local 0) 1 8 28 ∷ line_of (Binary Mul) 1 8 24 ∷ line_of (Emit 2 0 false) 1 8 1
    ∷ line_of EndRecord 0 1 1 ∷ []

-- the table of sums of whole numbers with this name
abbrev pub sum_named : List ℕ → Declaration
sum_named name = record { name = name; kind = Sum; limit = 0; indexes = []; element = Shape.int; weight = None }

-- the code: x is the one local, and there are no functions and no statics
abbrev pub example : Code
example = record {
  lines = example_lines;
  functions = [];
  statics = [];
  main = record { entry = 0; params = 0; locals = 1 };
  constants = Datum.int (pos 1) ∷ [];
  types = Shape.int ∷ [];
  tables = sum_named (codes "count") ∷ sum_named (codes "total") ∷ sum_named (codes "sum_of_squares") ∷ [];
  ignore = None;
}
