-- Code of a record alone: two locals hold one array, and an element of the first is changed; then two operators on
-- whole numbers.
use Rattle.std.specs.Prelude.{List, [], ◌∷◌, ◌++◌, false, pos, codes, None}
use Rattle.sz_types.specs.declared.operator.BinOp.TheVariants.{Rem, Shl}
use Rattle.sz_value.specs.Data.{Datum}
use Rattle.sz_instr.specs.declared.step.Step.TheVariants as steps
use Rattle.sz_instr.specs.declared.instr.Instr.TheVariants.{Push, Local, Store, MakeArray, Index, Binary, EndRecord, Emit}
use Rattle.sz_instr.specs.declared.line.Line.{Line}
use Rattle.sz_instr.specs.declared.code.Code.{Code}
use Rattle.sz_instr.specs.Example.{line_of, sum_named}

-- a = {5}; b = a; a[0] = 7;
abbrev pub assignments : List Line
assignments =
    line_of (Push 0) 0 1 1 ∷ line_of (MakeArray 1) 0 1 1 ∷ line_of (Store 0 []) 0 1 1
    ∷ line_of (Local 0) 0 2 1 ∷ line_of (Store 1 []) 0 2 1
    ∷ line_of (Push 1) 0 3 1 ∷ line_of (Push 2) 0 3 1 ∷ line_of (Store 0 (steps.Index ∷ [])) 0 3 1 ∷ []

-- emit total <- b[0]; emit total <- a[0]; emit total <- 7 % 5; emit total <- 5 << 7;
abbrev pub emits : List Line
emits =
    line_of (Local 1) 0 4 1 ∷ line_of (Push 1) 0 4 1 ∷ line_of Index 0 4 1 ∷ line_of (Emit 0 0 false) 0 4 1
    ∷ line_of (Local 0) 0 5 1 ∷ line_of (Push 1) 0 5 1 ∷ line_of Index 0 5 1 ∷ line_of (Emit 0 0 false) 0 5 1
    ∷ line_of (Push 2) 0 6 1 ∷ line_of (Push 0) 0 6 1 ∷ line_of (Binary Rem) 0 6 1 ∷ line_of (Emit 0 0 false) 0 6 1
    ∷ line_of (Push 0) 0 7 1 ∷ line_of (Push 2) 0 7 1 ∷ line_of (Binary Shl) 0 7 1 ∷ line_of (Emit 0 0 false) 0 7 1
    ∷ line_of EndRecord 0 1 1 ∷ []

-- the numbers that are pushed
abbrev pub numbers : List Datum
numbers = Datum.int (pos 5) ∷ Datum.int (pos 0) ∷ Datum.int (pos 7) ∷ []

-- the code
abbrev pub sharing : Code
sharing = record {
  lines = assignments ++ emits;
  functions = [];
  statics = [];
  main = record { entry = 0; params = 0; locals = 2 };
  constants = numbers;
  types = [];
  tables = sum_named (codes "total") ∷ [];
  ignore = None;
}
