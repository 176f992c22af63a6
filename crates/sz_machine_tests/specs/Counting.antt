-- Code of a record alone that counts lines: an emit, a value that is discarded, a test and a store, each of a
-- quotient by 0.
use Rattle.std.specs.Prelude.{ℕ, List, [], ◌∷◌, ◌++◌, false, pos, codes, Some}
use Rattle.sz_types.specs.declared.operator.BinOp.TheVariants.{Div}
use Rattle.sz_types.specs.Data.{Shape}
use Rattle.sz_types.specs.Tables.{Declaration}
use Rattle.sz_value.specs.Data.{Datum}
use Rattle.sz_instr.specs.declared.instr.Instr.TheVariants.{Push, Store, Binary, Discard, Test, EndRecord, Emit}
use Rattle.sz_instr.specs.declared.line.Line.{Line}
use Rattle.sz_instr.specs.declared.code.Code.{Code}
use Rattle.sz_instr.specs.Example.{line_of, sum_named}

-- 5 / 0, at this line of the text
abbrev pub quotient : ℕ → List Line
quotient row = line_of (Push 0) 0 row 1 ∷ line_of (Push 1) 0 row 1 ∷ line_of (Binary Div) 0 row 1 ∷ []

-- emit total <- 5 / 0; f(5 / 0); if (5 / 0) return; a = 5 / 0;
abbrev pub uses : List Line
uses =
    (quotient 1 ++ line_of (Emit 0 0 false) 0 1 1 ∷ []) ++ (quotient 2 ++ line_of Discard 0 2 1 ∷ [])
    ++ (quotient 3 ++ line_of (Test 16 12) 0 3 1 ∷ []) ++ (quotient 4 ++ line_of (Store 0 []) 0 4 1 ∷ [])

-- the table of lines
abbrev pub counts : Declaration
counts = record (sum_named (codes "_undefs")) { indexes = Shape.int ∷ [] }

-- the code
abbrev pub counting : Code
counting = record {
  lines = uses ++ line_of EndRecord 0 1 1 ∷ [];
  functions = [];
  statics = [];
  main = record { entry = 0; params = 0; locals = 1 };
  constants = Datum.int (pos 5) ∷ Datum.int (pos 0) ∷ [];
  types = [];
  tables = sum_named (codes "total") ∷ counts ∷ [];
  ignore = Some 1;
}
