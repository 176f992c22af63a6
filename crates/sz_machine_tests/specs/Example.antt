-- Code of six lines: a static that is 5, and a record that emits it.
use Rattle.std.specs.Prelude.{ℕ, List, [], ◌∷◌, false, pos, codes, None}
use Rattle.sz_value.specs.Data.{Datum}
use Rattle.sz_instr.specs.declared.instr.Instr.TheVariants.{Push, Static, KeepStatic, EndRecord, Emit}
use Rattle.sz_instr.specs.declared.line.Line.{Line}
use Rattle.sz_instr.specs.declared.routine.Routine.{Routine}
use Rattle.sz_instr.specs.declared.code.Code.{Code}
use Rattle.sz_instr.specs.Example.{line_of, sum_named}

-- static five: int = 5; emit total <- five;
abbrev pub lines : List Line
lines =
    line_of (Push 0) 1 2 20 ∷ line_of (KeepStatic 0) 1 2 1 ∷ line_of EndRecord 0 2 1
    ∷ line_of (Static 0) 1 3 15 ∷ line_of (Emit 0 0 false) 1 3 1 ∷ line_of EndRecord 0 1 1 ∷ []

-- the routine that begins at a line, without parameters and locals
abbrev pub begins_at : ℕ → Routine
begins_at entry = record { entry = entry; params = 0; locals = 0 }

-- the code
abbrev pub example : Code
example = record {
  lines = lines;
  functions = [];
  statics = begins_at 0 ∷ [];
  main = begins_at 3;
  constants = Datum.int (pos 5) ∷ [];
  types = [];
  tables = sum_named (codes "total") ∷ [];
  ignore = None;
}
