-- The code of programs: that of the functions, of the statics and of the record, one after the other.
use Rattle.std.specs.Prelude.{◌≡◌, ℕ, suc, ◌+◌, pos, List, [], ◌∷◌, ◌++◌, length}
use Rattle.sz_types.specs.declared.operator.BinOp.TheVariants.{Div}
use Rattle.sz_value.specs.Data.{Datum}
use Rattle.sz_core.specs.Programs.{Function, Static, Core, functions_of, statics_of}
use Rattle.sz_instr.specs.declared.instr.Instr.TheVariants.{Push, KeepStatic, Binary, Return, EndRecord}
use Rattle.sz_instr.specs.declared.line.Line.{Line}
use Rattle.sz_instr.specs.declared.routine.Routine.{Routine}
use Rattle.sz_instr.specs.declared.code.Code.{Code}
use Rattle.sz_mean.specs.Marked.{Marked, all_tables, counting_table}
use Rattle.sz_mean.specs.Programs.{body_of}
use Rattle.sz_gen_rules.specs.Tables.{Tables, tables_in, constant_number, line}
use Rattle.sz_gen_rules.specs.ExpressionCode.{expression_code}
use Rattle.sz_gen_rules.specs.StatementCode.{no_exits, statements_code}
use Rattle.sz_gen_rules.specs.FreeLines.{free}
use Rattle.sz_gen_rules.specs.NamedStatements.{ProgramHasNames}

module _ (tables : Tables) where
  -- zero is pushed
  abbrev pub zero_pushed : Line
  zero_pushed = free (Push (constant_number tables (Datum.int (pos 0))))

  -- undefined is returned, which is what zero divided by zero is
  abbrev pub returns_undefined : List Line
  returns_undefined = zero_pushed ∷ zero_pushed ∷ free (Binary Div) ∷ free Return ∷ []

  -- a function: its statements, and the return of undefined at their end
  abbrev pub function_code : Function → ℕ → List Line
  function_code f at = statements_code tables f.body no_exits at ++ returns_undefined

  -- functions, one after the other
  abbrev pub functions_code : List Function → ℕ → List Line
  functions_code [] at = []
  functions_code (f ∷ fs) at =
      let code = function_code f at in
      code ++ functions_code fs (at + length code)

  -- the routines of functions whose code begins at a line
  abbrev pub function_routines : List Function → ℕ → List Routine
  function_routines [] at = []
  function_routines (f ∷ fs) at =
      record { entry = at; params = length f.signature.parameters; locals = length f.locals }
      ∷ function_routines fs (at + length (function_code f at))

  -- a static: its value, which is kept
  abbrev pub static_code : ℕ → Static → ℕ → List Line
  static_code n s at = expression_code tables s.value at ++ line (KeepStatic n) 1 s.place ∷ free EndRecord ∷ []

  -- statics from this number on, one after the other
  abbrev pub statics_code : ℕ → List Static → ℕ → List Line
  statics_code n [] at = []
  statics_code n (s ∷ rest) at =
      let code = static_code n s at in
      code ++ statics_code (suc n) rest (at + length code)

  -- the routines of statics whose code begins at a line
  abbrev pub static_routines : ℕ → List Static → ℕ → List Routine
  static_routines n [] at = []
  static_routines n (s ∷ rest) at =
      record { entry = at; params = 0; locals = 0 } ∷ static_routines (suc n) rest (at + length (static_code n s at))

  -- the record: its statements, and the end of the run
  abbrev pub record_code : Core → ℕ → List Line
  record_code core at = statements_code tables (body_of core) no_exits at ++ free EndRecord ∷ []

-- the code of a program's functions
abbrev pub function_lines_of : Core → Code → List Line
function_lines_of core code = functions_code (tables_in code) (functions_of core.items) 0

-- the code of its statics, behind that of the functions
abbrev pub static_lines_of : Core → Code → List Line
static_lines_of core code =
    statics_code (tables_in code) 0 (statics_of core.items) (length (function_lines_of core code))

-- the code is that of the program: functions first, then statics, then the record. It has the constants and the types
-- that its lines name, and counts lines where the program is ignoring, which changes none of its lines.
pub record IsCodeOf (program : Marked) (code : Code) : Type 0 where
  pub lines : code.lines ≡ function_lines_of program.core code
      ++ (static_lines_of program.core code
      ++ record_code (tables_in code) program.core code.main.entry)
  pub functions : code.functions ≡ function_routines (tables_in code) (functions_of program.core.items) 0
  pub statics : code.statics ≡ static_routines (tables_in code) 0 (statics_of program.core.items)
      (length (function_lines_of program.core code))
  pub main : code.main ≡ record {
    entry = length (function_lines_of program.core code)
        + length (static_lines_of program.core code);
    params = 0;
    locals = length program.core.locals;
  }
  pub names : ProgramHasNames (tables_in code) program.core
  pub tables : code.tables ≡ all_tables program
  pub ignore : code.ignore ≡ counting_table program
