-- A checked program with the mark that says what comes of undefined values: whether the statements that use one are
-- passed over.
use Rattle.std.specs.Prelude.{ℕ, List, [], ◌∷◌, ◌++◌, length, Bool, true, false, Option, Some, None, codes}
use Rattle.sz_types.specs.Data.{Shape}
use Rattle.sz_types.specs.Tables.{Declaration}
use Rattle.sz_types.specs.declared.table.TableKind.TheVariants.{Sum}
use Rattle.sz_core.specs.Programs.{Core, tables_of}

-- a program, and whether it is an ignoring one: one that passes over a statement that uses an undefined value, and
-- counts its line
pub record Marked : Type 0 where
  pub core : Core
  pub ignoring : Bool

-- the program with this mark
abbrev pub marked : Core → Bool → Marked
marked core ignoring = record { core = core; ignoring = ignoring }

-- the table of the lines that were passed over. No program declares it.
abbrev pub table_of_lines : Declaration
table_of_lines = record {
  name = codes "_undefs";
  kind = Sum;
  limit = 0;
  indexes = Shape.int ∷ [];
  element = Shape.int;
  weight = None;
}

-- tables, and behind them the table of lines where a program is ignoring
abbrev pub with_lines : Bool → List Declaration → List Declaration
with_lines false tables = tables
with_lines true tables = tables ++ table_of_lines ∷ []

-- the tables that a program's emits go to
abbrev pub all_tables : Marked → List Declaration
all_tables program = with_lines program.ignoring (tables_of program.core.items)

-- the number of the table of lines behind so many others
abbrev pub counting_behind : Bool → ℕ → Option ℕ
counting_behind false count = None
counting_behind true count = Some count

-- the number of the table that counts lines, if the program is ignoring
abbrev pub counting_table : Marked → Option ℕ
counting_table program = counting_behind program.ignoring (length (tables_of program.core.items))
