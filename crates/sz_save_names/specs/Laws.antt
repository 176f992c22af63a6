-- The law of the declarations of checked programs.
use Rattle.std.specs.Prelude.{◌≡◌, ◌<◌, ◌^◌, ℕ, Bool, true, Ok, List, [], ◌∷◌, length}
use Rattle.sz_lex.specs.declared.token.Token.{Token}
use Rattle.sz_lex.specs.Tokens.{HasTokens}
use Rattle.sz_tree.specs.Statements.{Stms}
use Rattle.sz_parse.specs.Program.{Spells}
use Rattle.sz_core.specs.Programs.{Core, tables_of}
use Rattle.sz_core.specs.Sound.{IsSound}
use Rattle.sz_check_rules.specs.JudgingWithTypes.{NamedShape, judge_program_with}
use Rattle.sz_save_format.specs.Types.{HasTypeBytes}
use Rattle.sz_mean.specs.Marked.{marked, all_tables}
use Rattle.sz_save.specs.Saving.{HaveSpelling, are_all_low}

-- each of these types has its bytes in a saved file, but for its height
abbrev pub TypesHaveBytes : List NamedShape → Type 0
TypesHaveBytes [] = Unit {0}
TypesHaveBytes (t ∷ types) = HasTypeBytes t.1 × TypesHaveBytes types

-- The tables of a program that a text spells have a spelling, where their types are low. So they have with the table
-- of lines behind them, where the program is an ignoring one. The text has fewer than 2^32 bytes, as each program's
-- has, and the types that are known round the program have their bytes.
abbrev pub TablesHaveSpellings : Type 0
TablesHaveSpellings =
    (text : List ℕ) (tokens : List Token) (types : List NamedShape) (statements : Stms) (program : Core)
    (ignoring : Bool) → length text < 2 ^ 32
    → HasTokens text tokens → Spells (record { text = text; tokens = tokens }) statements → TypesHaveBytes types
    → judge_program_with types statements ≡ Ok program → IsSound program → are_all_low (tables_of program.items) ≡ true
    → HaveSpelling (all_tables (marked program ignoring))
