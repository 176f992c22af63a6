-- Which programs can be run where the tables are to be saved: those whose types have no more levels than a saved file can hold.
use Rattle.std.specs.Prelude.{List, [], ◌∷◌, Bool, true, Option, Some, None, unwrap_or, Result, Ok, Err, if◌then◌else◌}
use Rattle.sz_types.specs.Tables.{Declaration}
use Rattle.sz_tree.specs.Statements.{Stms}
use Rattle.sz_core.specs.Programs.{tables_of}
use Rattle.sz_mean.specs.Marked.{Marked}
use Rattle.sz_lex.specs.Tokens.{first_place}
use Rattle.sz_save.specs.Saving.{is_low}
use Rattle.sz_check_rules.specs.declared.cause.Cause.TheVariants.{TypeTooDeep}
use Rattle.sz_refusals.specs.declared.refusal.Refusal.{Refusal}
use Rattle.szl.specs.Reserved.{declared_in, runnable}
use Rattle.sz_protofile.specs.Types.{TypeShape}

-- the first table that a saved file can't hold, as the type of an index or of its elements has too many levels
abbrev pub first_high : List Declaration → Option Declaration
first_high [] = None
first_high (d ∷ ds) = if is_low d then first_high ds else Some d

-- the refusal of a table that a saved file can't hold, at the statement that declares it. Each table of a program has one
abbrev pub too_deep : Stms → Declaration → Refusal
too_deep statements d = record { cause = TypeTooDeep; place = unwrap_or (declared_in d.name statements) first_place; name = Some d.name }

-- a program whose tables are to be saved, or its refusal for one that can't be
abbrev pub unless_high : Stms → Option Declaration → Marked → Result Marked Refusal
unless_high statements (Some d) program = Err (too_deep statements d)
unless_high statements None program = Ok program

-- the same of what the statements are judged to be, if the tables are to be saved
abbrev pub savable_so : Bool → Stms → Result Marked Refusal → Result Marked Refusal
savable_so true statements (Ok program) = unless_high statements (first_high (tables_of program.core.items)) program
savable_so save statements found = found

-- the program that statements are where these types are known, to be run so that its tables are saved or not, and ignoring undefined values or not;
-- or their first refusal
abbrev pub savable : List TypeShape → (save ignoring : Bool) → Stms → Result Marked Refusal
savable types save ignoring statements = savable_so save statements (runnable types ignoring statements)
