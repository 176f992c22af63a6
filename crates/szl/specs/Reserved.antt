-- Which programs can be run: a program that is to ignore undefined values has no table of the name that the table of lines has.
use Rattle.std.specs.Prelude.{ℕ, List, Bool, true, Option, Some, None, Result, Ok, Err, bytes_eq, codes, if◌then◌else◌}
use Rattle.sz_types.specs.declared.place.Place.{Place}
use Rattle.sz_tree.specs.Names.{Ident}
use Rattle.sz_tree.specs.Statements.{Stm, Stms, table, no_stms, stm}
use Rattle.sz_core.specs.Programs.{Core}
use Rattle.sz_mean.specs.Marked.{Marked, marked}
use Rattle.sz_check_rules.specs.declared.cause.Cause.TheVariants.{ReservedName}
use Rattle.sz_refusals.specs.declared.refusal.Refusal.{Refusal}
use Rattle.sz_refusals.specs.Refusing.{refusal_at}
use Rattle.szl.specs.Checking.{checked}
use Rattle.sz_protofile.specs.Types.{TypeShape}

-- the place of the name, if it is this one
abbrev pub if_named : List ℕ → Ident → Option Place
if_named text name = if bytes_eq name.text text then Some name.place else None

-- the place of the statement, if it declares a table of this name
abbrev pub declared_by : List ℕ → Stm → Option Place
declared_by text (table name form) = if_named text name
declared_by text _ = None

-- the first place, if there is one, else the second
abbrev pub first_of : Option Place → Option Place → Option Place
first_of (Some place) other = Some place
first_of None other = other

-- the place of the first statement that declares a table of this name. Tables are declared at the top level alone
abbrev pub declared_in : List ℕ → Stms → Option Place
declared_in text no_stms = None
declared_in text (stm s ss) = first_of (declared_by text s) (declared_in text ss)

-- the reserved name
abbrev pub reserved_name : List ℕ
reserved_name = codes "_undefs"

-- a checked program, to be run ignoring undefined values or not, or its refusal for the reserved name, which stands there
abbrev pub unless_reserved : Bool → Option Place → Core → Result Marked Refusal
unless_reserved true (Some place) core = Err (refusal_at ReservedName place)
unless_reserved ignoring found core = Ok (marked core ignoring)

-- the same of what the statements are judged to be
abbrev pub runnable_so : Bool → Stms → Result Core Refusal → Result Marked Refusal
runnable_so ignoring statements (Ok core) = unless_reserved ignoring (declared_in reserved_name statements) core
runnable_so ignoring statements (Err r) = Err r

-- the program that statements are where these types are known, to be run ignoring undefined values or not, or their first refusal
abbrev pub runnable : List TypeShape → Bool → Stms → Result Marked Refusal
runnable types ignoring statements = runnable_so ignoring statements (checked types statements)
