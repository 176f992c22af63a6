-- Code in the making, with the code of statements and routines after what it has.
use Rattle.std.specs.Prelude.{◌≡◌, ℕ, ◌+◌, pos, List, [], ◌∷◌, ◌++◌, length, map, Option, None, Some, IfSome}
use Rattle.std.specs.Option.{option_map}
use Rattle.std.specs.Borrow.{Bor}
use Rattle.sz_value.specs.Data.{Datum}
use Rattle.sz_core.specs.Programs.{Function, Static}
use Rattle.sz_types.specs.declared.place.Place.{Place}
use Rattle.sz_core.specs.Nodes.{Node}
use Rattle.sz_core.specs.Statements.{Step, Quantified, Stm, Stms}
use Rattle.sz_core.specs.declared.expr.CoreExpr.{CoreExpr}
use Rattle.sz_core.specs.declared.stmt.CoreStmt.{CoreStmt}
use Rattle.sz_core.specs.View.{node_of, stm_of}
use Rattle.sz_instr.specs.declared.instr.Instr.TheVariants.{Enter}
use Rattle.sz_instr.specs.declared.line.Line.{Line}
use Rattle.sz_instr.specs.declared.routine.Routine.{Routine}
use Rattle.sz_gen_expr.specs.declared.builder.Builder.{Builder}
use Rattle.sz_gen_rules.specs.Tables.{Tables, HasConstant}
use Rattle.sz_gen_rules.specs.ExpressionCode.{expression_code, indexes_code}
use Rattle.sz_gen_rules.specs.Named.{HasNames, StepsHaveNames}
use Rattle.sz_gen_expr.specs.Building.{tables_made, Grows, Appends}
use Rattle.sz_gen_rules.specs.StatementCode as codes
use Rattle.sz_gen_rules.specs.StatementCode.{in_loop, in_search, test_code, loop_test_code, loop_code, variable_code_of, statement_code, statements_code}
use Rattle.sz_gen_rules.specs.FreeLines.{free}
use Rattle.sz_gen_rules.specs.SearchCode.{holds_code, search_code}
use Rattle.sz_gen_rules.specs.NamedStatements.{FlagsHaveNames, BasesHaveNames, StmHasNames, StmsHaveNames, FunctionsHaveNames, StaticsHaveNames}
use Rattle.sz_gen_rules.specs.ProgramCode.{function_code, functions_code, function_routines, static_code, statics_code, static_routines}
use Rattle.sz_gen_stmt.specs.declared.generate.Exits.{Exits}

-- the exits as the code's definition has them
abbrev pub exits_of : Exits → codes.Exits
exits_of out = record { on_break = out.on_break; on_continue = out.on_continue; flags = out.flags }

-- an expression or a statement, where there is one
abbrev pub node_if_some : Option (Bor CoreExpr) → Option Node
node_if_some = option_map (λ e. node_of e.now)

abbrev pub stm_if_some : Option (Bor CoreStmt) → Option Stm
stm_if_some = option_map (λ s. stm_of s.now)

-- the code of a statement, where there is one
abbrev pub code_if_any : Tables → Option Stm → codes.Exits → ℕ → List Line
code_if_any tables None out at = []
code_if_any tables (Some s) out at = statement_code tables s out at

-- the code of a statement more
abbrev pub AppendsStm : Builder → Builder → Stm → codes.Exits → Type 0
AppendsStm old new s out =
    Appends old new (λ tables at. statement_code tables s out at) (λ tables. StmHasNames tables s)

-- the code of statements more
abbrev pub AppendsStms : Builder → Builder → Stms → codes.Exits → Type 0
AppendsStms old new ss out =
    Appends old new (λ tables at. statements_code tables ss out at) (λ tables. StmsHaveNames tables ss)

-- the code of a statement more, where there is one
abbrev pub AppendsIfAny : Builder → Builder → Option Stm → codes.Exits → Type 0
AppendsIfAny old new s out =
    Appends old new (λ tables at. code_if_any tables s out at) (λ tables. IfSome s (StmHasNames tables))

-- the code of a loop's test more, which goes to a line where it isn't true
abbrev pub AppendsTest : Builder → Builder → Place → Option Node → (away : ℕ) → Type 0
AppendsTest old new place test away =
    Appends old new (λ tables at. test_code tables place test away away at) (λ tables. IfSome test (HasNames tables))

-- the code of a loop that is tested before each turn more
abbrev pub AppendsLoop : Builder → Builder → Place → (test : Option Node) → (between : Option Stm) → (body : Stm)
    → codes.Exits → Type 0
AppendsLoop old new place test between body out = Appends old new
    (λ tables at. loop_code place (code_if_any tables between out) (loop_test_code tables place test at)
    (statement_code tables body (in_loop out (at + 1) (at + 2))) at)
    (λ tables. IfSome test (HasNames tables) × IfSome between (StmHasNames tables) × StmHasNames tables body)

-- the code of a variable's base more, and the line that makes the list of its candidates
abbrev pub AppendsCandidates : Builder → Builder → Quantified → Type 0
AppendsCandidates old new v = Appends old new
    (λ tables at. expression_code tables v.base at ++ free (Enter v.slice) ∷ []) (λ tables. HasNames tables v.base)

-- the code of a search over these variables more, which goes to a line where it fails
abbrev pub AppendsSearch : Builder → Builder → Place → List Quantified → Node → Stm → codes.Exits → (fail : ℕ) → Type 0
AppendsSearch old new place vs condition body out fail = Appends old new
    (λ tables at. search_code tables place (expression_code tables condition)
    (λ flags. statement_code tables body (in_search out flags)) (map (variable_code_of tables) vs) out.flags fail at)
    (λ tables. BasesHaveNames tables vs × FlagsHaveNames tables vs × HasNames tables condition
    × StmHasNames tables body)

-- the code of whether the condition is true or undefined for all candidates of these variables
abbrev pub AppendsHolds : Builder → Builder → Place → List Quantified → Node → (fail : ℕ) → Type 0
AppendsHolds old new place vs condition fail = Appends old new
    (λ tables at. holds_code place (expression_code tables condition) (map (variable_code_of tables) vs) fail at)
    (λ tables. BasesHaveNames tables vs × HasNames tables condition)

-- the code of the indexes among steps more
abbrev pub AppendsIndexes : Builder → Builder → List Step → Type 0
AppendsIndexes old new steps =
    Appends old new (λ tables at. indexes_code tables steps at) (λ tables. StepsHaveNames tables steps)

-- the same as `Appends`, with the routines of functions and of statics that begin in that code
pub record Extends (old new : Builder) (code : Tables → ℕ → List Line)
    (called kept : Tables → ℕ → List Routine) (named : Tables → Type 0) : Type 0 where
  pub grows : Grows (tables_made old) (tables_made new)
  pub lines : (tables : Tables) → Grows (tables_made new) tables
      → new.lines ≡ old.lines ++ code tables (length old.lines)
  pub functions : (tables : Tables) → Grows (tables_made new) tables
      → new.functions ≡ old.functions ++ called tables (length old.lines)
  pub statics : (tables : Tables) → Grows (tables_made new) tables
      → new.statics ≡ old.statics ++ kept tables (length old.lines)
  pub names : (tables : Tables) → Grows (tables_made new) tables → named tables

-- the code of a function more, with its routine
abbrev pub ExtendsFunction : Builder → Builder → Function → Type 0
ExtendsFunction old new f = Extends old new (λ tables at. function_code tables f at)
    (λ tables at. record { entry = at; params = length f.signature.parameters; locals = length f.locals } ∷ [])
    (λ tables at. []) (λ tables. HasConstant tables (Datum.int (pos 0)) × StmsHaveNames tables f.body)

-- the same of functions
abbrev pub ExtendsFunctions : Builder → Builder → List Function → Type 0
ExtendsFunctions old new fs = Extends old new (λ tables at. functions_code tables fs at)
    (λ tables at. function_routines tables fs at) (λ tables at. [])
    (λ tables. FunctionsHaveNames tables fs)

-- the code of the static with this number more, with its routine
abbrev pub ExtendsStatic : Builder → Builder → ℕ → Static → Type 0
ExtendsStatic old new n s = Extends old new (λ tables at. static_code tables n s at) (λ tables at. [])
    (λ tables at. record { entry = at; params = 0; locals = 0 } ∷ []) (λ tables. HasNames tables s.value)

-- the same of statics from this number on
abbrev pub ExtendsStatics : Builder → Builder → ℕ → List Static → Type 0
ExtendsStatics old new n ss = Extends old new (λ tables at. statics_code tables n ss at) (λ tables at. [])
    (λ tables at. static_routines tables n ss at) (λ tables. StaticsHaveNames tables ss)
