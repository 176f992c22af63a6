-- The code of statements. Places in it are absolute. A loop begins with two jumps, so that `break` and `continue`
-- lead to places that are known before the body.
use Rattle.std.specs.Prelude.{ℕ, zero, suc, ◌+◌, List, [], ◌∷◌, ◌++◌, length, map, Option, Some, None, is_some}
use Rattle.sz_types.specs.declared.place.Place.{Place}
use Rattle.sz_core.specs.Nodes.{Node, Nodes}
use Rattle.sz_core.specs.Statements.{at_index, at_field, Stm, block, clear, keep, store, evaluate, branch, while, do_while, for_loop, break, continue}
use Rattle.sz_core.specs.Statements.{return_value, end_record, emit, Quantified, when, Stms, no_stms, with_stm}
use Rattle.sz_core.specs.Statements as core
use Rattle.sz_instr.specs.declared.instr.Instr.TheVariants.{Keep, Clear, Store, Tick, Test, Return, EndRecord, Discard, Emit}
use Rattle.sz_instr.specs.declared.step.Step.{Step}
use Rattle.sz_instr.specs.declared.step.Step.TheVariants as steps
use Rattle.sz_instr.specs.declared.line.Line.{Line}
use Rattle.sz_gen_rules.specs.Tables.{Tables, line}
use Rattle.sz_gen_rules.specs.ExpressionCode.{followed, closed, expression_code, expressions_code, indexes_code, code_if_some, count_of}
use Rattle.sz_gen_rules.specs.FreeLines.{free, goes}
use Rattle.sz_gen_rules.specs.SearchCode.{VariableCode, when_code}

-- where a statement's code is left: the lines that `break` and `continue` go to, and how many flags of searches are
-- on the stack
pub record Exits : Type 0 where
  pub on_break : ℕ
  pub on_continue : ℕ
  pub flags : ℕ

-- no loop is around, and no search
abbrev pub no_exits : Exits
no_exits = record { on_break = 0; on_continue = 0; flags = 0 }

-- the exits inside a search with so many flags, from where no loop outside is reached
abbrev pub in_search : Exits → ℕ → Exits
in_search out flags = record { on_break = out.on_break; on_continue = out.on_continue; flags = flags }

-- the exits inside a loop
abbrev pub in_loop : Exits → (on_break on_continue : ℕ) → Exits
in_loop out on_break on_continue = record { on_break = on_break; on_continue = on_continue; flags = out.flags }

-- so many flags are taken off the stack
abbrev pub discards : ℕ → List Line
discards zero = []
discards (suc n) = free Discard ∷ discards n

-- a step without its index
abbrev pub bare_step : core.Step → Step
bare_step (at_index e) = steps.Index
bare_step (at_field n) = steps.Field n

-- a test, and code for where it is true and for where it is false; past both where it is undefined and the statement
-- is passed over
abbrev pub branch_code : Place → List Line → (first second : ℕ → List Line) → ℕ → List Line
branch_code place test first second at =
    let start = at + length test + 1 in
    let one = first start in
    let other = second (start + length one + 1) in
    let past = start + length one + 1 + length other in
    test ++ line (Test (start + length one + 1) past) 1 place ∷ (one ++ goes past ∷ other)

-- a test, which goes to a line where it is false, and to one where it is undefined; a missing one takes its tick alone
abbrev pub test_code : Tables → Place → Option Node → (away past : ℕ) → ℕ → List Line
test_code tables place None away past at = line Tick 1 place ∷ []
test_code tables place (Some e) away past at = expression_code tables e at ++ line (Test away past) 1 place ∷ []

-- a test of a loop, which goes to the second line of the loop's code where it isn't true
abbrev pub loop_test_code : Tables → Place → Option Node → (start : ℕ) → ℕ → List Line
loop_test_code tables place e start at = test_code tables place e (start + 1) (start + 1) at

-- a loop that is tested before each turn: a jump to the test; a jump past the loop, to which `break` and the test go;
-- what is done between turns, to which `continue` goes, and the loop return; the test; the body, and a jump to what
-- is done between turns
abbrev pub loop_code : Place → (between : ℕ → List Line) → (test body : ℕ → List Line) → ℕ → List Line
loop_code place between test body at =
    let stepped = between (at + 2) in
    let start = at + 2 + length stepped + 1 in
    let asked = test start in
    let turn = body (start + length asked) in
    goes start ∷ goes (start + length asked + length turn + 1)
    ∷ (stepped ++ line Tick 1 place ∷ (asked ++ (turn ++ goes (at + 2) ∷ [])))

-- a loop that is tested after each turn: a jump to the body; a jump past the loop, to which `break` and the test go;
-- a jump to the test, to which `continue` goes; the body; the test, the loop return, and a jump to the body
abbrev pub loop_after_code : Place → (body test : ℕ → List Line) → ℕ → List Line
loop_after_code place body test at =
    let turn = body (at + 3) in
    let start = at + 3 + length turn in
    let asked = test start in
    goes (at + 3) ∷ goes (start + length asked + 2) ∷ goes start
    ∷ (turn ++ (asked ++ line Tick 1 place ∷ goes (at + 3) ∷ []))

module _ (tables : Tables) where
  -- the code of an emit
  abbrev pub emit_code : Place → ℕ → Nodes → Node → Option Node → ℕ → List Line
  emit_code place table es e w at =
      closed
      (followed at (followed at (expressions_code tables es at) (expression_code tables e)) (code_if_some tables w))
      (Emit table (count_of es) (is_some w)) place

  -- a variable of `when`, with the code of its base
  abbrev pub variable_code_of : Quantified → VariableCode
  variable_code_of v = record {
    quantity = v.quantity;
    local = v.local;
    slice = v.slice;
    base = expression_code tables v.base;
  }

  abbrev mutual
    -- the code of a statement that begins at a line, with the exits around it
    pub statement_code : Stm → Exits → ℕ → List Line
    statement_code (block ss) out at = statements_code ss out at
    statement_code (clear n) out at = free (Clear n) ∷ []
    statement_code (keep place n e) out at = closed (expression_code tables e at) (Keep n) place
    statement_code (store place n path e) out at =
        closed (followed at (indexes_code tables path at) (expression_code tables e))
        (Store n (map bare_step path)) place
    statement_code (evaluate place e) out at = expression_code tables e at ++ line Discard 0 place ∷ []
    statement_code (branch place e first second) out at =
        branch_code place (expression_code tables e at) (statement_code first out) (statement_code second out) at
    statement_code (while place e body) out at =
        loop_code place (λ _. []) (loop_test_code tables place (Some e) at)
        (statement_code body (in_loop out (at + 1) (at + 2))) at
    statement_code (do_while place body e) out at =
        loop_after_code place (statement_code body (in_loop out (at + 1) (at + 2)))
        (loop_test_code tables place (Some e) at) at
    statement_code (for_loop place e between body) out at =
        loop_code place (statement_code between out) (loop_test_code tables place e at)
        (statement_code body (in_loop out (at + 1) (at + 2))) at
    statement_code break out at = goes out.on_break ∷ []
    statement_code continue out at = goes out.on_continue ∷ []
    statement_code (return_value place e) out at =
        closed (followed at (discards out.flags) (expression_code tables e)) Return place
    statement_code (end_record place) out at = line EndRecord 1 place ∷ []
    statement_code (emit place table es e w) out at = emit_code place table es e w at
    statement_code (when place vs c body) out at =
        when_code tables place (expression_code tables c) (λ flags. statement_code body (in_search out flags))
        (map variable_code_of vs) out.flags at

    -- the code of statements, one after the other
    pub statements_code : Stms → Exits → ℕ → List Line
    statements_code no_stms out at = []
    statements_code (with_stm first rest) out at = followed at (statement_code first out at) (statements_code rest out)
