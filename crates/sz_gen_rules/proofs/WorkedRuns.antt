-- Worked examples: the code of small programs runs to what the programs mean, with the ticks that are enough and with
-- one less.
use Rattle.std.specs.Prelude.{◌≡◌, ℕ, zero, suc, ◌^◌, pos, List, [], ◌∷◌, ◌++◌, length, slice_get, true, false, Option, Some, None, codes, refl}
use Rattle.std.specs.Int.{int_wrap}
use Rattle.sz_types.specs.Data.{Shape}
use Rattle.sz_value.specs.Data.{truth, int, str}
use Rattle.sz_tabs.specs.Data.{EmitDatum}
use Rattle.sz_core.specs.Statements.{some, each, all}
use Rattle.sz_core.specs.Programs.{Core, functions_of, statics_of}
use Rattle.sz_instr.specs.declared.line.Line.{Line}
use Rattle.sz_instr.specs.declared.code.Code.{Code}
use Rattle.sz_world_rules.specs.World.{Outcome, Done, Faulted}
use Rattle.sz_mean.specs.Marked.{Marked, marked, all_tables, counting_table}
use Rattle.sz_mean.specs.Programs.{mean}
use Rattle.sz_mean.proofs.WorkedTrees.{at, number, emits_sum, joins_texts, counts_down, counts_up, emits_if, stores_outside, calls_on}
use Rattle.sz_mean.proofs.WorkedTrees.{emits_without_weight, undefined_left, nothing, emits_place, emits_seven, searches}
use Rattle.sz_instr.specs.States.{State, After, Goes, Halts, Faults, Stuck}
use Rattle.sz_instr.specs.Runs.{does, record_start}
use Rattle.sz_gen_rules.specs.Tables.{Tables}
use Rattle.sz_gen_rules.specs.ProgramCode.{functions_code, function_routines, statics_code, static_routines, record_code}

-- what the line at the state's place leads to
step_by : Code → State → Option Line → After
step_by code s None = Stuck
step_by code s (Some line) = does code line s

carry_on : After → (State → After) → After
carry_on (Goes s) next = next s
carry_on x next = x

run : Code → ℕ → State → After
run code zero s = Goes s
run code (suc n) s = carry_on (step_by code s (slice_get code.lines s.at)) (run code n)

outcome : After → Option (Outcome (List EmitDatum))
outcome (Goes s) = None
outcome (Halts w statics) = Some (Done w.emits)
outcome (Faults fault) = Some (Faulted fault)
outcome Stuck = None

tables : Tables
tables = record {
  constants = truth false ∷ truth true ∷ int (pos 0) ∷ int (pos 1) ∷ int (pos 2) ∷ int (pos 3) ∷ int (pos 5)
      ∷ int (pos 7) ∷ str (codes "ab") ∷ str (codes "c") ∷ [];
  types = Shape.int ∷ [];
}

code_of : Marked → Code
code_of program =
    let core : Core = program.core in
    let functions = functions_code tables (functions_of core.items) 0 in
    let front = functions ++ statics_code tables 0 (statics_of core.items) (length functions) in
    record {
      lines = front ++ record_code tables core (length front);
      functions = function_routines tables (functions_of core.items) 0;
      statics = static_routines tables 0 (statics_of core.items) (length functions);
      main = record { entry = length front; params = 0; locals = length core.locals };
      constants = tables.constants;
      types = tables.types;
      tables = all_tables program;
      ignore = counting_table program;
    }

ends : Core → ℕ → List ℕ → Option (Outcome (List EmitDatum))
ends core budget input =
    outcome (run (code_of (marked core false)) 2000 (record_start (code_of (marked core false)) input [] budget))

means : Core → ℕ → List ℕ → Option (Outcome (List EmitDatum))
means core budget input = Some (mean (marked core false) [] budget input)

-- the same of the program that is ignoring
ends_ignoring : Core → ℕ → List ℕ → Option (Outcome (List EmitDatum))
ends_ignoring core budget input =
    outcome (run (code_of (marked core true)) 2000 (record_start (code_of (marked core true)) input [] budget))

means_ignoring : Core → ℕ → List ℕ → Option (Outcome (List EmitDatum))
means_ignoring core budget input = Some (mean (marked core true) [] budget input)

sum_enough : ends emits_sum 5 [] ≡ means emits_sum 5 []
unfolding ends means outcome code_of tables run carry_on step_by int_wrap
sum_enough = refl

sum_less : ends emits_sum 4 [] ≡ means emits_sum 4 []
unfolding ends means outcome code_of tables run carry_on step_by int_wrap
sum_less = refl

texts_enough : ends joins_texts 8 [] ≡ means joins_texts 8 []
unfolding ends means outcome code_of tables run carry_on step_by int_wrap
texts_enough = refl

texts_less : ends joins_texts 7 [] ≡ means joins_texts 7 []
unfolding ends means outcome code_of tables run carry_on step_by int_wrap
texts_less = refl

texts_two_less : ends joins_texts 6 [] ≡ means joins_texts 6 []
unfolding ends means outcome code_of tables run carry_on step_by int_wrap
texts_two_less = refl

down_enough : ends counts_down 25 (codes "2") ≡ means counts_down 25 (codes "2")
unfolding ends means outcome code_of tables run carry_on step_by int_wrap
down_enough = refl

down_less : ends counts_down 24 (codes "2") ≡ means counts_down 24 (codes "2")
unfolding ends means outcome code_of tables run carry_on step_by int_wrap
down_less = refl

up_enough : ends counts_up 42 [] ≡ means counts_up 42 []
unfolding ends means outcome code_of tables run carry_on step_by int_wrap
up_enough = refl

up_less : ends counts_up 41 [] ≡ means counts_up 41 []
unfolding ends means outcome code_of tables run carry_on step_by int_wrap
up_less = refl

left_enough : ends undefined_left 3 [] ≡ means undefined_left 3 []
unfolding ends means outcome code_of tables run carry_on step_by int_wrap
left_enough = refl

left_less : ends undefined_left 2 [] ≡ means undefined_left 2 []
unfolding ends means outcome code_of tables run carry_on step_by int_wrap
left_less = refl

weight_enough : ends emits_without_weight 5 [] ≡ means emits_without_weight 5 []
unfolding ends means outcome code_of tables run carry_on step_by int_wrap
weight_enough = refl

weight_less : ends emits_without_weight 4 [] ≡ means emits_without_weight 4 []
unfolding ends means outcome code_of tables run carry_on step_by int_wrap
weight_less = refl

undefined_test : ends emits_if 100 [] ≡ means emits_if 100 []
unfolding ends means outcome code_of tables run carry_on step_by int_wrap
undefined_test = refl

-- what is passed over is counted
ignored_test : ends_ignoring emits_if 7 [] ≡ means_ignoring emits_if 7 []
unfolding ends_ignoring means_ignoring outcome code_of tables run carry_on step_by int_wrap
ignored_test = refl

ignored_test_less : ends_ignoring emits_if 6 [] ≡ means_ignoring emits_if 6 []
unfolding ends_ignoring means_ignoring outcome code_of tables run carry_on step_by int_wrap
ignored_test_less = refl

ignored_emit : ends_ignoring emits_without_weight 5 [] ≡ means_ignoring emits_without_weight 5 []
unfolding ends_ignoring means_ignoring outcome code_of tables run carry_on step_by int_wrap
ignored_emit = refl

outside_enough : ends stores_outside 8 [] ≡ means stores_outside 8 []
unfolding ends means outcome code_of tables run carry_on step_by int_wrap
outside_enough = refl

outside_less : ends stores_outside 7 [] ≡ means stores_outside 7 []
unfolding ends means outcome code_of tables run carry_on step_by int_wrap
outside_less = refl

too_deep : ends calls_on (2 ^ 24) [] ≡ means calls_on (2 ^ 24) []
unfolding ends means outcome code_of tables run carry_on step_by int_wrap
too_deep = refl

-- the first candidate with which the condition is true
some_enough : ends (searches some (number (at 3 28) 3) emits_place) 17 []
    ≡ means (searches some (number (at 3 28) 3) emits_place) 17 []
unfolding ends means outcome code_of tables run carry_on step_by int_wrap
some_enough = refl

some_less : ends (searches some (number (at 3 28) 3) emits_place) 16 []
    ≡ means (searches some (number (at 3 28) 3) emits_place) 16 []
unfolding ends means outcome code_of tables run carry_on step_by int_wrap
some_less = refl

-- each candidate
each_enough : ends (searches each (number (at 3 28) 3) emits_place) 23 []
    ≡ means (searches each (number (at 3 28) 3) emits_place) 23 []
unfolding ends means outcome code_of tables run carry_on step_by int_wrap
each_enough = refl

each_less : ends (searches each (number (at 3 28) 3) emits_place) 22 []
    ≡ means (searches each (number (at 3 28) 3) emits_place) 22 []
unfolding ends means outcome code_of tables run carry_on step_by int_wrap
each_less = refl

-- all candidates: with one the condition is false, or it is undefined with each
all_refuted : ends (searches all (number (at 3 28) 3) emits_seven) 20 []
    ≡ means (searches all (number (at 3 28) 3) emits_seven) 20 []
unfolding ends means outcome code_of tables run carry_on step_by int_wrap
all_refuted = refl

all_undefined : ends (searches all nothing emits_seven) 27 [] ≡ means (searches all nothing emits_seven) 27 []
unfolding ends means outcome code_of tables run carry_on step_by int_wrap
all_undefined = refl
