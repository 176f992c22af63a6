-- The code of a sound program simulates it, and the slots of its statics have their types.
use Rattle.std.proofs.Common.{◌≡◌, ◌∙◌, ℕ, suc, ◌+◌, List, [], ◌∷◌, ◌++◌, length, Bool, true, false, Option, Some, refl, sym, ap, subst, arith, append_assoc, append-nil, length-append}
use Rattle.std.specs.Prelude.{slice_get}
use Rattle.std.proofs.lemmas.List.{length-map}
use Rattle.sz_value.specs.Data.{bytes}
use Rattle.sz_types.specs.Tables.{Declaration}
use Rattle.sz_core.specs.Programs.{Function, Static, Core, functions_of, statics_of, tables_of}
use Rattle.sz_core.specs.Sound.{Declared, IsSound, declared_by, nothing_declared}
use Rattle.sz_instr.specs.declared.line.Line.{Line}
use Rattle.sz_instr.specs.declared.routine.Routine.{Routine}
use Rattle.sz_instr.specs.declared.code.Code.{Code}
use Rattle.sz_instr.specs.declared.instr.Instr.TheVariants.{EndRecord}
use Rattle.sz_world_rules.specs.World.{new_world, Done}
use Rattle.sz_world_rules.specs.Slots.{Slot, undefined_slots}
use Rattle.sz_world_rules.specs.Typed.{AllFit}
use Rattle.sz_mean.specs.Marked.{Marked, table_of_lines, with_lines, all_tables, counting_behind, counting_table}
use Rattle.sz_mean.specs.Programs.{calls_at, statics, body_of, run_record, mean}
use Rattle.sz_instr.specs.States.{State}
use Rattle.sz_instr.specs.Covering.{TakesLines, CanCount}
use Rattle.sz_instr.specs.Runs.{ComesTo, RoutinesRunTo, StaticsRunTo, RunsTo}
use Rattle.sz_gen_rules.specs.Tables.{Tables, tables_in}
use Rattle.sz_gen_rules.specs.Runs.{CallsBelow, HasAt}
use Rattle.sz_gen_rules.proofs.Steps.{has_front, has_back}
use Rattle.sz_gen_rules.specs.StatementCode.{no_exits, statements_code}
use Rattle.sz_gen_rules.specs.FreeLines.{free}
use Rattle.sz_gen_rules.specs.ProgramCode.{IsCodeOf, functions_code, statics_code, static_routines, record_code}
use Rattle.sz_gen_rules.specs.Simulates.{Simulates, static_types}
use Rattle.sz_gen_rules.proofs.Slots.{fit_undefined}
use Rattle.sz_gen_rules.proofs.Outcomes.{Counts}
use Rattle.sz_gen_rules.proofs.Declared.{IsFrontOf, front_of, IsWhole, Stands, stands}
use Rattle.sz_gen_rules.proofs.Calls.{calls_run}
use Rattle.sz_gen_rules.proofs.Statics.{SlotsFit, statics_run}
use Rattle.sz_gen_rules.proofs.Records.{record_end, ends_record, record_ends, body_runs}

got : (front rest : List Line) (l : Line) → slice_get (front ++ l ∷ rest) (length front) ≡ Some l
got [] rest l = refl
got (k ∷ front) rest l = got front rest l

-- lines that stand after others
has_all : (lines front rest : List Line) → HasAt (front ++ (lines ++ rest)) (length front) lines
has_all [] front rest = tt
has_all (l ∷ lines) front rest =
    let one : length (front ++ l ∷ []) ≡ suc (length front) = omega (arith, length-append front (l ∷ [])) in
    let more = subst (λ k. HasAt k (length (front ++ l ∷ [])) lines) (append_assoc front (l ∷ []) (lines ++ rest))
    (has_all lines (front ++ l ∷ []) rest) in
    (got front (lines ++ rest) l, subst (λ n. HasAt (front ++ l ∷ (lines ++ rest)) n lines) one more)

has_whole : (lines : List Line) → HasAt lines 0 lines
has_whole lines = subst (λ k. HasAt k 0 lines) (append-nil lines) (has_all lines [] [])

pub routines_counted : (tables : Tables) (n : ℕ) (ss : List Static) (at : ℕ)
    → length (static_routines tables n ss at) ≡ length ss
routines_counted tables n [] at = refl
routines_counted tables n (s ∷ ss) at = ap suc (routines_counted tables (suc n) ss _)

-- so many elements are before the last one
behind : {A : Type 0} (front : List A) (last : A) → slice_get (front ++ last ∷ []) (length front) ≡ Some last
behind [] last = refl
behind (y ∷ front) last = behind front last

-- the tables of a program are a front of those of its code
tables_front : (program : Marked) → IsFrontOf (tables_of program.core.items) (all_tables program)
tables_front program = by program.ignoring
  where
    by : (ignoring : Bool)
        → IsFrontOf (tables_of program.core.items) (with_lines ignoring (tables_of program.core.items))
    by false n x h = h
    by true n x h = front_of (tables_of program.core.items) (table_of_lines ∷ []) n x h

-- the table of lines takes them
lines_taken : (program : Marked) (code : Code) → code.tables ≡ all_tables program
    → CanCount code (counting_table program)
lines_taken program code same = by program.ignoring same
  where
    takes : (found : Option Declaration) → found ≡ Some table_of_lines → TakesLines found
    takes found e = subst TakesLines (sym e) (refl, refl, refl)

    by : (ignoring : Bool) → code.tables ≡ with_lines ignoring (tables_of program.core.items)
        → CanCount code (counting_behind ignoring (length (tables_of program.core.items)))
    by false e = tt
    by true e =
        takes _ (ap (λ ts. slice_get ts (length (tables_of program.core.items))) e
        ∙ behind (tables_of program.core.items) table_of_lines)

module _ (program : Marked) (code : Code) (sound : IsSound program.core) (is : IsCodeOf program code) where
  abbrev pub core : Core
  core = program.core

  abbrev pub tables : Tables
  tables = tables_in code

  abbrev pub fs : List Function
  fs = functions_of core.items

  abbrev pub ss : List Static
  ss = statics_of core.items

  abbrev pub function_lines : List Line
  function_lines = functions_code tables fs 0

  abbrev pub static_lines : List Line
  static_lines = statics_code tables 0 ss (length function_lines)

  abbrev pub record_lines : List Line
  record_lines = record_code tables core code.main.entry

  abbrev pub whole : Declared
  whole = declared_by core.items

  pub all_whole : IsWhole nothing_declared core.items whole
  all_whole = record { statics = refl; functions = refl; tables = refl }

  pub has : HasAt code.lines 0 (function_lines ++ (static_lines ++ record_lines))
  has = subst (λ l. HasAt code.lines 0 l) is.lines (has_whole code.lines)

  pub has_after : HasAt code.lines (length function_lines) (static_lines ++ record_lines)
  has_after =
      let e : 0 + length function_lines ≡ length function_lines = omega arith in
      subst (λ n. HasAt code.lines n (static_lines ++ record_lines)) e
      (has_back code.lines 0 function_lines (static_lines ++ record_lines) has)

  pub has_record : HasAt code.lines code.main.entry record_lines
  has_record =
      subst (λ n. HasAt code.lines n record_lines) (sym (ap (λ (r : Routine). r.entry) is.main))
      (has_back code.lines (length function_lines) static_lines record_lines has_after)

  pub all_stand : (f : ℕ) (h : Function) → slice_get fs f ≡ Some h → Stands tables code.lines code.functions whole f h
  all_stand f h e =
      subst (λ r. Stands tables code.lines r whole f h) (sym is.functions)
      (stands tables code.lines whole core.locals [] nothing_declared core.items sound.items all_whole
      is.names.functions 0 (has_front code.lines 0 function_lines (static_lines ++ record_lines) has) f h e)

  counts : Counts code (counting_table program)
  counts = record {
    same = is.ignore;
    can = subst (λ c. CanCount code c) (sym is.ignore) (lines_taken program code is.tables);
  }

  pub tables_there : IsFrontOf whole.tables code.tables
  tables_there = subst (λ ts. IsFrontOf whole.tables ts) (sym is.tables) (tables_front program)

  all_calls : (slots : List Slot) → AllFit slots whole.statics → (room limit : ℕ)
      → CallsBelow code whole.functions slots room limit (calls_at fs (counting_table program) slots room)
  all_calls slots typed room limit =
      calls_run code fs whole all_stand refl tables_there (counting_table program) counts slots typed room limit

  undefined_fit : AllFit (undefined_slots (length ss)) whole.statics
  undefined_fit = subst (λ n. AllFit (undefined_slots n) whole.statics) (length-map ss (λ (s : Static). s.type))
      (fit_undefined whole.statics)

  statics_both : (budget : ℕ) → RoutinesRunTo code (static_routines tables 0 ss (length function_lines))
      (new_world budget) (undefined_slots (length ss)) (statics program budget)
      × SlotsFit (statics program budget) whole.statics
  statics_both budget =
      statics_run code fs (counting_table program) whole all_calls core.locals core.items [] nothing_declared 0
      (length function_lines) (undefined_slots (length ss)) (new_world budget)
      sound.items all_whole refl is.names.statics undefined_fit
      (has_front code.lines (length function_lines) static_lines record_lines has_after)

  statics_end : (budget : ℕ) → StaticsRunTo code budget (statics program budget)
  statics_end budget =
      let counted : length code.statics ≡ length ss =
      ap length is.statics ∙ routines_counted tables 0 ss (length function_lines) in
      subst (λ n. RoutinesRunTo code code.statics (new_world budget) (undefined_slots n) (statics program budget))
      (sym counted) (subst (λ rs. RoutinesRunTo code rs (new_world budget) (undefined_slots (length ss))
      (statics program budget)) (sym is.statics) (statics_both budget).0)

  records_end : (slots : List Slot) (budget : ℕ) (input : List ℕ) → AllFit slots (static_types core)
      → RunsTo code input slots budget (mean program slots budget input)
  records_end slots budget input typed =
      let ended = run_record program slots budget input in
      let x = record_end slots ended in
      let body = statements_code tables (body_of core) no_exits code.main.entry in
      let at1 = code.main.entry + length body in
      let start : ℕ → State = λ n. record {
        at = code.main.entry;
        stack = [];
        locals = undefined_slots n;
        lists = [];
        callers = [];
        statics = slots;
        input = Some (bytes input);
        world = new_world budget;
      } in
      record {
        end = x;
        comes = subst (λ n. ComesTo code (start n) x) (sym (ap (λ (r : Routine). r.locals) is.main))
            (body_runs code fs
            (counting_table program) counts whole all_calls tables_there core.locals slots typed input x core.items []
            nothing_declared (start (length core.locals)) at1
            sound.items all_whole is.names.body (fit_undefined core.locals) refl refl refl
            (has_front code.lines code.main.entry body (free EndRecord ∷ []) has_record) refl
            (record_ends code core.locals (start (length core.locals)) at1 (has_back code.lines code.main.entry body
            (free EndRecord ∷ []) has_record).0 ended));
        is = ends_record slots ended;
      }

  pub simulates : Simulates program code
  simulates = record {
    statics_end = λ budget b. statics_end budget;
    records_end = λ slots budget input typed b. records_end slots budget input typed;
  }

  pub statics_fit : (budget : ℕ) (slots : List Slot) → statics program budget ≡ Done slots
      → AllFit slots (static_types core)
  statics_fit budget slots e = subst (λ o. SlotsFit o whole.statics) e (statics_both budget).1
