-- The code of a program's statements does what they mean for a record.
use Rattle.std.proofs.Common.{◌≡◌, ℕ, ◌+◌, List, [], ◌∷◌, ◌++◌, length, false, Option, Some, None, refl, sym, subst, arith, length-append}
use Rattle.std.specs.Prelude.{slice_get}
use Rattle.sz_types.specs.Data.{Shape}
use Rattle.sz_value.specs.Data.{bytes}
use Rattle.sz_core.specs.Statements.{stms_of}
use Rattle.sz_core.specs.Programs.{Function, Item, statements_of}
use Rattle.sz_core.specs.Programs as items
use Rattle.sz_core.specs.Sound.{Declared, AreItems, Around, record_sight, seen_after}
use Rattle.sz_instr.specs.declared.code.Code.{Code}
use Rattle.sz_world_rules.specs.World.{Given, Gives, Stops, most_open_calls}
use Rattle.sz_world_rules.specs.Slots.{Slot}
use Rattle.sz_world_rules.specs.Typed.{AllFit}
use Rattle.sz_mean.specs.Expressions.{Setting}
use Rattle.sz_mean.specs.Endings.{Ending, Normal, Breaks, Continues, Returns}
use Rattle.sz_mean.specs.Statements.{exec, exec_all}
use Rattle.sz_mean.specs.Programs.{calls_at, outer_setting, emits_given}
use Rattle.sz_instr.specs.States.{State, After, Halts, Faults}
use Rattle.sz_instr.specs.Runs.{ComesTo, EndsRecord}
use Rattle.sz_gen_rules.specs.Tables.{tables_in}
use Rattle.sz_gen_rules.specs.Runs.{CallsBelow, HasAt}
use Rattle.sz_gen_rules.proofs.Steps.{has_front, has_back, at_line}
use Rattle.sz_gen_rules.specs.StatementCode.{no_exits, statement_code, statements_code}
use Rattle.sz_gen_rules.specs.FreeLines.{free}
use Rattle.sz_gen_rules.specs.Backward.{AfterExec, IsFixed}
use Rattle.sz_gen_rules.specs.NamedStatements.{StmsHaveNames}
use Rattle.sz_gen_rules.proofs.Outcomes.{Counts, from_later, after_then}
use Rattle.sz_gen_rules.proofs.Slots.{fit_at}
use Rattle.sz_gen_rules.proofs.Statements.{exec_runs}
use Rattle.sz_gen_rules.proofs.Declared.{IsFrontOf, IsWhole, after_table, after_function, after_static, is_before}
use Rattle.sz_gen_rules.proofs.Calls.{calls_front}
use Rattle.sz_instr.specs.declared.instr.Instr.TheVariants.{EndRecord}

-- no function and no loop is around
abbrev pub top : Around
top = record { result = None; loop = false }

-- what the run for a record comes to
abbrev pub record_end : List Slot → Given Ending → After
record_end slots (Gives ending w) = Halts w slots
record_end slots (Stops fault) = Faults fault

pub ends_record : (slots : List Slot) (r : Given Ending) → EndsRecord (record_end slots r) (emits_given r)
ends_record slots (Gives ending w) = refl
ends_record slots (Stops fault) = refl

-- after the statements the run is at its end
pub record_ends : (code : Code) (types : List Shape) (s : State) (end : ℕ)
    → slice_get code.lines end ≡ Some (free EndRecord)
    → (r : Given Ending) → AfterExec code top types no_exits s end (record_end s.statics r) r
record_ends code types s end last (Gives (Normal l) w) =
    λ k. at_line code (record s { at = end; locals = l; world = w }) (free EndRecord) (Halts w s.statics) last tt refl
record_ends code types s end last (Gives (Breaks l) w) = tt
record_ends code types s end last (Gives (Continues l) w) = tt
record_ends code types s end last (Gives (Returns v) w) = refl
record_ends code types s end last (Stops fault) = refl

module _ (code : Code) (functions : List Function) (counting : Option ℕ) (counts : Counts code counting)
    (whole : Declared) (calls_run : (slots : List Slot) → AllFit slots whole.statics → (room limit : ℕ)
    → CallsBelow code whole.functions slots room limit (calls_at functions counting slots room))
    (tables_there : IsFrontOf whole.tables code.tables)
    (locals : List Shape) (slots : List Slot) (typed : AllFit slots whole.statics) (input : List ℕ) (x : After) where
  pub body_runs : (rest : List Item) (seen : List ℕ) (d : Declared) (s : State) (end : ℕ)
      → AreItems locals seen d rest → IsWhole d rest whole → StmsHaveNames (tables_in code)
      (stms_of (statements_of rest)) → AllFit s.locals locals → s.statics ≡ slots → s.input ≡ Some (bytes input)
      → length s.callers + most_open_calls ≡ most_open_calls → HasAt code.lines s.at
      (statements_code (tables_in code) (stms_of (statements_of rest)) no_exits s.at)
      → s.at + length (statements_code (tables_in code) (stms_of (statements_of rest)) no_exits s.at) ≡ end
      → AfterExec code top locals no_exits s end x
      (exec_all (outer_setting functions counting slots (Some (bytes input)))
      (stms_of (statements_of rest)) s.locals s.world) → ComesTo code s x
  unfolding AreItems
  body_runs [] seen d s end sound is of fit same there room has en h =
      let e : s.at ≡ end = omega (arith, en) in
      subst (λ k. ComesTo code (record s { at = k }) x) (sym e) (h (record { left = omega arith; typed = fit }))
  body_runs (items.table t ∷ rest) seen d s end sound is of fit same there room has en h =
      body_runs rest seen (record d { tables = d.tables ++ t ∷ [] }) s end sound.1 (after_table d t rest whole is) of
      fit same there room has en h
  body_runs (items.function f ∷ rest) seen d s end sound is of fit same there room has en h =
      body_runs rest seen (record d { functions = d.functions ++ f.signature ∷ [] }) s end sound.1
      (after_function d f rest whole is) of fit same there room has en h
  body_runs (items.static v ∷ rest) seen d s end sound is of fit same there room has en h =
      body_runs rest seen (record d { statics = d.statics ++ v.type ∷ [] }) s end sound.1
      (after_static d v rest whole is) of fit same there room has en h
  body_runs (items.statement c ∷ rest) seen d s end sound is of fit same there room has en h =
      let lines = code.lines in
      let tables = tables_in code in
      let g = record_sight locals seen d in
      let set : Setting = outer_setting functions counting slots (Some (bytes input)) in
      let before = is_before d (items.statement c ∷ rest) whole is in
      let front = statement_code tables c no_exits s.at in
      let at1 = s.at + length front in
      let after = stms_of (statements_of rest) in
      let later = statements_code tables after no_exits at1 in
      let len : at1 + length later ≡ end = omega (arith, en, length-append front later) in
      let below : (limit : ℕ) → CallsBelow code g.functions slots most_open_calls limit set.calls =
      λ limit. calls_front code g.functions whole.functions slots most_open_calls limit set.calls before.functions
      (calls_run slots typed most_open_calls limit) in
      let fixed : IsFixed g set most_open_calls s.callers s.statics s.input = record {
        statics_typed = λ k u e. fit_at slots whole.statics k u typed (before.statics k u e);
        statics_same = same;
        input_seen = λ yes. (there, refl, refl);
        room_left = room;
      } in
      exec_runs code g set most_open_calls below counts (λ n t e. tables_there n t (before.tables n t e)) x
      c g top no_exits s at1 sound.0 of.0 fit fixed tt tt (has_front lines s.at front later has) refl
      (after_then code locals x top no_exits s end at1 s.at s.locals s.world (exec_all set after) (omega arith)
      (λ l w k h1. (let le = k.left in
      body_runs rest (seen_after g c).seen d (record s { at = at1; locals = l; world = w }) end sound.1
      (record { statics = is.statics; functions = is.functions; tables = is.tables })
      of.1 k.typed same there room (has_back lines s.at front later has) len
      (from_later code locals x top no_exits s end at1 l w le (exec_all set after l w) h1)))
      (exec set c s.locals s.world) h)
