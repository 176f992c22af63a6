-- The code of a program's functions does what its calls mean.
use Rattle.std.proofs.Common.{◌≡◌, ◌∙◌, ℕ, zero, suc, ◌+◌, List, [], ◌∷◌, length, map, Bool, true, false, Option, Some, None, refl, sym, ap, subst, arith}
use Rattle.std.specs.Prelude.{slice_get, nat_lt, pos, if◌then◌else◌}
use Rattle.std.proofs.lemmas.Bool.{lt-ltb}
use Rattle.std.proofs.lemmas.Option.{slice_get_within}
use Rattle.sz_types.specs.Data.{Shape}
use Rattle.sz_types.specs.declared.operator.BinOp.TheVariants.{Div}
use Rattle.sz_value.specs.Data.{Datum, int}
use Rattle.sz_core.specs.Programs.{Signature, Function}
use Rattle.sz_core.specs.Sound.{Declared, function_sight}
use Rattle.sz_instr.specs.declared.instr.Instr.TheVariants.{Binary, Return}
use Rattle.sz_instr.specs.declared.routine.Routine.{Routine}
use Rattle.sz_instr.specs.declared.code.Code.{Code}
use Rattle.sz_world_rules.specs.World.{Given, Gives, Stops, and_then, give, most_open_calls, calls_too_deep}
use Rattle.sz_world_rules.specs.Slots.{Slot, fresh}
use Rattle.sz_world_rules.specs.Typed.{AllFit}
use Rattle.sz_world_rules.specs.Operations.{binary_of}
use Rattle.sz_mean.specs.Expressions.{Calls, Setting}
use Rattle.sz_mean.specs.Endings.{Ending, Normal, Breaks, Continues, Returns}
use Rattle.sz_mean.specs.Statements.{exec_all}
use Rattle.sz_mean.specs.Programs.{returned, function_setting, run_function, calls_at}
use Rattle.sz_instr.specs.States.{Caller, State, After, faults}
use Rattle.sz_instr.specs.Rows.{enter}
use Rattle.sz_instr.specs.Runs.{ComesTo}
use Rattle.sz_gen_rules.specs.Tables.{tables_in, HasConstant, constant_number}
use Rattle.sz_gen_rules.specs.Runs.{NextComes, AfterEval, CallsBelow, HasAt}
use Rattle.sz_gen_rules.proofs.Steps.{has_front, has_back, at_line}
use Rattle.sz_gen_rules.specs.StatementCode.{no_exits, statements_code}
use Rattle.sz_gen_rules.specs.FreeLines.{free}
use Rattle.sz_gen_rules.specs.ProgramCode.{zero_pushed, returns_undefined}
use Rattle.sz_gen_rules.specs.Backward.{AfterExec, IsFixed}
use Rattle.sz_gen_rules.proofs.Outcomes.{Counts}
use Rattle.sz_gen_rules.proofs.Slots.{fit_at, fit_fresh}
use Rattle.sz_gen_rules.proofs.Declared.{IsFrontOf, signed, Stands}
use Rattle.sz_gen_rules.proofs.Statements.{all_run}

-- fewer functions
pub calls_front : (code : Code) (front whole : List Signature) (statics : List Slot) (room limit : ℕ) (calls : Calls)
    → IsFrontOf front whole → CallsBelow code whole statics room limit calls
    → CallsBelow code front statics room limit calls
calls_front code front whole statics room limit calls got below = record {
  known = λ f g is. below.known f g (got f g is);
  runs = λ f g r place arguments s stack x is. below.runs f g r place arguments s stack x (got f g is);
}

some_same : {A : Type 0} (a b : A) → Some a ≡ Some b → a ≡ b
some_same a b e = cc

zero_by_zero : binary_of Div (Some (int (pos 0))) (Some (int (pos 0))) ≡ None
zero_by_zero = refl

-- undefined is returned to the routine that waits
undefined_returns : (code : Code) (has_zero : HasConstant (tables_in code) (Datum.int (pos 0))) (s : State)
    (c : Caller) (cs : List Caller) (x : After) → HasAt code.lines s.at (returns_undefined (tables_in code))
    → ComesTo code
    (record s { at = c.back; stack = None ∷ s.stack; locals = c.locals; lists = c.lists; callers = cs }) x
    → ComesTo code (record s { callers = c ∷ cs }) x
undefined_returns code has_zero s c cs x has h =
    let tables = tables_in code in
    let n = constant_number tables (Datum.int (pos 0)) in
    let within = slice_get_within code.constants n (int (pos 0)) has_zero in
    let z : Slot = Some (int (pos 0)) in
    let s1 : Slot → State = λ v. record s { at = suc s.at; stack = v ∷ s.stack; callers = c ∷ cs } in
    let s2 : Slot → State = λ v. record s { at = suc (suc s.at); stack = v ∷ z ∷ s.stack; callers = c ∷ cs } in
    let s3 : Slot → State = λ v. record s { at = suc (suc (suc s.at)); stack = v ∷ s.stack; callers = c ∷ cs } in
    at_line code (record s { callers = c ∷ cs }) (zero_pushed tables) x has.0 within
    (subst (λ v. ComesTo code (s1 v) x) (sym has_zero)
    (at_line code (s1 z) (zero_pushed tables) x has.1.0 within (subst (λ v. ComesTo code (s2 v) x) (sym has_zero)
    (at_line code (s2 z) (free (Binary Div)) x has.1.1.0 (Shape.int, Shape.int, Shape.int, refl, refl, refl)
    (subst (λ v. ComesTo code (s3 v) x) (sym zero_by_zero)
    (at_line code (s3 None) (free Return) x has.1.1.1.0 (tt, tt) h))))))

module _ (code : Code) (t : Shape) (types : List Shape) (x : After)
    (has_zero : HasConstant (tables_in code) (Datum.int (pos 0))) where
  -- how a function ends
  body_ends : (s : State) (stack : List Slot) (entry end : ℕ) (locals : List Slot)
      → HasAt code.lines end (returns_undefined (tables_in code)) → (r : Given Ending)
      → AfterEval code t (record s { stack = stack }) (suc s.at) x (and_then r (λ e. give (returned e)))
      → AfterExec code (record { result = Some t; loop = false }) types no_exits
      (record s {
        at = entry;
        stack = stack;
        locals = locals;
        lists = [];
        callers = record { locals = s.locals; back = suc s.at; lists = s.lists }
            ∷ s.callers;
      }) end x r
  body_ends s stack entry end locals has (Gives (Normal l) w) h = λ k.
      undefined_returns code has_zero (record s { at = end; stack = stack; locals = l; lists = []; world = w })
      (record { locals = s.locals; back = suc s.at; lists = s.lists }) s.callers x has
      (h (record { left = k.left; typed = tt }))
  body_ends s stack entry end locals has (Gives (Breaks l) w) h = tt
  body_ends s stack entry end locals has (Gives (Continues l) w) h = tt
  body_ends s stack entry end locals has (Gives (Returns v) w) h = λ k at operands l lists. h k
  body_ends s stack entry end locals has (Stops fault) h = h

module _ (code : Code) (functions : List Function) (whole : Declared)
    (all_stand : (f : ℕ) (h : Function) → slice_get functions f ≡ Some h
    → Stands (tables_in code) code.lines code.functions whole f h)
    (signatures : whole.functions ≡ map (λ (h : Function). h.signature) functions)
    (tables_there : IsFrontOf whole.tables code.tables) (counting : Option ℕ) (counts : Counts code counting)
    (slots : List Slot) (typed : AllFit slots whole.statics) where
  found : (f : ℕ) (g : Signature) → slice_get whole.functions f ≡ Some g
      → (h : Function) × (slice_get functions f ≡ Some h) × (h.signature ≡ g)
  found f g is = signed functions f g (subst (λ l. slice_get l f ≡ Some g) signatures is)

  calls_known : (f : ℕ) (g : Signature) → slice_get whole.functions f ≡ Some g
      → (r : Routine) × (slice_get code.functions f ≡ Some r) × (r.params ≡ length g.parameters)
  calls_known f g is =
      let h = found f g is in
      let st = all_stand f h.0 h.1 in (
        record { entry = st.entry; params = length h.0.signature.parameters; locals = length h.0.locals },
        st.known,
        ap
            (λ (q : Signature). length q.parameters) h.2,
      )

  pub calls_run : (room limit : ℕ)
      → CallsBelow code whole.functions slots room limit (calls_at functions counting slots room)
  calls_run zero limit = record {
    known = calls_known;
    runs = λ f g r place arguments s stack x is known fit same deep few h.
        (let full : length s.callers ≡ most_open_calls = omega (arith, deep) in
        subst (λ n. NextComes code (if nat_lt n most_open_calls then enter r arguments s stack
        else faults calls_too_deep place) x) (sym full) h);
  }
  calls_run (suc room) limit = record {
    known = calls_known;
    runs = λ f g r place arguments s stack x is known fit same deep few h.
        (let hf = found f g is in
        let fn = hf.0 in
        let st = all_stand f fn hf.1 in
        let lines = code.lines in
        let tables = tables_in code in
        let sight = function_sight st.declared fn in
        let calls = calls_at functions counting slots room in
        let set : Setting = function_setting functions counting calls slots in
        let entered : Routine = record {
          entry = st.entry;
          params = length fn.signature.parameters;
          locals = length fn.locals;
        } in
        let routine : r ≡ entered = some_same r entered (sym known ∙ st.known) in
        let b : nat_lt (length s.callers) most_open_calls ≡ true =
        lt-ltb (length s.callers) most_open_calls (omega (arith, deep)) in
        let locals = fresh (length fn.locals) arguments in
        let s1 : State = record s {
          at = st.entry;
          stack = stack;
          locals = locals;
          lists = [];
          callers = record { locals = s.locals; back = suc s.at; lists = s.lists } ∷ s.callers;
        } in
        let front = statements_code tables fn.body no_exits st.entry in
        let at1 = st.entry + length front in
        let h1 : AfterEval code fn.signature.result (record s { stack = stack }) (suc s.at) x
        (and_then (exec_all set fn.body locals s.world) (λ e. give (returned e))) =
        subst (λ o. AfterEval code fn.signature.result (record s { stack = stack }) (suc s.at) x
        (run_function functions counting o calls slots arguments s.world)) hf.1
        (subst (λ (q : Signature). AfterEval code q.result (record s { stack = stack }) (suc s.at) x
        (run_function functions counting (slice_get functions f) calls slots arguments s.world)) (sym hf.2) h) in
        let fit1 : AllFit locals fn.locals =
        fit_fresh arguments fn.signature.parameters fn.locals st.sound.parameters.0 st.sound.parameters.1
        (subst (λ (q : Signature). AllFit (map (λ d. Some d) arguments) q.parameters) (sym hf.2) fit) in
        let below : (limit1 : ℕ) → CallsBelow code sight.functions slots room limit1 calls =
        λ limit1. calls_front code sight.functions whole.functions slots room limit1 calls st.before.functions
        (calls_run room limit1) in
        let fixed : IsFixed sight set room s1.callers s1.statics s1.input = record {
          statics_typed = λ n u e. fit_at slots whole.statics n u typed (st.before.statics n u e);
          statics_same = same;
          input_seen = λ no. absurd cc;
          room_left = omega (arith, deep);
        } in
        subst (λ (y : Bool). NextComes code (if y then enter r arguments s stack else faults calls_too_deep place) x)
        (sym b) (subst (λ y. NextComes code (enter y arguments s stack) x) (sym routine)
        (all_run code sight set room below counts
        (λ n d e. tables_there n d (st.before.tables n d e)) x fn.body sight
        (record { result = Some fn.signature.result; loop = false }) no_exits s1 at1
        st.sound.body st.names fit1 fixed tt tt (has_front lines st.entry front (returns_undefined tables) st.has) refl
        (body_ends code fn.signature.result fn.locals x st.zero s stack st.entry at1 locals
        (has_back lines st.entry front (returns_undefined tables) st.has)
        (exec_all set fn.body locals s.world) h1))));
  }
