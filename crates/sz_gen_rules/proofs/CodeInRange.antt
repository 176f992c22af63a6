-- The code of a sound program is well formed.
use Rattle.std.proofs.Common.{◌≡◌, ◌∙◌, ℕ, zero, suc, ◌+◌, ◌<◌, ◌≤◌, List, [], ◌∷◌, ◌++◌, length, map, Bool, true, false, Some, refl, ap, subst, sym, arith, length-append}
use Rattle.std.specs.Prelude.{slice_get, pos}
use Rattle.std.specs.List.{list_all}
use Rattle.std.proofs.lemmas.Bool.{lt-ltb, le-leb}
use Rattle.std.proofs.lemmas.Option.{slice_get_within}
use Rattle.std.proofs.lemmas.List.{length-map}
use Rattle.sz_types.specs.Data.{Shape}
use Rattle.sz_types.specs.Tables.{Declaration}
use Rattle.sz_value.specs.Data.{Datum}
use Rattle.sz_builtin.proofs.TypeLemmas.{both_in}
use Rattle.sz_core.specs.Programs.{Signature, Function, Static, Item, Core, functions_of, statics_of, statements_of, tables_of}
use Rattle.sz_core.specs.Programs as items
use Rattle.sz_core.specs.Statements.{stms_of}
use Rattle.sz_core.specs.Sound.{Declared, IsSound, AreItems, BeginsWith, function_sight, static_sight, record_sight, seen_after, nothing_declared}
use Rattle.sz_core.specs.Typing.{Sight}
use Rattle.sz_instr.specs.WellFormed.{most_of, most_locals, is_in_range, is_routine, is_table_if_named, is_well_formed}
use Rattle.sz_instr.proofs.ForCallers.{well_formed_by_list, most_locals_by_list}
use Rattle.sz_instr.specs.declared.instr.Instr.TheVariants.{KeepStatic, EndRecord}
use Rattle.sz_instr.specs.declared.line.Line.{Line}
use Rattle.sz_instr.specs.declared.routine.Routine.{Routine}
use Rattle.sz_instr.specs.declared.code.Code.{Code}
use Rattle.sz_mean.specs.Marked.{Marked, table_of_lines, with_lines, counting_behind}
use Rattle.sz_mean.specs.Programs.{body_of}
use Rattle.sz_gen_rules.specs.Tables.{tables_in, constant_number, line, HasConstant}
use Rattle.sz_gen_rules.specs.ExpressionCode.{expression_code}
use Rattle.sz_gen_rules.specs.StatementCode.{no_exits, statement_code, statements_code}
use Rattle.sz_gen_rules.specs.FreeLines.{free}
use Rattle.sz_gen_rules.specs.NamedStatements.{StmsHaveNames, FunctionsHaveNames, StaticsHaveNames}
use Rattle.sz_gen_rules.specs.ProgramCode.{IsCodeOf, returns_undefined, function_code, functions_code, function_routines, static_code, statics_code, static_routines, record_code}
use Rattle.sz_gen_rules.proofs.Declared.{IsFrontOf, IsWhole, is_before, after_table, after_function, after_static}
use Rattle.sz_gen_rules.proofs.Statics.{type_at}
use Rattle.sz_gen_rules.proofs.Records.{top}
use Rattle.sz_gen_rules.proofs.ExpressionsInRange.{AreInRange, both_in_range, IsRoomFor, front_fits, back_fits, node_in_range}
use Rattle.sz_gen_rules.proofs.StatementsInRange.{stm_in_range, stms_in_range}
use Rattle.sz_gen_rules.proofs.Simulation.{all_whole, all_stand, whole, tables_there, routines_counted}

-- each routine begins at a line, and its parameters are among its locals
abbrev AreRoutines : Code → List Routine → Type 0
AreRoutines code [] = Unit {0}
AreRoutines code (r ∷ rs) = (is_routine code r ≡ true) × AreRoutines code rs

all_routines : (code : Code) (rs : List Routine) → AreRoutines code rs → list_all (is_routine code) rs ≡ true
all_routines code [] h = refl
all_routines code (r ∷ rs) h = both_in h.0 (all_routines code rs h.1)

all_lines : (code : Code) (lines : List Line) → AreInRange code lines
    → list_all (λ line. is_in_range code line.instr) lines ≡ true
all_lines code [] h = refl
all_lines code (l ∷ lines) h = both_in h.0 (all_lines code lines h.1)

-- a routine has at most as many locals as the greatest number of them
most_at : (rs : List Routine) (n : ℕ) (r : Routine) → slice_get rs n ≡ Some r → r.locals ≤ most_of rs
most_at [] n r is = absurd cc
most_at (q ∷ rs) zero r is = let same : q ≡ r = cc in
    let l : q.locals ≡ r.locals = ap (λ (s : Routine). s.locals) same in omega (arith, l)
most_at (q ∷ rs) (suc n) r is = let h = most_at rs n r is in omega (arith, h)

params_first : (front whole : List Shape) → BeginsWith front whole → length front ≤ length whole
params_first front whole b = omega (arith, ap length b.1, length-append front b.0)

module _ (code : Code) (whole : Declared)
    (statics_there : (n : ℕ) (t : Shape) → slice_get whole.statics n ≡ Some t → n < length code.statics)
    (functions_there : (n : ℕ) (f : Signature) → slice_get whole.functions n ≡ Some f → n < length code.functions)
    (tables_there : (n : ℕ) (d : Declaration) → slice_get whole.tables n ≡ Some d → n < length code.tables) where
  -- what is seen after declarations is in the code
  room_for : (g : Sight) → length g.locals ≤ most_locals code → IsFrontOf g.statics whole.statics
      → IsFrontOf g.functions whole.functions → IsFrontOf g.tables whole.tables → IsRoomFor code g
  room_for g most statics functions tables = record {
    locals = most;
    statics = λ n t is. statics_there n t (statics n t is);
    functions = λ n f is. functions_there n f (functions n f is);
    tables = λ n d is. tables_there n d (tables n d is);
  }

  returns_in_range : HasConstant (tables_in code) (Datum.int (pos 0))
      → AreInRange code (returns_undefined (tables_in code))
  returns_in_range zero_there =
      let n = constant_number (tables_in code) (Datum.int (pos 0)) in
      let few = lt-ltb n (length code.constants) (slice_get_within code.constants n (Datum.int (pos 0)) zero_there) in
      (few, (few, (refl, (refl, tt))))

  functions_in_range : (locals : List Shape) (rest : List Item) (seen : List ℕ) (d : Declared) (at : ℕ)
      → AreItems locals seen d rest → IsWhole d rest whole → FunctionsHaveNames (tables_in code) (functions_of rest)
      → at + length (functions_code (tables_in code) (functions_of rest) at) ≤ length code.lines
      → ((n : ℕ) (h : Function) → slice_get (functions_of rest) n ≡ Some h → length h.locals ≤ most_locals code)
      → AreInRange code (functions_code (tables_in code) (functions_of rest) at)
      × AreRoutines code (function_routines (tables_in code) (functions_of rest) at)
  unfolding AreItems
  functions_in_range locals [] seen d at sound is names fits most = (tt, tt)
  functions_in_range locals (items.table t ∷ rest) seen d at sound is names fits most =
      functions_in_range locals rest seen
      (record d { tables = d.tables ++ t ∷ [] }) at sound.1 (after_table d t rest whole is) names fits most
  functions_in_range locals (items.static s ∷ rest) seen d at sound is names fits most =
      functions_in_range locals rest seen
      (record d { statics = d.statics ++ s.type ∷ [] }) at sound.1 (after_static d s rest whole is) names fits most
  functions_in_range locals (items.statement c ∷ rest) seen d at sound is names fits most =
      functions_in_range locals rest (seen_after (record_sight locals seen d) c).seen d at sound.1
      (record { statics = is.statics; functions = is.functions; tables = is.tables }) names fits most
  functions_in_range locals (items.function f ∷ rest) seen d at sound is names fits most =
      let d1 : Declared = record d { functions = d.functions ++ f.signature ∷ [] } in
      let is1 = after_function d f rest whole is in
      let before = is_before d1 rest whole is1 in
      let own = function_code (tables_in code) f at in
      let body = statements_code (tables_in code) f.body no_exits at in
      let later = functions_code (tables_in code) (functions_of rest) (at + length own) in
      let fits1 = front_fits code own later at fits in
      let low : at + length body + 4 ≤ length code.lines =
      omega (arith, fits1, length-append body (returns_undefined (tables_in code))) in
      let few = most 0 f refl in
      let room = room_for (function_sight d f) few before.statics before.functions before.tables in
      let next = functions_in_range locals rest seen d1
      (at + length own) sound.1 is1 names.2 (back_fits code own later at fits) (λ n h e. most (suc n) h e) in
      let first : AreInRange code own =
      both_in_range code body (returns_undefined (tables_in code))
      (stms_in_range code (function_sight d f) room f.body (function_sight d f)
      (record { result = Some f.signature.result; loop = false }) no_exits at sound.0.body names.1
      (omega (arith, low)) (omega (arith, low)) (omega (arith, low))) (returns_in_range names.0) in
      let params = params_first f.signature.parameters f.locals sound.0.parameters in (
        both_in_range code own later first next.0,
        (
          both_in (lt-ltb at (length code.lines) (omega (arith, low)))
              (le-leb (length f.signature.parameters) (length f.locals) params),
          next.1,
        ),
      )

  statics_in_range : (locals : List Shape) (rest : List Item) (seen : List ℕ) (d : Declared) (n at : ℕ)
      → AreItems locals seen d rest → IsWhole d rest whole → n ≡ length d.statics
      → StaticsHaveNames (tables_in code) (statics_of rest)
      → at + length (statics_code (tables_in code) n (statics_of rest) at) ≤ length code.lines
      → AreInRange code (statics_code (tables_in code) n (statics_of rest) at)
      × AreRoutines code (static_routines (tables_in code) n (statics_of rest) at)
  unfolding AreItems
  statics_in_range locals [] seen d n at sound is count names fits = (tt, tt)
  statics_in_range locals (items.table t ∷ rest) seen d n at sound is count names fits =
      statics_in_range locals rest seen
      (record d { tables = d.tables ++ t ∷ [] }) n at sound.1 (after_table d t rest whole is) count names fits
  statics_in_range locals (items.function f ∷ rest) seen d n at sound is count names fits =
      statics_in_range locals rest seen (record d { functions = d.functions ++ f.signature ∷ [] }) n at sound.1
      (after_function d f rest whole is) count names fits
  statics_in_range locals (items.statement c ∷ rest) seen d n at sound is count names fits =
      statics_in_range locals rest (seen_after (record_sight locals seen d) c).seen d n at sound.1
      (record { statics = is.statics; functions = is.functions; tables = is.tables }) count names fits
  statics_in_range locals (items.static v ∷ rest) seen d n at sound is count names fits =
      let before = is_before d (items.static v ∷ rest) whole is in
      let d1 : Declared = record d { statics = d.statics ++ v.type ∷ [] } in
      let own = static_code (tables_in code) n v at in
      let ce = expression_code (tables_in code) v.value at in
      let last = line (KeepStatic n) 1 v.place ∷ free EndRecord ∷ [] in
      let later = statics_code (tables_in code) (suc n) (statics_of rest) (at + length own) in
      let fits1 = front_fits code own later at fits in
      let low : at + length ce + 2 ≤ length code.lines = omega (arith, fits1, length-append ce last) in
      let none : 0 ≤ most_locals code = omega arith in
      let room = room_for (static_sight d) none before.statics before.functions (λ k t e. absurd cc) in
      let there : slice_get whole.statics n ≡ Some v.type =
      subst (λ l. slice_get l n ≡ Some v.type) (sym is.statics)
      (subst (λ k. slice_get (d.statics ++ v.type ∷ map (λ (s : Static). s.type) (statics_of rest)) k ≡ Some v.type)
      (sym count) (type_at d.statics _ v.type)) in
      let next = statics_in_range locals rest seen d1 (suc n) (at + length own) sound.1 (after_static d v rest whole is)
      (omega (arith, count, length-append d.statics (v.type ∷ []))) names.1 (back_fits code own later at fits) in
      let first : AreInRange code own =
      both_in_range code ce last (node_in_range code (static_sight d) room
      (static_sight d) v.value at sound.0.value names.0 (omega (arith, low)))
      (lt-ltb n (length code.statics) (statics_there n v.type there), (refl, tt)) in (
        both_in_range code own later first next.0,
        (both_in (lt-ltb at (length code.lines) (omega (arith, low))) refl, next.1),
      )

  body_in_range : (locals : List Shape) → length locals ≤ most_locals code
      → (rest : List Item) (seen : List ℕ) (d : Declared) (at : ℕ)
      → AreItems locals seen d rest → IsWhole d rest whole
      → StmsHaveNames (tables_in code) (stms_of (statements_of rest)) → at + length
      (statements_code (tables_in code) (stms_of (statements_of rest)) no_exits at) < length code.lines
      → AreInRange code (statements_code (tables_in code) (stms_of (statements_of rest)) no_exits at)
  unfolding AreItems
  body_in_range locals most [] seen d at sound is names fits = tt
  body_in_range locals most (items.table t ∷ rest) seen d at sound is names fits =
      body_in_range locals most rest seen
      (record d { tables = d.tables ++ t ∷ [] }) at sound.1 (after_table d t rest whole is) names fits
  body_in_range locals most (items.function f ∷ rest) seen d at sound is names fits =
      body_in_range locals most rest seen (record d { functions = d.functions ++ f.signature ∷ [] }) at sound.1
      (after_function d f rest whole is) names fits
  body_in_range locals most (items.static v ∷ rest) seen d at sound is names fits =
      body_in_range locals most rest seen
      (record d { statics = d.statics ++ v.type ∷ [] }) at sound.1 (after_static d v rest whole is) names fits
  body_in_range locals most (items.statement c ∷ rest) seen d at sound is names fits =
      let g = record_sight locals seen d in
      let before = is_before d (items.statement c ∷ rest) whole is in
      let room = room_for g most before.statics before.functions before.tables in
      let front = statement_code (tables_in code) c no_exits at in
      let later = statements_code (tables_in code) (stms_of (statements_of rest)) no_exits (at + length front) in
      let a1 = length-append front later in
      both_in_range code front later
      (stm_in_range code g room c g top no_exits at sound.0 names.0 (omega (arith, fits)) (omega (arith, fits))
      (omega (arith, fits, a1)))
      (body_in_range locals most rest (seen_after g c).seen d (at + length front) sound.1
      (record { statics = is.statics; functions = is.functions; tables = is.tables }) names.1 (omega (arith, fits, a1)))

signatures_counted : (tables : _) (fs : List Function) (at : ℕ) → length (function_routines tables fs at) ≡ length fs
signatures_counted tables [] at = refl
signatures_counted tables (f ∷ fs) at = ap suc (signatures_counted tables fs _)

-- the table of lines is there
table_in_range : (program : Marked) (code : Code) → IsCodeOf program code → is_table_if_named code code.ignore ≡ true
table_in_range program code is =
    subst (λ c. is_table_if_named code c ≡ true) (sym is.ignore) (by program.ignoring is.tables)
  where
    by : (ignoring : Bool) → code.tables ≡ with_lines ignoring (tables_of program.core.items)
        → is_table_if_named code (counting_behind ignoring (length (tables_of program.core.items))) ≡ true
    by false e = refl
    by true e =
        lt-ltb (length (tables_of program.core.items)) (length code.tables)
        (omega (arith, ap length e, length-append (tables_of program.core.items) (table_of_lines ∷ [])))

pub code_well_formed : (program : Marked) (code : Code) → IsSound program.core → IsCodeOf program code
    → is_well_formed code ≡ true
code_well_formed program code sound is =
    let core : Core = program.core in
    let tables = tables_in code in
    let fs = functions_of core.items in
    let ss = statics_of core.items in
    let all : Declared = whole program code sound is in
    let fl = functions_code tables fs 0 in
    let sl = statics_code tables 0 ss (length fl) in
    let rl = record_code tables core code.main.entry in
    let body = statements_code tables (body_of core) no_exits code.main.entry in
    let entry : code.main.entry ≡ length fl + length sl = ap (λ (r : Routine). r.entry) is.main in
    let total : length code.lines ≡ length fl + (length sl + (length body + 1)) =
    omega (
      arith,
      ap length is.lines,
      length-append fl (sl ++ rl),
      length-append sl rl,
      length-append body (free EndRecord ∷ []),
    ) in
    let by = most_locals_by_list code in
    let statics_there : (n : ℕ) (t : Shape) → slice_get all.statics n ≡ Some t → n < length code.statics =
    λ n t e. omega (
      arith,
      slice_get_within all.statics n t e,
      length-map ss (λ (s : Static). s.type),
      ap length is.statics,
      routines_counted tables 0 ss
          (length fl),
    ) in
    let functions_there : (n : ℕ) (f : Signature) → slice_get all.functions n ≡ Some f → n < length code.functions =
    λ n f e. omega (
      arith,
      slice_get_within all.functions n f e,
      length-map fs
          (λ (f : Function). f.signature),
      ap length is.functions,
      signatures_counted tables fs 0,
    ) in
    let tables_there : (n : ℕ) (d : Declaration) → slice_get all.tables n ≡ Some d → n < length code.tables =
    λ n d e. slice_get_within code.tables n d (tables_there program code sound is n d e) in
    let function_locals : (n : ℕ) (h : Function) → slice_get fs n ≡ Some h → length h.locals ≤ most_locals code =
    λ n h e. omega (arith, by, most_at code.functions n _ (all_stand program code sound is n h e).known) in
    let main_locals : length core.locals ≤ most_locals code =
    omega (arith, by, ap (λ (r : Routine). r.locals) is.main) in
    let f = functions_in_range code all statics_there functions_there tables_there core.locals core.items []
    nothing_declared 0 sound.items (all_whole program code sound is)
    is.names.functions (omega (arith, total)) function_locals in
    let s = statics_in_range code all statics_there functions_there tables_there core.locals core.items []
    nothing_declared 0 (length fl) sound.items (all_whole program code sound is) refl
    is.names.statics (omega (arith, total)) in
    let b = body_in_range code all statics_there functions_there tables_there core.locals main_locals core.items []
    nothing_declared code.main.entry sound.items (all_whole program code sound is)
    is.names.body (omega (arith, total, entry)) in
    let lines : AreInRange code code.lines =
    subst (λ l. AreInRange code l) (sym is.lines)
    (both_in_range code fl
    (sl ++ rl) f.0 (both_in_range code sl rl s.0 (both_in_range code body (free EndRecord ∷ []) b (refl, tt)))) in
    let functions = subst (λ l. AreRoutines code l) (sym is.functions) f.1 in
    let statics = subst (λ l. AreRoutines code l) (sym is.statics) s.1 in
    let first : code.main.params ≡ 0 = ap (λ (r : Routine). r.params) is.main in
    let main : is_routine code code.main ≡ true =
    both_in (lt-ltb code.main.entry (length code.lines) (omega (arith, total, entry)))
    (le-leb code.main.params code.main.locals (omega (arith, first))) in
    well_formed_by_list code
    ∙ both_in (both_in
    (both_in (both_in (all_routines code code.functions functions) (all_routines code code.statics statics)) main)
    (table_in_range program code is)) (all_lines code code.lines lines)
