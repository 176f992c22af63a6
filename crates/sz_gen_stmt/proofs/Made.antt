-- How the code of statements and of programs is put together.
use Rattle.std.proofs.Common.{◌≡◌, ◌∙◌, ℕ, suc, ◌+◌, ◌<◌, List, [], ◌∷◌, ◌++◌, length, Option, Some, None, pos, refl, sym, ap, subst, arith}
use Rattle.std.proofs.Common.{append_assoc, append-nil, length-append}
use Rattle.std.specs.Prelude.{is_some}
use Rattle.std.specs.Option.{option_map, option_copied}
use Rattle.std.specs.Borrow.{Bor}
use Rattle.sz_types.specs.declared.place.Place.{Place}
use Rattle.sz_types.specs.Tables.{Declaration}
use Rattle.sz_value.specs.Data.{Datum}
use Rattle.sz_core.specs.Statements.{Stm}
use Rattle.sz_core.specs.Programs.{Core, Function, Static, functions_of, statics_of, statements_of, tables_of}
use Rattle.sz_core.specs.declared.stmt.CoreStmt.{CoreStmt}
use Rattle.sz_core.specs.declared.program.Item.{Item}
use Rattle.sz_core.specs.declared.program.Item.TheVariants as items
use Rattle.sz_core.specs.Programs as program
use Rattle.sz_core.specs.View.{stm_of, item_of}
use Rattle.sz_instr.specs.declared.instr.Instr.{Instr}
use Rattle.sz_instr.specs.declared.instr.Instr.TheVariants.{Jump, Test, Tick, KeepStatic, EndRecord}
use Rattle.sz_instr.specs.declared.line.Line.{Line}
use Rattle.sz_instr.specs.declared.routine.Routine.{Routine}
use Rattle.sz_instr.specs.declared.code.Code.{Code}
use Rattle.sz_mean.specs.Marked.{Marked, all_tables, counting_table}
use Rattle.sz_mean.specs.Programs.{body_of}
use Rattle.sz_gen_expr.specs.declared.builder.Builder.{Builder}
use Rattle.sz_gen_rules.specs.Tables.{Tables, HasConstant, line}
use Rattle.sz_gen_rules.specs.ExpressionCode.{followed, expression_code}
use Rattle.sz_gen_expr.specs.Building.{tables_made, Grows, Appends, AppendsLine, AppendsClosed, LandsBy, Lands, LandsPast, Nothing}
use Rattle.sz_gen_expr.proofs.Builds.{grows_itself, grows_on, grows_same, landed_grows, after}
use Rattle.sz_gen_rules.specs.StatementCode as codes
use Rattle.sz_gen_rules.specs.FreeLines.{no_place}
use Rattle.sz_gen_rules.specs.StatementCode.{no_exits, branch_code, loop_code, loop_after_code}
use Rattle.sz_gen_rules.specs.ProgramCode.{IsCodeOf, returns_undefined, function_code, functions_code, function_routines, static_code, statics_code, static_routines, record_code}
use Rattle.sz_gen_rules.specs.NamedStatements.{StmsHaveNames}
use Rattle.sz_gen_stmt.specs.Making.{AppendsStm, AppendsStms, Extends, ExtendsFunction, ExtendsFunctions, ExtendsStatic, ExtendsStatics}
use Rattle.sz_gen_stmt.proofs.Patches.{length-changed, branch_lines, loop_lines, loop_after_lines}

-- a statement of this form
pub of_stm : {old new : Builder} (out : codes.Exits) (s : CoreStmt) (x : Stm) → stm_of s ≡ x
    → AppendsStm old new x out → AppendsStm old new (stm_of s) out
of_stm {old} {new} out s x is h = subst (λ y. AppendsStm old new y out) (sym is) h

pub some_mapped : {A B : Type 0} (f : A → B) (o : Option A) → is_some o ≡ is_some (option_map f o)
some_mapped f None = refl
some_mapped f (Some a) = refl

pub lent_is : {A B : Type 0} (f : A → B) (lent : Option (Bor A)) (o : Option A) → option_copied lent ≡ o
    → option_map (λ a. f a.now) lent ≡ option_map f o
lent_is f None o is = ap (option_map f) is
lent_is f (Some a) o is = ap (option_map f) is

-- ---- where a line gets its target

-- a line stays where another one gets its target
pub stays_landed : {change : Instr → ℕ → Option Instr} {old new : Builder} {at to : ℕ} → at < length old.lines
    → LandsBy change old new to → at < length new.lines
stays_landed {change} {old} {new} {at} {to} within h =
    omega (arith, within, ap length h.lines, length-changed change old.lines to (length old.lines))

pub branch_made : {old m1 m2 m3 m4 m5 m6 m7 new : Builder} {test first second : Tables → ℕ → List Line}
    {named1 named2 named3 : Tables → Type 0} (place : Place) (skip over : ℕ)
    → Appends old m1 test named1 → skip ≡ length m1.lines → AppendsLine m1 m2 (λ tables. Test 0 0) 1 place Nothing
    → Appends m2 m3 first named2 → over ≡ length m3.lines → AppendsLine m3 m4 (λ tables. Jump 0) 0 no_place Nothing
    → Lands m4 m5 skip → Appends m5 m6 second named3 → Lands m6 m7 over
    → LandsPast m7 new skip
    → Appends old new (λ tables at. branch_code place (test tables at) (first tables) (second tables) at)
    (λ tables. named1 tables × named2 tables × named3 tables)
branch_made {old} {m1} {m2} {m3} {m4} {m5} {m6} {m7} {new} {test} {first} {second} place skip over h1 k1 h2 h3 k2
    h4 l1 h5 l2 l3 =
    let g6 = grows_on (landed_grows l2) (landed_grows l3) in
    let g4 = grows_on (landed_grows l1) (grows_on h5.grows g6) in
    let g3 = grows_on h4.grows g4 in
    let g2 = grows_on h3.grows g3 in
    let g1 = grows_on h2.grows g2 in
    record {
      grows = grows_on h1.grows g1;
      lines = λ tables g. branch_lines old.lines (test tables (length old.lines)) (first tables) (second tables)
          m1.lines m2.lines m3.lines m4.lines m5.lines m6.lines m7.lines new.lines place skip over
          (h1.lines tables (grows_on g1 g)) k1 (h2.lines tables (grows_on g2 g)) (h3.lines tables (grows_on g3 g)) k2
          (h4.lines tables (grows_on g4 g)) l1.lines (h5.lines tables (grows_on g6 g)) l2.lines l3.lines;
      names = λ tables g.
          (h1.names tables (grows_on g1 g), h3.names tables (grows_on g3 g), h5.names tables (grows_on g6 g));
      functions = l3.functions ∙ l2.functions ∙ h5.functions ∙ l1.functions ∙ h4.functions ∙ h3.functions
          ∙ h2.functions ∙ h1.functions;
      statics = l3.statics ∙ l2.statics ∙ h5.statics ∙ l1.statics ∙ h4.statics ∙ h3.statics ∙ h2.statics ∙ h1.statics;
    }

pub loop_made : {old m1 m2 m3 m4 m5 m6 m7 m8 new : Builder} {between : Tables → ℕ → List Line}
    {named1 named2 named3 : Tables → Type 0} (test : Tables → ℕ → ℕ → List Line)
    (body : Tables → ℕ → ℕ → ℕ → List Line) (place : Place) (to_test past again : ℕ)
    → to_test ≡ length old.lines → AppendsLine old m1 (λ tables. Jump 0) 0 no_place Nothing
    → past ≡ length m1.lines → AppendsLine m1 m2 (λ tables. Jump 0) 0 no_place Nothing
    → again ≡ length m2.lines → Appends m2 m3 between named2 → AppendsLine m3 m4 (λ tables. Tick) 1 place Nothing
    → Lands m4 m5 to_test → Appends m5 m6 (λ tables at. test tables past at) named1
    → Appends m6 m7 (λ tables at. body tables past again at) named3
    → AppendsLine m7 m8 (λ tables. Jump again) 0 no_place Nothing → Lands m8 new past
    → Appends old new
    (λ tables at. loop_code place (between tables) (test tables (at + 1)) (body tables (at + 1) (at + 2)) at)
    (λ tables. named1 tables × named2 tables × named3 tables)
loop_made {old} {m1} {m2} {m3} {m4} {m5} {m6} {m7} {m8} {new} {between} test body place to_test past again k0 h1 k1 h2
    k2 h3 h4 l1 h5 h6 h7 l2 =
    let g8 = landed_grows l2 in
    let g7 = grows_on h7.grows g8 in
    let g6 = grows_on h6.grows g7 in
    let g4 = grows_on (landed_grows l1) (grows_on h5.grows g6) in
    let g3 = grows_on h4.grows g4 in
    let g2 = grows_on h3.grows g3 in
    let g1 = grows_on h2.grows g2 in
    record {
      grows = grows_on h1.grows g1;
      lines = λ tables g. loop_lines old.lines (between tables) (test tables) (body tables)
          m1.lines m2.lines m3.lines m4.lines m5.lines m6.lines m7.lines m8.lines new.lines place to_test past again
          k0 (h1.lines tables (grows_on g1 g)) k1 (h2.lines tables (grows_on g2 g)) k2
          (h3.lines tables (grows_on g3 g)) (h4.lines tables (grows_on g4 g))
          l1.lines (h5.lines tables (grows_on g6 g)) (h6.lines tables (grows_on g7 g))
          (h7.lines tables (grows_on g8 g)) l2.lines;
      names = λ tables g.
          (h5.names tables (grows_on g6 g), h3.names tables (grows_on g3 g), h6.names tables (grows_on g7 g));
      functions = l2.functions ∙ h7.functions ∙ h6.functions ∙ h5.functions ∙ l1.functions ∙ h4.functions
          ∙ h3.functions ∙ h2.functions ∙ h1.functions;
      statics = l2.statics ∙ h7.statics ∙ h6.statics ∙ h5.statics ∙ l1.statics ∙ h4.statics ∙ h3.statics
          ∙ h2.statics ∙ h1.statics;
    }

pub loop_after_made : {old m1 m2 m3 m4 m5 m6 m7 m8 m9 new : Builder} {named1 named2 : Tables → Type 0}
    (test : Tables → ℕ → ℕ → List Line) (body : Tables → ℕ → ℕ → ℕ → List Line) (place : Place)
    (to_body past to_test again : ℕ)
    → to_body ≡ length old.lines → AppendsLine old m1 (λ tables. Jump 0) 0 no_place Nothing
    → past ≡ length m1.lines → AppendsLine m1 m2 (λ tables. Jump 0) 0 no_place Nothing
    → to_test ≡ length m2.lines → AppendsLine m2 m3 (λ tables. Jump 0) 0 no_place Nothing
    → again ≡ length m3.lines → Lands m3 m4 to_body → Appends m4 m5 (λ tables at. body tables past to_test at) named2
    → Lands m5 m6 to_test → Appends m6 m7 (λ tables at. test tables past at) named1
    → AppendsLine m7 m8 (λ tables. Tick) 1 place Nothing
    → AppendsLine m8 m9 (λ tables. Jump again) 0 no_place Nothing → Lands m9 new past
    → Appends old new (λ tables at. loop_after_code place (body tables (at + 1) (at + 2)) (test tables (at + 1)) at)
    (λ tables. named2 tables × named1 tables)
loop_after_made {old} {m1} {m2} {m3} {m4} {m5} {m6} {m7} {m8} {m9} {new} test body place to_body past to_test again
    k0 h1 k1 h2 k2 h3 k3 l1 h4 l2 h5 h6 h7 l3 =
    let g9 = landed_grows l3 in
    let g8 = grows_on h7.grows g9 in
    let g7 = grows_on h6.grows g8 in
    let g5 = grows_on (landed_grows l2) (grows_on h5.grows g7) in
    let g3 = grows_on (landed_grows l1) (grows_on h4.grows g5) in
    let g2 = grows_on h3.grows g3 in
    let g1 = grows_on h2.grows g2 in
    record {
      grows = grows_on h1.grows g1;
      lines = λ tables g. loop_after_lines old.lines (test tables) (body tables)
          m1.lines m2.lines m3.lines m4.lines m5.lines m6.lines m7.lines m8.lines m9.lines new.lines place to_body
          past to_test again k0 (h1.lines tables (grows_on g1 g)) k1 (h2.lines tables (grows_on g2 g)) k2
          (h3.lines tables (grows_on g3 g)) k3 l1.lines (h4.lines tables (grows_on g5 g)) l2.lines (h5.lines tables
          (grows_on g7 g)) (h6.lines tables (grows_on g8 g)) (h7.lines tables (grows_on g9 g)) l3.lines;
      names = λ tables g. (h4.names tables (grows_on g5 g), h5.names tables (grows_on g7 g));
      functions = l3.functions ∙ h7.functions ∙ h6.functions ∙ h5.functions ∙ l2.functions ∙ h4.functions
          ∙ l1.functions ∙ h3.functions ∙ h2.functions ∙ h1.functions;
      statics = l3.statics ∙ h7.statics ∙ h6.statics ∙ h5.statics ∙ l2.statics ∙ h4.statics ∙ l1.statics ∙ h3.statics
          ∙ h2.statics ∙ h1.statics;
    }

-- ---- code with routines

-- nothing more
pub extends_none : {named : Tables → Type 0} (b : Builder) → ((tables : Tables) → named tables)
    → Extends b b (λ tables at. []) (λ tables at. []) (λ tables at. []) named
extends_none b named = record {
  grows = grows_itself (tables_made b);
  lines = λ tables g. sym (append-nil b.lines);
  functions = λ tables g. sym (append-nil b.functions);
  statics = λ tables g. sym (append-nil b.statics);
  names = λ tables g. named tables;
}

-- one piece after another
pub extends_after : {old m new : Builder} {c1 c2 : Tables → ℕ → List Line} {f1 f2 s1 s2 : Tables → ℕ → List Routine}
    {n1 n2 : Tables → Type 0} → Extends old m c1 f1 s1 n1 → Extends m new c2 f2 s2 n2
    → Extends old new (λ tables at. followed at (c1 tables at) (c2 tables))
    (λ tables at. f1 tables at ++ f2 tables (at + length (c1 tables at)))
    (λ tables at. s1 tables at ++ s2 tables (at + length (c1 tables at))) (λ tables. n1 tables × n2 tables)
extends_after {old} {m} {new} {c1} {c2} {f1} {f2} {s1} {s2} h k =
    let first : (tables : Tables) → Grows (tables_made new) tables → Grows (tables_made m) tables =
    λ tables g. grows_on k.grows g in
    let place : (tables : Tables) → Grows (tables_made new) tables
    → length m.lines ≡ length old.lines + length (c1 tables (length old.lines)) =
    λ tables g. ap length (h.lines tables (first tables g)) ∙ length-append old.lines (c1 tables (length old.lines)) in
    record {
      grows = grows_on h.grows k.grows;
      lines = λ tables g.
          let code = c1 tables (length old.lines) in
          k.lines tables g ∙ (λ j. (h.lines tables (first tables g)) j ++ c2 tables ((place tables g) j))
          ∙ append_assoc old.lines code (c2 tables (length old.lines + length code));
      functions = λ tables g.
          let code = c1 tables (length old.lines) in
          k.functions tables g ∙ (λ j. (h.functions tables (first tables g)) j ++ f2 tables ((place tables g) j))
          ∙ append_assoc old.functions (f1 tables (length old.lines)) (f2 tables (length old.lines + length code));
      statics = λ tables g.
          let code = c1 tables (length old.lines) in
          k.statics tables g ∙ (λ j. (h.statics tables (first tables g)) j ++ s2 tables ((place tables g) j))
          ∙ append_assoc old.statics (s1 tables (length old.lines)) (s2 tables (length old.lines + length code));
      names = λ tables g. (h.names tables (first tables g), k.names tables g);
    }

-- a function in front of others
pub function_before : {old m new : Builder} (f : Function) (fs : List Function)
    → ExtendsFunction old m f → ExtendsFunctions m new fs → ExtendsFunctions old new (f ∷ fs)
function_before f fs h k =
    let whole = extends_after h k in
    record {
      grows = whole.grows;
      lines = whole.lines;
      functions = whole.functions;
      statics = whole.statics;
      names = λ tables g. let n = whole.names tables g in (n.0.0, n.0.1, n.1);
    }

-- a static in front of others
pub static_before : {old m new : Builder} (s : Static) (ss : List Static)
    → ExtendsStatic old m (length old.statics) s → ExtendsStatics m new (length m.statics) ss
    → ExtendsStatics old new (length old.statics) (s ∷ ss)
static_before {old} {m} {new} s ss h k =
    let now = tables_made m in
    let r : Routine = record { entry = length old.lines; params = 0; locals = 0 } in
    let next : length m.statics ≡ suc (length old.statics) =
    omega (arith, ap length (h.statics now (grows_itself now)), length-append old.statics (r ∷ [])) in
    extends_after h (subst (λ n. ExtendsStatics m new n ss) next k)

-- a function: where it begins, its statements, and the return of undefined
pub function_made : (old m1 m2 new : Builder) (f : Function) (params locals : ℕ)
    → params ≡ length f.signature.parameters → locals ≡ length f.locals
    → m1.functions ≡ old.functions ++ record { entry = length old.lines; params = params; locals = locals } ∷ []
    → m1.lines ≡ old.lines → m1.statics ≡ old.statics → m1.constants ≡ old.constants → m1.types ≡ old.types
    → AppendsStms m1 m2 f.body no_exits
    → Appends m2 new (λ tables at. returns_undefined tables) (λ tables. HasConstant tables (Datum.int (pos 0)))
    → ExtendsFunction old new f
function_made old m1 m2 new f params locals is_params is_locals functions lines statics constants types h k =
    let whole = after h k in
    record {
      grows = grows_on (grows_same (tables_made old) (tables_made m1) constants types) whole.grows;
      lines = λ tables g. whole.lines tables g ∙ ap (λ l. l ++ function_code tables f (length l)) lines;
      functions = λ tables g. whole.functions ∙ functions
          ∙ (λ j. old.functions
          ++ record { entry = length old.lines; params = is_params j; locals = is_locals j } ∷ []);
      statics = λ tables g. whole.statics ∙ statics ∙ sym (append-nil old.statics);
      names = λ tables g. let n = whole.names tables g in (n.1, n.0);
    }

-- a static: where it begins, its value, which is kept, and the end
pub static_made : (old m1 m2 new : Builder) (s : Static) (n : ℕ) → n ≡ length old.statics
    → m1.statics ≡ old.statics ++ record { entry = length old.lines; params = 0; locals = 0 } ∷ []
    → m1.lines ≡ old.lines → m1.functions ≡ old.functions → m1.constants ≡ old.constants → m1.types ≡ old.types
    → AppendsClosed m1 m2 s.value (KeepStatic n) s.place
    → AppendsLine m2 new (λ tables. EndRecord) 0 no_place Nothing
    → ExtendsStatic old new (length old.statics) s
static_made old m1 m2 new s n is statics lines functions constants types h k =
    let whole = after h k in
    subst (λ i. ExtendsStatic old new i s) is record {
      grows = grows_on (grows_same (tables_made old) (tables_made m1) constants types) whole.grows;
      lines = λ tables g. whole.lines tables g
          ∙ ap (λ l. m1.lines ++ l)
          (append_assoc (expression_code tables s.value (length m1.lines)) (line (KeepStatic n) 1 s.place ∷ [])
          (line EndRecord 0 no_place ∷ []))
          ∙ ap (λ c. c ++ static_code tables n s (length c)) lines;
      functions = λ tables g. whole.functions ∙ functions ∙ sym (append-nil old.functions);
      statics = λ tables g. whole.statics ∙ statics;
      names = λ tables g. (whole.names tables g).0;
    }

-- a whole program: its functions, its statics and its record
pub program_made : (marked : Marked) (code : Code) (m0 m1 m2 m3 : Builder) (entry locals : ℕ)
    (tables : List Declaration) (ignore : Option ℕ) → m0.lines ≡ [] → m0.functions ≡ [] → m0.statics ≡ []
    → ExtendsFunctions m0 m1 (functions_of marked.core.items)
    → ExtendsStatics m1 m2 (length m1.statics) (statics_of marked.core.items)
    → entry ≡ length m2.lines → Appends m2 m3 (λ tables at. record_code tables marked.core at)
    (λ tables. StmsHaveNames tables (body_of marked.core))
    → locals ≡ length marked.core.locals → tables ≡ all_tables marked → ignore ≡ counting_table marked
    → code ≡ record {
      lines = m3.lines;
      functions = m3.functions;
      statics = m3.statics;
      main = record { entry = entry; params = 0; locals = locals };
      constants = m3.constants;
      types = m3.types;
      tables = tables;
      ignore = ignore;
    }
    → IsCodeOf marked code
program_made marked code m0 m1 m2 m3 entry locals tables ignore no_lines no_functions no_statics h k is_entry l
    is_locals is_tables is_ignore is_code =
    let core : Core = marked.core in
    let t : Tables = tables_made m3 in
    let g2 = grows_on l.grows (grows_itself t) in
    let g1 = grows_on k.grows g2 in
    let fs = functions_of marked.core.items in
    let ss = statics_of marked.core.items in
    let first = functions_code t fs 0 in
    let second = statics_code t 0 ss (length first) in
    let lines1 : m1.lines ≡ first = h.lines t g1 ∙ (λ j. (no_lines j) ++ functions_code t fs (length (no_lines j))) in
    let statics1 : m1.statics ≡ [] = h.statics t g1 ∙ append-nil m0.statics ∙ no_statics in
    let lines2 : m2.lines ≡ first ++ second =
    k.lines t g2 ∙ (λ j. (lines1 j) ++ statics_code t (length (statics1 j)) ss (length (lines1 j))) in
    let lines3 = l.lines t (grows_itself t) ∙ ap (λ n. m2.lines ++ record_code t core n) (sym is_entry)
    ∙ ap (λ ls. ls ++ record_code t core entry) lines2 ∙ append_assoc first second (record_code t core entry) in
    subst (IsCodeOf marked) (sym is_code) record {
      lines = lines3;
      functions = l.functions ∙ k.functions t g2 ∙ append-nil m1.functions ∙ h.functions t g1
          ∙ (λ j. (no_functions j) ++ function_routines t fs (length (no_lines j)));
      statics = l.statics ∙ k.statics t g2
          ∙ (λ j. (statics1 j) ++ static_routines t (length (statics1 j)) ss (length (lines1 j)));
      main = λ j. record {
        entry = (is_entry ∙ ap length lines2 ∙ length-append first second) j;
        params = 0;
        locals = is_locals j;
      };
      names = record { functions = h.names t g1; statics = k.names t g2; body = l.names t (grows_itself t) };
      tables = is_tables;
      ignore = is_ignore;
    }

-- ---- items of other kinds

pub no_function : (i : Item) (rest : List program.Item) → ((f : _) → i ≡ items.Function f → ⊥)
    → functions_of (item_of i ∷ rest) ≡ functions_of rest
no_function (items.Table d) rest other = refl
no_function (items.Function f) rest other = absurd (other f refl)
no_function (items.Static s) rest other = refl
no_function (items.Statement s) rest other = refl

pub no_static : (i : Item) (rest : List program.Item) → ((s : _) → i ≡ items.Static s → ⊥)
    → statics_of (item_of i ∷ rest) ≡ statics_of rest
no_static (items.Table d) rest other = refl
no_static (items.Function f) rest other = refl
no_static (items.Static s) rest other = absurd (other s refl)
no_static (items.Statement s) rest other = refl

pub no_statement : (i : Item) (rest : List program.Item) → ((s : _) → i ≡ items.Statement s → ⊥)
    → statements_of (item_of i ∷ rest) ≡ statements_of rest
no_statement (items.Table d) rest other = refl
no_statement (items.Function f) rest other = refl
no_statement (items.Static s) rest other = refl
no_statement (items.Statement s) rest other = absurd (other s refl)

pub no_table : (i : Item) (rest : List program.Item) → ((d : _) → i ≡ items.Table d → ⊥)
    → tables_of (item_of i ∷ rest) ≡ tables_of rest
no_table (items.Table d) rest other = absurd (other d refl)
no_table (items.Function f) rest other = refl
no_table (items.Static s) rest other = refl
no_table (items.Statement s) rest other = refl
