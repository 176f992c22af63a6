-- How pieces of code in the making are put together.
use Rattle.std.proofs.Common.{◌≡◌, ◌∙◌, ℕ, suc, ◌+◌, ◌<◌, ◌≤◌, List, [], ◌∷◌, ◌++◌, length, Bool, true, false, Option, refl, sym, ap, subst, append_assoc, append-nil, length-append, if◌then◌else◌, arith, map}
use Rattle.std.specs.Ordering.{is_eq}
use Rattle.sz_types.specs.Data.{Shape}
use Rattle.sz_types.specs.Same.{alike}
use Rattle.sz_types.specs.declared.place.Place.{Place}
use Rattle.sz_core.specs.Sound.{BeginsWith}
use Rattle.sz_types.proofs.ForCallers.{alike_equal, alike_itself}
use Rattle.sz_value.specs.Data.{Datum}
use Rattle.sz_value.specs.Order.{compare}
use Rattle.sz_instr.specs.declared.instr.Instr.{Instr}
use Rattle.sz_instr.specs.declared.instr.Instr.TheVariants.{Push, Tick}
use Rattle.sz_gen_expr.proofs.Numbers.{named_by, begins_with_one, only_itself, is_itself}
use Rattle.sz_instr.specs.declared.line.Line.{Line}
use Rattle.sz_gen_expr.specs.declared.builder.Builder.{Builder}
use Rattle.sz_gen_rules.specs.Tables.{Tables, constant_number, number_in, type_number, type_number_in, HasConstant, HasType, line}
use Rattle.sz_gen_rules.specs.ExpressionCode.{followed, closed, decided, changing, conversion, expression_code, form_code, count_of, pair_count_of}
use Rattle.sz_gen_expr.proofs.Patches.{decided_lines}
use Rattle.sz_gen_rules.specs.Named.{HasNames, HasTarget, FormHasNames}
use Rattle.sz_types.specs.Seen.{seen as shape_of}
use Rattle.sz_core.specs.Nodes.{Node, Form, nodes_of, pairings_of}
use Rattle.sz_core.specs.declared.expr.CoreExpr.{CoreExpr}
use Rattle.sz_core.specs.View.{node_of, form_of}
use Rattle.sz_gen_expr.specs.Building.{with_constant, with_type, aimed, tables_made, Grows, Appends, AppendsLine, AppendsNode, AppendsClosed, LandsBy, Lands, Nothing}

pub begins_itself : {A : Type 0} (xs : List A) → BeginsWith xs xs
begins_itself xs = ([], sym (append-nil xs))

pub begins_on : {A : Type 0} (xs ys zs : List A) → BeginsWith xs ys → BeginsWith ys zs → BeginsWith xs zs
begins_on xs ys zs h k = (h.0 ++ k.0, k.1 ∙ ap (λ l. l ++ k.0) h.1 ∙ append_assoc xs h.0 k.0)

pub grows_itself : (t : Tables) → Grows t t
grows_itself t = record { constants = begins_itself t.constants; types = begins_itself t.types }

pub grows_on : {a b c : Tables} → Grows a b → Grows b c → Grows a c
grows_on {a} {b} {c} h k = record {
  constants = begins_on a.constants b.constants c.constants h.constants k.constants;
  types = begins_on a.types b.types c.types h.types k.types;
}

-- tables that are the same
pub grows_same : (a b : Tables) → b.constants ≡ a.constants → b.types ≡ a.types → Grows a b
grows_same a b c t = record {
  constants = ([], c ∙ sym (append-nil a.constants));
  types = ([], t ∙ sym (append-nil a.types));
}

-- a line that was given its target
pub landed_grows : {change : Instr → ℕ → Option Instr} {old new : Builder} {at : ℕ} → LandsBy change old new at
    → Grows (tables_made old) (tables_made new)
landed_grows {change} {old} {new} h = grows_same (tables_made old) (tables_made new) h.constants h.types

-- one line
pub pushed : (old new : Builder) (i : Instr) (charge : ℕ) (place : Place)
    → new.lines ≡ old.lines ++ line i charge place ∷ [] → new.functions ≡ old.functions → new.statics ≡ old.statics
    → new.constants ≡ old.constants → new.types ≡ old.types → AppendsLine old new (λ tables. i) charge place Nothing
pushed old new i charge place lines functions statics constants types = record {
  grows = grows_same (tables_made old) (tables_made new) constants types;
  lines = λ tables grows. lines;
  names = λ tables grows. tt;
  functions = functions;
  statics = statics;
}

-- one piece after another
pub after : {old between new : Builder} {first second : Tables → ℕ → List Line} {names names2 : Tables → Type 0}
    → Appends old between first names → Appends between new second names2
    → Appends old new (λ tables at. followed at (first tables at) (second tables))
    (λ tables. names tables × names2 tables)
after {old} {between} {new} {first} {second} {names} {names2} h k = record {
  grows = grows_on h.grows k.grows;
  lines = λ tables grows.
      let one = h.lines tables (grows_on k.grows grows) in
      let code = first tables (length old.lines) in
      k.lines tables grows
      ∙ (λ j. one j ++ second tables ((ap length one ∙ length-append old.lines code) j))
      ∙ append_assoc old.lines code (second tables (length old.lines + length code));
  names = λ tables grows. (h.names tables (grows_on k.grows grows), k.names tables grows);
  functions = k.functions ∙ h.functions;
  statics = k.statics ∙ h.statics;
}

-- a line that pushes a constant, which has its number by then
pub constant_pushed : {old between new : Builder} (d : Datum) (m charge : ℕ) (place : Place)
    → m ≡ number_in old.constants d → between.constants ≡ with_constant old.constants d → between.types ≡ old.types
    → between.lines ≡ old.lines → between.functions ≡ old.functions → between.statics ≡ old.statics
    → AppendsLine between new (λ tables. Push m) charge place Nothing
    → AppendsLine old new (λ tables. Push (constant_number tables d)) charge place (λ tables. HasConstant tables d)
constant_pushed {old} {between} {new} d m charge place number constants types lines functions statics h =
    let test : Datum → Bool = λ c. is_eq (compare d c) in
    let named : (tables : Tables) → Grows (tables_made new) tables
    → (constant_number tables d ≡ number_in old.constants d) × HasConstant tables d =
    λ tables grows. named_by test d (is_itself d)
    (only_itself d) old.constants between.constants tables.constants constants
    (grows_on h.grows grows).constants in
    record {
      grows = grows_on (record {
        constants = begins_with_one test old.constants between.constants d constants;
        types = ([], types ∙ sym (append-nil old.types));
      }) h.grows;
      lines = λ tables grows. h.lines tables grows
          ∙ (λ j. lines j ++ line (Push ((number ∙ sym (named tables grows).0) j)) charge place ∷ []);
      names = λ tables grows. (named tables grows).1;
      functions = h.functions ∙ functions;
      statics = h.statics ∙ statics;
    }

-- a line that converts to a type, which has its number by then
pub type_pushed : {old between new : Builder} (from to : Shape) (m : ℕ) (place : Place) → alike from to ≡ false
    → m ≡ type_number_in old.types to → between.types ≡ with_type old.types to → between.constants ≡ old.constants
    → between.lines ≡ old.lines → between.functions ≡ old.functions → between.statics ≡ old.statics
    → AppendsLine between new (λ tables. changing to m) 1 place Nothing
    → AppendsLine old new (λ tables. conversion tables from to) 1 place (λ tables. HasTarget tables (alike from to) to)
type_pushed {old} {between} {new} from to m place other number types constants lines functions statics h =
    let test : Shape → Bool = λ s. alike s to in
    let named : (tables : Tables) → Grows (tables_made new) tables
    → (type_number tables to ≡ type_number_in old.types to) × HasType tables to =
    λ tables grows. named_by test to (alike_itself to)
    (λ s h. alike_equal s to h) old.types between.types tables.types types (grows_on h.grows grows).types in
    record {
      grows = grows_on (record {
        constants = ([], constants ∙ sym (append-nil old.constants));
        types = begins_with_one test old.types between.types to types;
      }) h.grows;
      lines = λ tables grows. h.lines tables grows
          ∙ (λ j. lines j ++ line (changing to ((number ∙ sym (named tables grows).0) j)) 1 place ∷ [])
          ∙ ap (λ (b : Bool). old.lines ++ line (if b then Tick else changing to (type_number tables to)) 1 place
          ∷ []) (sym other);
      names = λ tables grows. subst (λ b. HasTarget tables b to) (sym other) (named tables grows).1;
      functions = h.functions ∙ functions;
      statics = h.statics ∙ statics;
    }

-- a line that keeps the type
pub kept_pushed : (old new : Builder) (from to : Shape) (place : Place) → alike from to ≡ true
    → AppendsLine old new (λ tables. Tick) 1 place Nothing → AppendsLine old new
    (λ tables. conversion tables from to) 1 place (λ tables. HasTarget tables (alike from to) to)
kept_pushed old new from to place same h = record {
  grows = h.grows;
  lines = λ tables grows. h.lines tables grows
      ∙ ap (λ (b : Bool). old.lines ++ line (if b then Tick else changing to (type_number tables to)) 1 place ∷ [])
      (sym same);
  names = λ tables grows. subst (λ b. HasTarget tables b to) (sym same) tt;
  functions = h.functions;
  statics = h.statics;
}

-- code and the line that closes it
pub closes : {old between new : Builder} {code : Tables → ℕ → List Line} {i : Tables → Instr} {place : Place}
    {named named2 : Tables → Type 0} → Appends old between code named → AppendsLine between new i 1 place named2
    → Appends old new (λ tables at. closed (code tables at) (i tables) place) (λ tables. named tables × named2 tables)
closes h k = after h k

-- the last name counts for nothing
pub no_more : {old new : Builder} {code : Tables → ℕ → List Line} {named : Tables → Type 0}
    → Appends old new code (λ tables. named tables × Unit {0}) → Appends old new code named
no_more h = record {
  grows = h.grows;
  lines = h.lines;
  names = λ tables grows. (h.names tables grows).0;
  functions = h.functions;
  statics = h.statics;
}

-- nothing
pub none : (b : Builder) → Appends b b (λ tables at. []) Nothing
none b = record {
  grows = grows_itself (tables_made b);
  lines = λ tables grows. sym (append-nil b.lines);
  names = λ tables grows. tt;
  functions = refl;
  statics = refl;
}

-- the test passes over the right operand to the tick of the whole
pub decided_made : {old m1 m2 m3 new : Builder} {right : Tables → ℕ → List Line} {named : Tables → Type 0}
    (test : Instr) (place : Place) (at : ℕ) → at ≡ length old.lines
    → AppendsLine old m1 (λ tables. test) 0 place Nothing → Appends m1 m2 right named → Lands m2 m3 at
    → AppendsLine m3 new (λ tables. Tick) 1 place Nothing
    → Appends old new (λ tables at. decided (aimed test) place (right tables) at) named
decided_made {old} {m1} {m2} {m3} {new} {right} test place at is_at h1 h2 l1 h3 =
    let g2 = grows_on (landed_grows l1) h3.grows in
    let g1 = grows_on h2.grows g2 in
    record {
      grows = grows_on h1.grows g1;
      lines = λ tables grows. decided_lines old.lines m1.lines m2.lines m3.lines new.lines (right tables)
          test place at is_at (h1.lines tables (grows_on g1 grows))
          (h2.lines tables (grows_on g2 grows)) l1.lines (h3.lines tables grows);
      names = λ tables grows. h2.names tables (grows_on g2 grows);
      functions = h3.functions ∙ l1.functions ∙ h2.functions ∙ h1.functions;
      statics = h3.statics ∙ l1.statics ∙ h2.statics ∙ h1.statics;
    }

-- other names
pub renamed : {old new : Builder} {code : Tables → ℕ → List Line} {named named2 : Tables → Type 0}
    → ((tables : Tables) → named tables → named2 tables) → Appends old new code named → Appends old new code named2
renamed more h = record {
  grows = h.grows;
  lines = h.lines;
  names = λ tables grows. more tables (h.names tables grows);
  functions = h.functions;
  statics = h.statics;
}

-- code and the line that closes it, which names nothing
pub closed_by : {old between new : Builder} {code : Tables → ℕ → List Line} {i : Tables → Instr} {place : Place}
    {named : Tables → Type 0} → Appends old between code named → AppendsLine between new i 1 place Nothing
    → Appends old new (λ tables at. closed (code tables at) (i tables) place) named
closed_by h k = no_more (closes h k)

-- code, and an expression after it with the line that closes both
pub closed_after : {old between new : Builder} {first : Tables → ℕ → List Line} {named : Tables → Type 0} (e : Node)
    (i : Instr) (place : Place) → Appends old between first named → AppendsClosed between new e i place
    → Appends old new (λ tables at. closed (followed at (first tables at) (expression_code tables e)) i place)
    (λ tables. named tables × HasNames tables e)
closed_after {old} {between} {new} {first} e i place h k =
    let whole = after h k in
    record {
      grows = whole.grows;
      lines = λ tables grows.
          let code = first tables (length old.lines) in
          whole.lines tables grows
          ∙ ap (λ l. old.lines ++ l)
          (sym (append_assoc code (expression_code tables e (length old.lines + length code)) (line i 1 place ∷ [])));
      names = whole.names;
      functions = whole.functions;
      statics = whole.statics;
    }

-- three pieces, one after the other
pub three_after : {old m1 m2 new : Builder} {first second third : Tables → ℕ → List Line}
    {named1 named2 named3 : Tables → Type 0}
    → Appends old m1 first named1 → Appends m1 m2 second named2 → Appends m2 new third named3
    → Appends old new (λ tables at. followed at (followed at (first tables at) (second tables)) (third tables))
    (λ tables. named1 tables × named2 tables × named3 tables)
three_after h k l = renamed (λ tables n. (n.0.0, n.0.1, n.1)) (after (after h k) l)

-- an expression of a form
pub of_form : {old new : Builder} (e : CoreExpr) (form : Form) → form_of e.form ≡ form
    → Appends old new (λ tables at. form_code tables e.place (shape_of e.ty) form at)
    (λ tables. FormHasNames tables (shape_of e.ty) form) → AppendsNode old new (node_of e)
of_form {old} {new} e form is h =
    subst (λ f. Appends old new (λ tables at. form_code tables e.place (shape_of e.ty) f at)
    (λ tables. FormHasNames tables (shape_of e.ty) f)) (sym is) h

-- ---- lengths

-- code in the making gets no shorter
pub no_shorter : {old new : Builder} {code : Tables → ℕ → List Line} {named : Tables → Type 0}
    → Appends old new code named → length old.lines ≤ length new.lines
no_shorter {old} {new} {code} h =
    let now = tables_made new in
    omega (arith, ap length (h.lines now (grows_itself now)), length-append old.lines (code now (length old.lines)))

-- a line makes it longer by one
pub one_longer : {old new : Builder} {i : Tables → Instr} {charge : ℕ} {place : Place} {named : Tables → Type 0}
    → AppendsLine old new i charge place named → length new.lines ≡ suc (length old.lines)
one_longer {old} {new} {i} {charge} {place} h =
    let now = tables_made new in
    omega (arith, ap length (h.lines now (grows_itself now)), length-append old.lines (line (i now) charge place ∷ []))

-- a line just appended is there, and stays
pub starts : {old new : Builder} {i : Tables → Instr} {charge : ℕ} {place : Place} {named : Tables → Type 0} {at : ℕ}
    → at ≡ length old.lines → AppendsLine old new i charge place named → at < length new.lines
starts is h = omega (arith, is, one_longer h)

pub stays : {old new : Builder} {code : Tables → ℕ → List Line} {named : Tables → Type 0} {at : ℕ}
    → at < length old.lines → Appends old new code named → at < length new.lines
stays within h = omega (arith, within, no_shorter h)

-- as many as the list is long
pub count_is : {A : Type 0} (f : A → Node) (xs : List A) → count_of (nodes_of (map f xs)) ≡ length xs
count_is f [] = refl
count_is f (x ∷ xs) = ap suc (count_is f xs)

pub pair_count_is : {A : Type 0} (f : A → Node × Node) (xs : List A)
    → pair_count_of (pairings_of (map f xs)) ≡ length xs
pair_count_is f [] = refl
pair_count_is f (x ∷ xs) = ap suc (pair_count_is f xs)
