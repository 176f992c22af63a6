-- What is declared before a part of a program is a front of what all of it declares; and where the code of functions
-- stands.
use Rattle.std.proofs.Common.{◌≡◌, ◌∙◌, ℕ, zero, suc, ◌+◌, List, [], ◌∷◌, ◌++◌, length, map, Some, refl, sym, subst, append_assoc}
use Rattle.std.specs.Prelude.{slice_get, pos}
use Rattle.sz_types.specs.Data.{Shape}
use Rattle.sz_types.specs.Tables.{Declaration}
use Rattle.sz_value.specs.Data.{Datum}
use Rattle.sz_core.specs.Programs.{Signature, Function, Static, Item, functions_of, statics_of, tables_of}
use Rattle.sz_core.specs.Programs as items
use Rattle.sz_core.specs.Sound.{Declared, IsFunction, AreItems, record_sight, seen_after}
use Rattle.sz_instr.specs.declared.line.Line.{Line}
use Rattle.sz_instr.specs.declared.routine.Routine.{Routine}
use Rattle.sz_gen_rules.specs.Tables.{Tables, HasConstant}
use Rattle.sz_gen_rules.specs.Runs.{HasAt}
use Rattle.sz_gen_rules.proofs.Steps.{has_front, has_back}
use Rattle.sz_gen_rules.specs.ProgramCode.{function_code, functions_code, function_routines}
use Rattle.sz_gen_rules.specs.NamedStatements.{StmsHaveNames, FunctionsHaveNames}

-- what is got from a front is got from the whole
abbrev pub IsFrontOf : {A : Type 0} → List A → List A → Type 0
IsFrontOf {A} front whole = (n : ℕ) (x : A) → slice_get front n ≡ Some x → slice_get whole n ≡ Some x

pub front_of : {A : Type 0} (front rest : List A) → IsFrontOf front (front ++ rest)
front_of [] rest n x h = absurd cc
front_of (y ∷ front) rest zero x h = h
front_of (y ∷ front) rest (suc n) x h = front_of front rest n x h

is_front : {A : Type 0} (front rest whole : List A) → whole ≡ front ++ rest → IsFrontOf front whole
is_front front rest whole e = subst (λ l. IsFrontOf front l) (sym e) (front_of front rest)

-- what is declared before items, and by them, is all that is declared
pub record IsWhole (d : Declared) (rest : List Item) (whole : Declared) : Type 0 where
  pub statics : whole.statics ≡ d.statics ++ map (λ (s : Static). s.type) (statics_of rest)
  pub functions : whole.functions ≡ d.functions ++ map (λ (f : Function). f.signature) (functions_of rest)
  pub tables : whole.tables ≡ d.tables ++ tables_of rest

-- what is declared by now is a front of all
pub record IsBefore (d whole : Declared) : Type 0 where
  pub statics : IsFrontOf d.statics whole.statics
  pub functions : IsFrontOf d.functions whole.functions
  pub tables : IsFrontOf d.tables whole.tables

pub is_before : (d : Declared) (rest : List Item) (whole : Declared) → IsWhole d rest whole → IsBefore d whole
is_before d rest whole w = record {
  statics = is_front d.statics _ whole.statics w.statics;
  functions = is_front d.functions _ whole.functions w.functions;
  tables = is_front d.tables _ whole.tables w.tables;
}

pub after_table : (d : Declared) (t : Declaration) (rest : List Item) (whole : Declared)
    → IsWhole d (items.table t ∷ rest) whole → IsWhole (record d { tables = d.tables ++ t ∷ [] }) rest whole
after_table d t rest whole w = record {
  statics = w.statics;
  functions = w.functions;
  tables = w.tables ∙ sym (append_assoc d.tables (t ∷ []) (tables_of rest));
}

pub after_function : (d : Declared) (f : Function) (rest : List Item) (whole : Declared)
    → IsWhole d (items.function f ∷ rest) whole
    → IsWhole (record d { functions = d.functions ++ f.signature ∷ [] }) rest whole
after_function d f rest whole w = record {
  statics = w.statics;
  functions = w.functions
      ∙ sym (append_assoc d.functions (f.signature ∷ []) (map (λ (g : Function). g.signature) (functions_of rest)));
  tables = w.tables;
}

pub after_static : (d : Declared) (s : Static) (rest : List Item) (whole : Declared)
    → IsWhole d (items.static s ∷ rest) whole → IsWhole (record d { statics = d.statics ++ s.type ∷ [] }) rest whole
after_static d s rest whole w = record {
  statics = w.statics ∙ sym (append_assoc d.statics (s.type ∷ []) (map (λ (t : Static). t.type) (statics_of rest)));
  functions = w.functions;
  tables = w.tables;
}

-- a function whose signature is among those of functions
pub signed : (fs : List Function) (f : ℕ) (g : Signature)
    → slice_get (map (λ (h : Function). h.signature) fs) f ≡ Some g
    → (h : Function) × (slice_get fs f ≡ Some h) × (h.signature ≡ g)
signed [] f g e = absurd cc
signed (h ∷ fs) zero g e = (h, refl, cc)
signed (h ∷ fs) (suc f) g e = signed fs f g e

module _ (tables : Tables) where
  -- the code of a function stands in lines, with its routine among routines; the function is sound after what is
  -- declared before it
  pub record Stands (lines : List Line) (routines : List Routine) (whole : Declared) (f : ℕ)
      (h : Function) : Type 0 where
    pub entry : ℕ
    pub known : slice_get routines f
        ≡ Some (record { entry = entry; params = length h.signature.parameters; locals = length h.locals })
    pub has : HasAt lines entry (function_code tables h entry)
    pub declared : Declared
    pub sound : IsFunction declared h
    pub before : IsBefore (record declared { functions = declared.functions ++ h.signature ∷ [] }) whole
    pub zero : HasConstant tables (Datum.int (pos 0))
    pub names : StmsHaveNames tables h.body

  pub stands : (lines : List Line) (whole : Declared) (locals : List Shape) (seen : List ℕ) (d : Declared)
      (rest : List Item) → AreItems locals seen d rest → IsWhole d rest whole → FunctionsHaveNames tables
      (functions_of rest) → (at : ℕ) → HasAt lines at (functions_code tables (functions_of rest) at)
      → (f : ℕ) (h : Function) → slice_get (functions_of rest) f ≡ Some h
      → Stands lines (function_routines tables (functions_of rest) at) whole f h
  unfolding AreItems
  stands lines whole locals seen d [] sound w of at has f h is = absurd cc
  stands lines whole locals seen d (items.table t ∷ rest) sound w of at has f h is =
      stands lines whole locals seen
      (record d { tables = d.tables ++ t ∷ [] }) rest sound.1 (after_table d t rest whole w) of at has f h is
  stands lines whole locals seen d (items.static s ∷ rest) sound w of at has f h is =
      stands lines whole locals seen
      (record d { statics = d.statics ++ s.type ∷ [] }) rest sound.1 (after_static d s rest whole w) of at has f h is
  stands lines whole locals seen d (items.statement c ∷ rest) sound w of at has f h is =
      stands lines whole locals (seen_after (record_sight locals seen d) c).seen d rest sound.1
      (record { statics = w.statics; functions = w.functions; tables = w.tables }) of at has f h is
  stands lines whole locals seen d (items.function g ∷ rest) sound w of at has zero h is =
      let same : g ≡ h = cc in
      subst (λ k. Stands lines (function_routines tables (g ∷ functions_of rest) at) whole 0 k) same (record {
        entry = at;
        known = refl;
        has = has_front lines at (function_code tables g at) _ has;
        declared = d;
        sound = sound.0;
        before = is_before (record d { functions = d.functions ++ g.signature ∷ [] }) rest whole
            (after_function d g rest whole w);
        zero = of.0;
        names = of.1;
      })
  stands lines whole locals seen d (items.function g ∷ rest) sound w of at has (suc f) h is =
      let next = stands lines whole locals seen
      (record d { functions = d.functions ++ g.signature ∷ [] }) rest sound.1 (after_function d g rest whole w) of.2
      (at + length (function_code tables g at)) (has_back lines at (function_code tables g at) _ has) f h is in
      record {
        entry = next.entry;
        known = next.known;
        has = next.has;
        declared = next.declared;
        sound = next.sound;
        before = next.before;
        zero = next.zero;
        names = next.names;
      }
