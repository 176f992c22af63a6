-- What is known in front of a statement at the top level, and what stays so after it.
use Rattle.std.proofs.Common.{◌≡◌, ℕ, List, [], ◌∷◌, ◌++◌, length, Some, refl, ap, ◌∙◌}
use Rattle.std.specs.Prelude.{slice_get}
use Rattle.sz_types.specs.Data.{Shape}
use Rattle.sz_types.specs.Tables.{Declaration}
use Rattle.sz_tree.specs.Names.{Ident}
use Rattle.sz_core.specs.Programs.{Signature, Item}
use Rattle.sz_core.specs.Typing.{Sight}
use Rattle.sz_core.specs.Sound.{BeginsWith, Declared, record_sight, AreItems}
use Rattle.sz_check_rules.specs.Names.{Block, Meaning}
use Rattle.sz_check_rules.specs.Names as names
use Rattle.sz_check_rules.specs.Scene.{Scene}
use Rattle.sz_check_rules.specs.JudgingPrograms.{TopScene, Found, blocks_of, with_blocks}
use Rattle.sz_check_rules.proofs.Holds.{good}
use Rattle.sz_check_rules.proofs.Meanings.{declared}
use Rattle.sz_check_rules.proofs.Sights.{Fits, IsWider, all_fit_wider}
use Rattle.sz_check_rules.proofs.SceneLemmas.{Sees, get_after, get_before}

-- what is known in front of a statement at the top level is true of what is declared before it, and of what is seen
-- there
pub record Knows (locals : List Shape) (seen : List ℕ) (d : Declared) (k : TopScene) : Type 0 where
  pub sees : Sees (record_sight locals seen d) k.scene
  pub tables : k.tables ≡ length d.tables
  pub statics : k.statics ≡ length d.statics
  pub functions : k.functions ≡ d.functions

-- after items that are sound, others are sound, and what is known there is true
pub record Carries (locals : List Shape) (seen : List ℕ) (d : Declared) (found : Found) : Type 0 where
  pub seen_there : List ℕ
  pub there : Declared
  pub knows : Knows locals seen_there there found.known
  pub items : (rest : List Item) → AreItems locals seen_there there rest → AreItems locals seen d (found.items ++ rest)

-- what is known in front goes on after the statement, and its items are sound
pub record IsFoundAfter (k : TopScene) (found : Found) : Type 0 where
  pub grows : BeginsWith k.scene.locals found.known.scene.locals
  pub carries : (locals : List Shape) (seen : List ℕ) (d : Declared) → Knows locals seen d k
      → BeginsWith found.known.scene.locals locals → Carries locals seen d found

-- ---- more is declared

-- what is declared, with one thing more
abbrev pub with_static : Shape → Declared → Declared
with_static t d = record d { statics = d.statics ++ t ∷ [] }

abbrev pub with_function : Signature → Declared → Declared
with_function f d = record d { functions = d.functions ++ f ∷ [] }

abbrev pub with_table : Declaration → Declared → Declared
with_table t d = record d { tables = d.tables ++ t ∷ [] }

-- the second has what the first has
pub record IsMore (d e : Declared) : Type 0 where
  pub statics : (n : ℕ) (t : Shape) → slice_get d.statics n ≡ Some t → slice_get e.statics n ≡ Some t
  pub functions : (n : ℕ) (f : Signature) → slice_get d.functions n ≡ Some f → slice_get e.functions n ≡ Some f
  pub tables : (n : ℕ) (t : Declaration) → slice_get d.tables n ≡ Some t → slice_get e.tables n ≡ Some t

-- that is more
pub more_statics : (d : Declared) (t : Shape) → IsMore d (with_static t d)
more_statics d t = record {
  statics = λ n u h. get_before d.statics (t ∷ []) n u h;
  functions = λ n f h. h;
  tables = λ n u h. h;
}

pub more_functions : (d : Declared) (f : Signature) → IsMore d (with_function f d)
more_functions d f = record {
  statics = λ n t h. h;
  functions = λ n e h. get_before d.functions (f ∷ []) n e h;
  tables = λ n t h. h;
}

pub more_tables : (d : Declared) (t : Declaration) → IsMore d (with_table t d)
more_tables d t = record {
  statics = λ n u h. h;
  functions = λ n f h. h;
  tables = λ n u h. get_before d.tables (t ∷ []) n u h;
}

-- what is true of what is seen in front of a declaration is so after it
pub sees_on : (locals : List Shape) (seen : List ℕ) (d e : Declared) (s : Scene) → IsMore d e
    → Sees (record_sight locals seen d) s → Sees (record_sight locals seen e) s
sees_on locals seen d e s more is =
    record {
      fit = all_fit_wider (record_sight locals seen d) (record_sight locals seen e) s.blocks wider is.fit;
      formed = is.formed;
      emits = refl;
      numbers = is.numbers;
      fixed = tt;
    }
  where
    wider : IsWider (record_sight locals seen d) (record_sight locals seen e)
    wider = record {
      seen = λ n h. h;
      locals = λ n t h. h;
      statics = more.statics;
      functions = more.functions;
      tables = more.tables;
      input = refl;
      free = λ n c h. h;
    }

-- what is last in a list of so many
pub last_is : {A : Type 0} (xs : List A) (x : A) (n : ℕ) → n ≡ length xs → slice_get (xs ++ x ∷ []) n ≡ Some x
last_is xs x n is = ap (λ k. slice_get (xs ++ x ∷ []) k) is ∙ get_after xs [] x

-- a name more at the top level
pub declares : (g : Sight) (n : Ident) (m : Meaning) (k : TopScene) (blocks : List Block)
    → names.declare n m (blocks_of k) ≡ good blocks → Fits g m → Sees g k.scene → Sees g (with_blocks k blocks).scene
declares g n m k blocks is fits h = record {
  fit = (declared (Fits g) n m (blocks_of k) fits h.fit).holds blocks is;
  formed = h.formed;
  emits = h.emits;
  numbers = h.numbers;
  fixed = h.fixed;
}
