-- The expressions that are parts of statements: the indexes of a path.
use Rattle.std.proofs.Common.{◌≡◌, ℕ, ◌+◌, ◌≤◌, List, [], ◌∷◌, length, refl, arith, length-append}
use Rattle.sz_types.specs.Data.{Shape}
use Rattle.sz_core.specs.Nodes.{type_of}
use Rattle.sz_core.specs.Statements.{Step, at_index, at_field}
use Rattle.sz_core.specs.Typing.{Sight, IsNode}
use Rattle.sz_core.specs.Sound.{LeadTo}
use Rattle.sz_instr.specs.declared.code.Code.{Code}
use Rattle.sz_mean.specs.Expressions.{Setting, eval, eval_indexes}
use Rattle.sz_instr.specs.States.{State, After}
use Rattle.sz_instr.specs.Runs.{ComesTo}
use Rattle.sz_gen_rules.specs.Tables.{Tables, tables_in}
use Rattle.sz_gen_rules.specs.ExpressionCode.{expression_code, indexes_code}
use Rattle.sz_gen_rules.specs.Named.{StepsHaveNames}
use Rattle.sz_gen_rules.specs.Runs.{AfterAll, CallsBelow, Ready, HasAt}
use Rattle.sz_gen_rules.proofs.Steps.{has_front, has_back}
use Rattle.sz_gen_rules.proofs.Composites.{none_run, after_head}
use Rattle.sz_gen_rules.proofs.Expressions.{eval_runs}

-- the types of the indexes among steps, in order
abbrev pub index_types : List Step → List Shape
index_types [] = []
index_types (at_index e ∷ steps) = type_of e ∷ index_types steps
index_types (at_field n ∷ steps) = index_types steps

-- each index among steps has its type
abbrev pub AreIndexes : Sight → List Step → Type 0
AreIndexes g [] = Unit {0}
AreIndexes g (at_index e ∷ steps) = IsNode g e × AreIndexes g steps
AreIndexes g (at_field n ∷ steps) = AreIndexes g steps

-- so it is with those of a path
pub indexes_of_path : (g : Sight) (t : Shape) (steps : List Step) (u : Shape) → LeadTo g t steps u → AreIndexes g steps
unfolding LeadTo
indexes_of_path g t [] u h = tt
indexes_of_path g (Shape.array t) (at_index e ∷ steps) u h = (h.0, indexes_of_path g t steps u h.2)
indexes_of_path g (Shape.mapping k v) (at_index e ∷ steps) u h = (h.0, indexes_of_path g v steps u h.3)
indexes_of_path g (Shape.tuple fs) (at_field n ∷ steps) u h = indexes_of_path g h.0 steps u h.2
indexes_of_path g (Shape.proto fs) (at_field n ∷ steps) u h = indexes_of_path g h.0 steps u h.2
indexes_of_path g t (step ∷ steps) u h = absurd h

module _ (code : Code) (g : Sight) (setting : Setting) (room limit : ℕ)
    (below : CallsBelow code g.functions setting.statics room limit setting.calls) where
  abbrev tables : Tables
  tables = tables_in code

  pub indexes_run : (steps : List Step) (s : State) (end : ℕ) (x : After) → AreIndexes g steps
      → StepsHaveNames tables steps → Ready g setting room s → s.world.left ≤ limit
      → HasAt code.lines s.at (indexes_code tables steps s.at) → s.at + length (indexes_code tables steps s.at) ≡ end
      → AfterAll code (index_types steps) s end x (eval_indexes setting s.locals steps s.world) → ComesTo code s x
  indexes_run [] s end x sound named ready low has ends h = none_run code s end x ends h
  indexes_run (at_index e ∷ steps) s end x sound named ready low has ends h =
      let ca = expression_code tables e s.at in
      let at1 = s.at + length ca in
      let cb = indexes_code tables steps at1 in
      eval_runs code g setting room limit below e s at1 x sound.0 named.0 ready low
      (has_front code.lines s.at ca cb has) refl (after_head code (type_of e) (index_types steps) s end at1 x
      (eval_indexes setting s.locals steps) (λ y w kept h1.
      indexes_run steps (record s { at = at1; stack = y ∷ s.stack; world = w }) end x sound.1 named.1 ready
      (omega (arith, kept.left, low)) (has_back code.lines s.at ca cb has)
      (omega (arith, ends, length-append ca cb)) h1) (eval setting s.locals e s.world) h)
  indexes_run (at_field n ∷ steps) s end x sound named ready low has ends h =
      indexes_run steps s end x sound named ready low has ends h
