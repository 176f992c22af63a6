-- Where a path leads that is assigned to, or its first refusal.
use Rattle.std.specs.Prelude.{ℕ, List, [], ◌∷◌, ◌++◌, Bool, true, false, Some, None, Ok}
use Rattle.sz_types.specs.Data.{Shape}
use Rattle.sz_types.specs.declared.place.Place.{Place}
use Rattle.sz_tree.specs.Names.{Ident}
use Rattle.sz_tree.specs.Expressions.{Exp}
use Rattle.sz_tree.specs.Statements.{StepForm, PathForm}
use Rattle.sz_tree.specs.Statements as trees
use Rattle.sz_core.specs.Nodes.{Node}
use Rattle.sz_core.specs.Statements.{Step, at_index, at_field}
use Rattle.sz_check_rules.specs.Refusals.{Judged, ◌>>=◌, unless, wrong_kind, wrong_type, not_assignable}
use Rattle.sz_check_rules.specs.Names.{Meaning, look_up}
use Rattle.sz_check_rules.specs.Names as names
use Rattle.sz_check_rules.specs.Agreeing.{agrees}
use Rattle.sz_check_rules.specs.JudgingParts.{whole, field_in}
use Rattle.sz_check_rules.specs.Scene.{Scene}
use Rattle.sz_check_rules.specs.Scenes.{judge}

-- where a path has come to: the number of its variable, the steps so far, the type of what is there, and whether it
-- can be assigned to
pub record Target : Type 0 where
  pub local : ℕ
  pub steps : List Step
  pub type : Shape
  pub assignable : Bool

-- where a path begins
abbrev pub target_of : Ident → Meaning → Judged Target
target_of n (names.variable k t) = Ok (record { local = k; steps = []; type = t; assignable = true })
target_of n (names.quantified k t) = Ok (record { local = k; steps = []; type = t; assignable = false })
target_of n (names.static k t) = Ok (record { local = k; steps = []; type = t; assignable = false })
target_of n names.input = Ok (record { local = 0; steps = []; type = Shape.bytes; assignable = false })
target_of n _ = wrong_kind n

-- one step on, to a value of this type
abbrev pub stepped : Target → Step → Shape → Target
stepped t step u = record t { steps = t.steps ++ step ∷ []; type = u }

-- a step by an index: to an element, to the value of a key, or into a string, where nothing can be assigned
abbrev pub indexed : Place → Target → Shape → Exp → Node → Judged Target
indexed p t (Shape.array u) e n = do
  _ ← whole e n
  Ok (stepped t (at_index n) u)
indexed p t (Shape.mapping k v) e n = do
  _ ← agrees (Some k) e n
  Ok (stepped t (at_index n) v)
indexed p t Shape.str e n = do
  _ ← whole e n
  Ok (record (stepped t (at_index n) Shape.int) { assignable = false })
indexed p t Shape.bytes e n = do
  _ ← whole e n
  Ok (record (stepped t (at_index n) Shape.int) { assignable = false })
indexed p t u e n = wrong_type p

-- the next step of a path that begins at this place
abbrev pub judge_step : Scene → Place → Target → StepForm → Judged Target
judge_step s p t (trees.at_index e) = do
  n ← judge s None e
  indexed p t t.type e n
judge_step s p t (trees.at_field f) = do
  x ← field_in p t.type f
  Ok (stepped t (at_field x.place) x.type)

-- the steps, one after the other
unfoldable pub judge_steps : Scene → Place → Target → List StepForm → Judged Target
judge_steps s p t [] = Ok t
judge_steps s p t (step ∷ steps) = do
  next ← judge_step s p t step
  judge_steps s p next steps

-- what a path that begins with this name has come to, where it can be assigned to
abbrev pub assignable : Ident → Target → Judged Target
assignable n t = do
  _ ← unless t.assignable (not_assignable n)
  Ok t

-- a path, as a whole
abbrev pub judge_path : Scene → PathForm → Judged Target
judge_path s path = do
  m ← look_up path.name s.blocks
  begin ← target_of path.name m
  t ← judge_steps s path.name.place begin path.steps
  assignable path.name t
