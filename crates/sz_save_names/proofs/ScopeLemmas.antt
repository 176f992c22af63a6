-- What names stand for after a statement: it declares variables alone, so what names of types stand for stays so.
use Rattle.std.proofs.Common.{ℕ, false, List, [], ◌∷◌, length}
use Rattle.std.specs.Prelude.{Some, None}
use Rattle.sz_types.specs.Data.{Shape}
use Rattle.sz_tree.specs.Names.{Ident}
use Rattle.sz_tree.specs.Types.{Typ}
use Rattle.sz_tree.specs.Expressions.{Exp}
use Rattle.sz_tree.specs.Statements.{QuantifierForm, Stm, empty, declare, define, static, typedef, table, function, simple, if_only, if_else, return, when}
use Rattle.sz_tree.specs.Statements as trees
use Rattle.sz_core.specs.Nodes.{type_of}
use Rattle.sz_core.specs.Statements as core
use Rattle.sz_check_rules.specs.Refusals.{Judged}
use Rattle.sz_check_rules.specs.Names.{Meaning}
use Rattle.sz_check_rules.specs.Names as names
use Rattle.sz_check_rules.specs.Agreeing.{converted}
use Rattle.sz_check_rules.specs.JudgingTypes.{judge_type}
use Rattle.sz_check_rules.specs.JudgingSimple.{judge_declaration, judge_initialised, judge_definition, judge_first, judge_simple, judge_return, judge_emit, done}
use Rattle.sz_check_rules.specs.JudgingStatements.{Around, in_loop, in_block, judge_quantified, judge_stm, judge_stms}
use Rattle.sz_check_rules.specs.Quantifying.{Variable, Front, judge_front, judge_bound, in_bound, judge_quantifiers, none_declared}
use Rattle.sz_check_rules.specs.JudgingExpressions.{judge_exp}
use Rattle.sz_check_rules.specs.Scene.{Scene, opened, with_variable}
use Rattle.sz_check_rules.specs.Scenes.{Later, judge, closed}
use Rattle.sz_check_rules.proofs.Holds.{Holds, ok_holds, err_holds, bind_holds}
use Rattle.sz_check_rules.proofs.ForCallers.{Mean, declared}

-- something is judged, of which nothing is told
abbrev Anything : {A : Type 0} → A → Type 0
Anything x = Unit {0}

pub anything : {A : Type 0} (m : Judged A) → Holds m Anything
anything m = record { holds = λ x e. tt }

-- a property of meanings that each variable has
module _ (P : Meaning → Type 0) (variables : (k : ℕ) (t : Shape) → P (names.variable k t)) where
  -- each name in the scene stands for something with the property
  abbrev pub Keeps : Scene → Type 0
  Keeps s = Mean P s.blocks

  abbrev pub KeepsLater : Later → Type 0
  KeepsLater m = Keeps m.scene

  done_keeps : (s : Scene) (m : Judged core.Stm) → Keeps s → Holds (done s m) KeepsLater
  done_keeps s m h = bind_holds (anything m) (λ x _. ok_holds KeepsLater (record { scene = s; stm = x }) h)

  variable_keeps : (n : Ident) (t : Shape) (s : Scene) → Keeps s → Holds (with_variable n t s) Keeps
  variable_keeps n t s h =
      bind_holds (declared P n (names.variable (length s.locals) t) s.blocks (variables (length s.locals) t) h)
      (λ blocks k. ok_holds Keeps _ k)

  declaration_keeps : (s : Scene) (n : Ident) (t : Typ) → Keeps s → Holds (judge_declaration s n t) KeepsLater
  declaration_keeps s n t h =
      bind_holds (anything (judge_type s.blocks t))
      (λ u _. bind_holds (variable_keeps n u s h) (λ after k. ok_holds KeepsLater _ k))

  initialised_keeps : (s : Scene) (n : Ident) (t : Typ) (e : Exp) → Keeps s
      → Holds (judge_initialised s n t e) KeepsLater
  initialised_keeps s n t e h =
      bind_holds (anything (judge_type s.blocks t)) (λ u _. bind_holds (anything (judge s (Some u) e)) (λ m _.
      bind_holds (anything (converted u e m))
      (λ value _. bind_holds (variable_keeps n u s h) (λ after k. ok_holds KeepsLater _ k))))

  definition_keeps : (s : Scene) (n : Ident) (e : Exp) → Keeps s → Holds (judge_definition s n e) KeepsLater
  definition_keeps s n e h =
      bind_holds (anything (judge s None e))
      (λ value _. bind_holds (variable_keeps n (type_of value) s h) (λ after k. ok_holds KeepsLater _ k))

  in_block_keeps : (s : Scene) (m : Judged Later) → Keeps s → Holds (in_block s m) KeepsLater
  in_block_keeps s m h = bind_holds (anything m)
      (λ inside _. ok_holds KeepsLater (record { scene = closed s inside.scene; stm = inside.stm }) h)

  in_bound_keeps : (s : Scene) (vs : List Variable) (judging : Scene → Judged Later) → Keeps s
      → Holds (in_bound s vs judging) KeepsLater
  in_bound_keeps s vs judging h =
      bind_holds (anything (judge_bound s vs)) (λ inner _. bind_holds (anything (judging inner)) (λ body _.
      ok_holds KeepsLater (record { scene = closed s body.scene; stm = body.stm }) h))

  abbrev KeepsFront : Front → Type 0
  KeepsFront f = Keeps f.scene

  front_keeps : (s : Scene) (qs : List QuantifierForm) (c : Exp) → Keeps s → Holds (judge_front s qs c) KeepsFront
  front_keeps s qs c h =
      bind_holds (anything (judge_quantifiers qs (none_declared s)))
      (λ d _. bind_holds (anything (judge_exp d.scene.blocks false None c)) (λ n _.
      ok_holds KeepsFront (record { scene = closed s d.scene; variables = d.variables; condition = n }) h))

  pub stm_keeps : (a : Around) (s : Scene) (t : Stm) → Keeps s → Holds (judge_stm a s t) KeepsLater
  unfolding judge_stm
  stm_keeps a s (empty p) h = ok_holds KeepsLater (record { scene = s; stm = core.nothing }) h
  stm_keeps a s (trees.block p ss) h =
      bind_holds (anything (judge_stms a (opened s) ss))
      (λ b _. ok_holds KeepsLater (record { scene = closed s b.scene; stm = core.block b.stms }) h)
  stm_keeps a s (declare n t None) h = declaration_keeps s n t h
  stm_keeps a s (declare n t (Some e)) h = initialised_keeps s n t e h
  stm_keeps a s (define n e) h = definition_keeps s n e h
  stm_keeps a s (static p n t e) h = err_holds _ _
  stm_keeps a s (typedef p n t) h = err_holds _ _
  stm_keeps a s (table n t) h = err_holds _ _
  stm_keeps a s (function n ps t ss) h = err_holds _ _
  stm_keeps a s (simple t) h = done_keeps s (judge_simple s t) h
  stm_keeps a s (if_only p c t) h = bind_holds (anything (judge s None c)) (λ n _.
      bind_holds (in_block_keeps s (judge_stm a (opened s) t) h) (λ taken k. done_keeps taken.scene _ k))
  stm_keeps a s (if_else p c t e) h = bind_holds (anything (judge s None c)) (λ n _.
      bind_holds (in_block_keeps s (judge_stm a (opened s) t) h) (λ taken k.
      bind_holds (in_block_keeps taken.scene (judge_stm a (opened taken.scene) e) k)
      (λ other j. done_keeps other.scene _ j)))
  stm_keeps a s (trees.while p c t) h = bind_holds (anything (judge s None c)) (λ n _.
      bind_holds (in_block_keeps s (judge_stm (in_loop a) (opened s) t) h) (λ body k. done_keeps body.scene _ k))
  stm_keeps a s (trees.do_while p t c) h =
      bind_holds (in_block_keeps s (judge_stm (in_loop a) (opened s) t) h) (λ body k.
      bind_holds (anything (judge body.scene None c)) (λ n _. done_keeps body.scene _ k))
  stm_keeps a s (trees.for_loop p f c between t) h = bind_holds (anything (judge_first (opened s) f)) (λ first _.
      bind_holds {A = Later} (anything _) (λ (turns : Later) _.
      ok_holds KeepsLater
      (record { scene = closed s turns.scene; stm = core.block (core.stms_of (first.stm ∷ turns.stm ∷ [])) }) h))
  stm_keeps a s (trees.break p) h = done_keeps s _ h
  stm_keeps a s (trees.continue p) h = done_keeps s _ h
  stm_keeps a s (return p e) h = done_keeps s (judge_return s p a.result e) h
  stm_keeps a s (trees.emit p n es e w) h = done_keeps s (judge_emit s p n es e w) h
  stm_keeps a s (when p qs c t) h = bind_holds (front_keeps s qs c h) (λ front k.
      bind_holds (in_bound_keeps front.scene front.variables _ k) (λ body j.
      bind_holds (anything (judge_quantified body.scene front.variables c front.condition)) (λ vs _.
      ok_holds KeepsLater (record { scene = body.scene; stm = core.when p vs front.condition body.stm }) j)))
