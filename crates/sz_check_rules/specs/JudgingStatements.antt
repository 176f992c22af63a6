-- The checked statement that a statement's tree is, with what is declared after it, or its first refusal.
use Rattle.std.specs.Prelude.{List, [], ◌∷◌, if◌then◌else◌, Option, Some, None, Ok}
use Rattle.sz_types.specs.declared.place.Place.{Place}
use Rattle.sz_tree.specs.Expressions.{Exp}
use Rattle.sz_tree.specs.Statements.{SimpleForm, FirstForm, Stm, empty, declare, define, static, typedef, table, function, simple, if_only, if_else, return, when, Stms}
use Rattle.sz_tree.specs.Statements as trees
use Rattle.sz_core.specs.Nodes.{Node}
use Rattle.sz_core.specs.Statements as core
pub use Rattle.sz_core.specs.Sound.{Around, in_loop, out_of_loops}
use Rattle.sz_check_rules.specs.Refusals.{Judged, ◌>>=◌, misplaced}
use Rattle.sz_check_rules.specs.JudgingOperators.{test}
use Rattle.sz_check_rules.specs.Scene.{Scene, opened}
use Rattle.sz_check_rules.specs.Scenes.{Later, AllAfter, judge, judge_if_some, closed}
use Rattle.sz_check_rules.specs.JudgingSimple.{judge_declaration, judge_initialised, judge_definition, judge_simple, judge_first, judge_between, test_if_some}
use Rattle.sz_check_rules.specs.JudgingSimple.{judge_return, judge_emit, done}
use Rattle.sz_check_rules.specs.Quantifying.{Variable, judge_front, in_bound, quantify}

-- a part statement, which was judged in a block of its own
abbrev pub in_block : Scene → Judged Later → Judged Later
in_block s judged = do
  inside ← judged
  Ok (record { scene = closed s inside.scene; stm = inside.stm })

-- a branch over a test, which must be a truth value
abbrev pub branch_of : Place → Exp → Node → core.Stm → core.Stm → Judged core.Stm
branch_of p c n taken other = do
  _ ← test c n
  Ok (core.branch p n taken other)

-- a loop over a test, which must be a truth value: in front of each turn, or after it
abbrev pub while_of : Place → Exp → Node → core.Stm → Judged core.Stm
while_of p c n body = do
  _ ← test c n
  Ok (core.while p n body)

abbrev pub do_while_of : Place → Exp → core.Stm → Node → Judged core.Stm
do_while_of p c body n = do
  _ ← test c n
  Ok (core.do_while p body n)

-- the turns of a `for` over a test that may be missing
abbrev pub for_of : Place → Option Exp → Option Node → core.Stm → core.Stm → Judged core.Stm
for_of p c n step body = do
  _ ← test_if_some c n
  Ok (core.for_loop p n step body)

-- what a `for` does after its first part: the test, what is done between the turns, and the statement inside
abbrev pub turns_of : Scene → Place → Option Exp → Option SimpleForm → (Scene → Judged Later) → Judged Later
turns_of s p c between judging = do
  n ← judge_if_some s None c
  step ← judge_between s between
  body ← judging s
  done body.scene (for_of p c n step body.stm)

-- a `for`: its first part, and then its turns, in a block
abbrev pub judge_for : Scene → Place → Option FirstForm → Option Exp → Option SimpleForm
    → (Scene → Judged Later) → Judged Later
judge_for s p f c between judging = do
  first ← judge_first (opened s) f
  turns ← turns_of first.scene p c between judging
  Ok (record { scene = closed s turns.scene; stm = core.block (core.stms_of (first.stm ∷ turns.stm ∷ [])) })

-- the variables of a `when` by their rules, where its condition is a truth value
abbrev pub judge_quantified : Scene → List Variable → Exp → Node → Judged (List core.Quantified)
judge_quantified s vs c n = do
  _ ← test c n
  quantify s vs c

unfoldable mutual
  -- the statement
  pub judge_stm : Around → Scene → Stm → Judged Later
  judge_stm a s (empty p) = Ok (record { scene = s; stm = core.nothing })
  judge_stm a s (trees.block p ss) = do
    inside ← judge_stms a (opened s) ss
    Ok (record { scene = closed s inside.scene; stm = core.block inside.stms })
  judge_stm a s (declare n t None) = judge_declaration s n t
  judge_stm a s (declare n t (Some e)) = judge_initialised s n t e
  judge_stm a s (define n e) = judge_definition s n e
  judge_stm a s (static p n t e) = misplaced p
  judge_stm a s (typedef p n t) = misplaced p
  judge_stm a s (table n t) = misplaced n.place
  judge_stm a s (function n ps t ss) = misplaced n.place
  judge_stm a s (simple t) = done s (judge_simple s t)
  judge_stm a s (if_only p c t) = do
    n ← judge s None c
    taken ← in_block s (judge_stm a (opened s) t)
    done taken.scene (branch_of p c n taken.stm core.nothing)
  judge_stm a s (if_else p c t e) = do
    n ← judge s None c
    taken ← in_block s (judge_stm a (opened s) t)
    other ← in_block taken.scene (judge_stm a (opened taken.scene) e)
    done other.scene (branch_of p c n taken.stm other.stm)
  judge_stm a s (trees.while p c t) = do
    n ← judge s None c
    body ← in_block s (judge_stm (in_loop a) (opened s) t)
    done body.scene (while_of p c n body.stm)
  judge_stm a s (trees.do_while p t c) = do
    body ← in_block s (judge_stm (in_loop a) (opened s) t)
    n ← judge body.scene None c
    done body.scene (do_while_of p c body.stm n)
  judge_stm a s (trees.for_loop p f c between t) =
      judge_for s p f c between (λ start. in_block start (judge_stm (in_loop a) (opened start) t))
  judge_stm a s (trees.break p) = done s (if a.loop then Ok core.break else misplaced p)
  judge_stm a s (trees.continue p) = done s (if a.loop then Ok core.continue else misplaced p)
  judge_stm a s (return p e) = done s (judge_return s p a.result e)
  judge_stm a s (trees.emit p n es e w) = done s (judge_emit s p n es e w)
  judge_stm a s (when p qs c t) = do
    front ← judge_front s qs c
    body ← in_bound front.scene front.variables (λ inner. in_block inner (judge_stm (out_of_loops a) (opened inner) t))
    vs ← judge_quantified body.scene front.variables c front.condition
    Ok (record { scene = body.scene; stm = core.when p vs front.condition body.stm })

  -- statements in order
  pub judge_stms : Around → Scene → Stms → Judged AllAfter
  judge_stms a s trees.no_stms = Ok (record { scene = s; stms = core.no_stms })
  judge_stms a s (trees.stm t ts) = do
    first ← judge_stm a s t
    rest ← judge_stms a first.scene ts
    Ok (record { scene = rest.scene; stms = core.with_stm first.stm rest.stms })
