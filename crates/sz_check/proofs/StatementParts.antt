-- Statements by their parts.
use Rattle.std.proofs.Common.{◌≡◌, [], ◌∷◌, Option, None, refl, sym, ap, ◌∙◌}
use Rattle.std.specs.Prelude.{Result, Ok, Err, if◌then◌else◌}
use Rattle.sz_types.specs.declared.place.Place.{Place}
use Rattle.sz_tree.specs.Names.{Ident}
use Rattle.sz_tree.specs.Expressions.{Exp, Exps}
use Rattle.sz_tree.specs.Statements.{SimpleForm, FirstForm, TableForm, Stm as Tree, Stms as Trees, block, for_loop}
use Rattle.sz_tree.specs.Statements as trees
use Rattle.sz_tree.specs.Types.{Typ, Params}
use Rattle.sz_core.specs.Nodes.{Node}
use Rattle.sz_core.specs.Statements.{Stm, Stms, stms_of}
use Rattle.sz_core.specs.Statements as core
use Rattle.sz_check_rules.specs.Refusals.{Judged, ◌>>=◌, misplaced}
use Rattle.sz_check_rules.specs.Scene.{Scene}
use Rattle.sz_check_rules.specs.Scenes.{Later, AllAfter, judge, closed}
use Rattle.sz_check_rules.specs.JudgingStatements.{Around, in_block, judge_stm, judge_stms}
use Rattle.sz_check_rules.specs.JudgingSimple.{judge_first}
use Rattle.sz_check_rules.specs.JudgingSimple.{judge_definition, judge_simple, judge_return, done, judge_emit}
use Rattle.sz_check_names.specs.Outcome.{Stops, Judges}
use Rattle.sz_check_names.specs.declared.error.JudgeError.{JudgeError}
use Rattle.sz_check_names.proofs.TurnLemmas.{stops_then, goes_on}
use Rattle.sz_core.specs.declared.stmt.CoreStmt.{CoreStmt}
use Rattle.sz_core.specs.View.{stm_of}
use Rattle.sz_check_names.specs.Knowledge.{Knowledge, outside_of, scene_of}
use Rattle.sz_check_rules.specs.JudgingStatements.{branch_of}
use Rattle.sz_check.specs.Later.{after_of, judge_inside, judge_else, judge_turns}

-- ---- statements in a block of their own

-- what is known in a block that is opened inside the innermost one
abbrev pub inside_of : Knowledge → Knowledge
inside_of k = record k { innermost = []; outside = outside_of k }

-- what goes on from what is judged inside a block
abbrev from_inside : {A B : Type 0} → (Scene → Judged A) → (A → Judged B) → Knowledge → Judged B
from_inside judge f k = judge (scene_of k) >>= f

-- a part statement is judged with a block more, and after it is known what was known before
pub inside_made : (a : Around) (k inner following after : Knowledge) (t : Tree) (x : Stm) → inner ≡ inside_of k
    → judge_stm a (scene_of inner) t ≡ Ok (record { scene = scene_of following; stm = x })
    → after ≡ record k { locals = following.locals }
    → judge_inside a (scene_of k) t ≡ Ok (record { scene = scene_of after; stm = x })
inside_made a k inner following after t x opening h ending =
    ap (λ (u : Knowledge). in_block (scene_of k) (judge_stm a (scene_of u) t)) (sym opening)
    ∙ ap (in_block (scene_of k)) h ∙ ap (λ (u : Knowledge). Ok (record { scene = scene_of u; stm = x })) (sym ending)

pub inside_stops : (a : Around) (k inner : Knowledge) (t : Tree) (e : JudgeError) → inner ≡ inside_of k
    → Stops e (judge_stm a (scene_of inner) t) → Stops e (judge_inside a (scene_of k) t)
inside_stops a k inner t e opening h =
    stops_then e (judge_stm a (scene_of inner) t)
    (λ b. Ok (record { scene = closed (scene_of k) b.scene; stm = b.stm })) _ h
    (ap (λ (u : Knowledge). in_block (scene_of k) (judge_stm a (scene_of u) t)) opening)

-- the same of a block
abbrev ended : Knowledge → AllAfter → Judged Later
ended k b = Ok (record { scene = closed (scene_of k) b.scene; stm = core.block b.stms })

pub block_made : (a : Around) (k inner following after : Knowledge) (p : Place) (ts : Trees) (xs : Stms)
    → inner ≡ inside_of k → judge_stms a (scene_of inner) ts ≡ Ok (record { scene = scene_of following; stms = xs })
    → after ≡ record k { locals = following.locals }
    → judge_stm a (scene_of k) (block p ts) ≡ Ok (record { scene = scene_of after; stm = core.block xs })
unfolding judge_stm
block_made a k inner following after p ts xs opening h ending =
    ap (from_inside (λ s. judge_stms a s ts) (ended k)) (sym opening) ∙ ap (λ (j : Judged AllAfter). j >>= ended k) h
    ∙ ap (λ (u : Knowledge). Ok (record { scene = scene_of u; stm = core.block xs })) (sym ending)

pub block_stops : (a : Around) (k inner : Knowledge) (p : Place) (ts : Trees) (e : JudgeError) → inner ≡ inside_of k
    → Stops e (judge_stms a (scene_of inner) ts) → Stops e (judge_stm a (scene_of k) (block p ts))
unfolding judge_stm
block_stops a k inner p ts e opening h =
    stops_then e (judge_stms a (scene_of inner) ts) (ended k) _ h
    (ap (from_inside (λ s. judge_stms a s ts) (ended k)) opening)

-- ---- a `for` by what is judged of it

-- what a `for` does after its first part
abbrev later_first : Around → Scene → Place → Option Exp → Option SimpleForm → Tree → Later → Judged Later
later_first a s p c between t first =
    judge_turns a first.scene p c between t
    >>= λ turns. Ok (record { scene = closed s turns.scene; stm = core.block (stms_of (first.stm ∷ turns.stm ∷ [])) })

module _ (a : Around) (k inner start : Knowledge) (p : Place) (f : Option FirstForm) (c : Option Exp)
    (between : Option SimpleForm) (t : Tree) where
  begin : inner ≡ inside_of k → (judge_first (scene_of inner) f >>= later_first a (scene_of k) p c between t)
      ≡ judge_stm a (scene_of k) (for_loop p f c between t)
  unfolding judge_stm
  begin opening = ap (from_inside (λ s. judge_first s f) (later_first a (scene_of k) p c between t)) opening

  pub for_first_stops : (e : JudgeError) → inner ≡ inside_of k → Stops e (judge_first (scene_of inner) f)
      → Stops e (judge_stm a (scene_of k) (for_loop p f c between t))
  for_first_stops e opening h =
      stops_then e (judge_first (scene_of inner) f) (later_first a (scene_of k) p c between t) _ h (begin opening)

  after_start : (x : Stm) → inner ≡ inside_of k
      → judge_first (scene_of inner) f ≡ Ok (record { scene = scene_of start; stm = x })
      → later_first a (scene_of k) p c between t (record { scene = scene_of start; stm = x })
      ≡ judge_stm a (scene_of k) (for_loop p f c between t)
  after_start x opening h = goes_on (judge_first (scene_of inner) f) (later_first a (scene_of k) p c between t) _
      (record { scene = scene_of start; stm = x }) h (begin opening)

  pub for_turns_stop : (x : Stm) (e : JudgeError) → inner ≡ inside_of k
      → judge_first (scene_of inner) f ≡ Ok (record { scene = scene_of start; stm = x })
      → Stops e (judge_turns a (scene_of start) p c between t)
      → Stops e (judge_stm a (scene_of k) (for_loop p f c between t))
  for_turns_stop x e opening h g =
      stops_then e (judge_turns a (scene_of start) p c between t)
      (λ turns. Ok (record {
        scene = closed (scene_of k) turns.scene;
        stm = core.block (stms_of (x ∷ turns.stm ∷ []));
      })) _ g (after_start x opening h)

  pub for_made : (following after : Knowledge) (x y : Stm) → inner ≡ inside_of k
      → judge_first (scene_of inner) f ≡ Ok (record { scene = scene_of start; stm = x })
      → judge_turns a (scene_of start) p c between t ≡ Ok (record { scene = scene_of following; stm = y })
      → after ≡ record k { locals = following.locals } → judge_stm a (scene_of k) (for_loop p f c between t)
      ≡ Ok (record { scene = scene_of after; stm = core.block (stms_of (x ∷ y ∷ [])) })
  for_made following after x y opening h g ending =
      sym (after_start x opening h)
      ∙ ap (λ (j : Judged Later). j >>= λ turns.
      Ok (record { scene = closed (scene_of k) turns.scene; stm = core.block (stms_of (x ∷ turns.stm ∷ [])) })) g
      ∙ ap (λ (u : Knowledge). Ok (record { scene = scene_of u; stm = core.block (stms_of (x ∷ y ∷ [])) })) (sym ending)

-- ---- branches

-- an `if` is its test, its part, and then a branch over the test
module _ (a : Around) (s : Scene) (p : Place) (c : Exp) where
  pub if_else_is : (t e : Tree)
      → judge_stm a s (trees.if_else p c t e)
      ≡ (judge s None c >>= λ n. judge_inside a s t >>= λ b. judge_else a b.scene p c n b.stm e)
  unfolding judge_stm
  if_else_is t e = refl

  -- an `if` with another part stops where its test or its part is refused, and is the judgement of the other part
  -- where these are judged
  pub else_test_stops : (t o : Tree) (e : JudgeError) → Stops e (judge s None c)
      → Stops e (judge_stm a s (trees.if_else p c t o))
  else_test_stops t o e h =
      stops_then e (judge s None c) (λ n. judge_inside a s t >>= λ b. judge_else a b.scene p c n b.stm o) _ h
      (sym (if_else_is t o))

  after_test : (t o : Tree) (n : Node) → judge s None c ≡ Ok n
      → (judge_inside a s t >>= λ b. judge_else a b.scene p c n b.stm o) ≡ judge_stm a s (trees.if_else p c t o)
  after_test t o n g =
      goes_on (judge s None c) (λ m. judge_inside a s t >>= λ b. judge_else a b.scene p c m b.stm o) _ n g
      (sym (if_else_is t o))

  pub else_part_stops : (t o : Tree) (n : Node) (e : JudgeError) → judge s None c ≡ Ok n → Stops e (judge_inside a s t)
      → Stops e (judge_stm a s (trees.if_else p c t o))
  else_part_stops t o n e g h =
      stops_then e (judge_inside a s t) (λ b. judge_else a b.scene p c n b.stm o) _ h (after_test t o n g)

  pub else_goes_on : (t o : Tree) (n : Node) (b : Later) → judge s None c ≡ Ok n → judge_inside a s t ≡ Ok b
      → judge_stm a s (trees.if_else p c t o) ≡ judge_else a b.scene p c n b.stm o
  else_goes_on t o n b g h =
      sym (goes_on (judge_inside a s t) (λ b. judge_else a b.scene p c n b.stm o) _ b h (after_test t o n g))

  -- the same of the other part
  pub other_stops : (n : Node) (taken : Stm) (o : Tree) (e : JudgeError) → Stops e (judge_inside a s o)
      → Stops e (judge_else a s p c n taken o)
  other_stops n taken o e h =
      stops_then e (judge_inside a s o) (λ b. done b.scene (branch_of p c n taken b.stm)) _ h refl

-- ---- each statement by its own judgement

module _ (a : Around) (s : Scene) where
  pub empty_is : (p : Place) → judge_stm a s (trees.empty p) ≡ Ok (record { scene = s; stm = core.nothing })
  unfolding judge_stm
  empty_is p = refl

  pub define_is : (n : Ident) (e : Exp) → judge_stm a s (trees.define n e) ≡ judge_definition s n e
  unfolding judge_stm
  define_is n e = refl

  pub static_is : (p : Place) (n : Ident) (t : Typ) (e : Exp) → judge_stm a s (trees.static p n t e) ≡ misplaced p
  unfolding judge_stm
  static_is p n t e = refl

  pub typedef_is : (p : Place) (n : Ident) (t : Typ) → judge_stm a s (trees.typedef p n t) ≡ misplaced p
  unfolding judge_stm
  typedef_is p n t = refl

  pub table_is : (n : Ident) (t : TableForm) → judge_stm a s (trees.table n t) ≡ misplaced n.place
  unfolding judge_stm
  table_is n t = refl

  pub nested_is : (n : Ident) (ps : Params) (t : Typ) (ss : Trees)
      → judge_stm a s (trees.function n ps t ss) ≡ misplaced n.place
  unfolding judge_stm
  nested_is n ps t ss = refl

  pub simple_is : (t : SimpleForm) → judge_stm a s (trees.simple t) ≡ done s (judge_simple s t)
  unfolding judge_stm
  simple_is t = refl

  pub break_is : (p : Place) → judge_stm a s (trees.break p) ≡ done s (if a.loop then Ok core.break else misplaced p)
  unfolding judge_stm
  break_is p = refl

  pub continue_is : (p : Place)
      → judge_stm a s (trees.continue p) ≡ done s (if a.loop then Ok core.continue else misplaced p)
  unfolding judge_stm
  continue_is p = refl

  pub return_is : (p : Place) (e : Option Exp) → judge_stm a s (trees.return p e) ≡ done s (judge_return s p a.result e)
  unfolding judge_stm
  return_is p e = refl

  pub emitting_is : (p : Place) (n : Ident) (es : Exps) (e : Exp) (w : Option Exp)
      → judge_stm a s (trees.emit p n es e w) ≡ done s (judge_emit s p n es e w)
  unfolding judge_stm
  emitting_is p n es e w = refl

-- a statement that declares nothing leaves what is known as it was
pub done_is : (k : Knowledge) (r : Result CoreStmt JudgeError) (j : Judged Stm) → Judges stm_of r j
    → Judges (λ s. after_of k s) r (done (scene_of k) j)
done_is k (Ok s) j h = ap (done (scene_of k)) h
done_is k (Err e) j h = stops_then e j (λ m. Ok (record { scene = scene_of k; stm = m })) _ h refl
