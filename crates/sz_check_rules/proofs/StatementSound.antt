-- Statements that are judged are sound.
use Rattle.std.proofs.Common.{◌≡◌, [], ◌∷◌, Some, None, refl, sym, subst}
use Rattle.std.specs.Prelude.{IfSome}
use Rattle.sz_tree.specs.Statements.{Stm, empty, declare, define, static, typedef, table, function, simple, if_only, if_else, return, when, Stms}
use Rattle.sz_tree.specs.Statements as trees
use Rattle.sz_tree.specs.Expressions.{Exp}
use Rattle.sz_core.specs.Nodes.{Node}
use Rattle.sz_core.specs.Statements as core
use Rattle.sz_core.specs.Typing.{Sight}
use Rattle.sz_core.specs.Sound.{BeginsWith, IsStm, AreStms, IsTest, seen_after}
use Rattle.sz_check_rules.specs.Refusals.{Judged}
use Rattle.sz_check_rules.specs.JudgingOperators.{test}
use Rattle.sz_check_rules.specs.Scene.{Scene, opened}
use Rattle.sz_check_rules.specs.Scenes.{Later, judge, judge_if_some, closed}
use Rattle.sz_check_rules.specs.JudgingStatements.{Around, in_loop, out_of_loops, in_block, judge_stm, judge_stms}
use Rattle.sz_check_rules.specs.JudgingSimple.{judge_between, judge_return, judge_emit, test_if_some}
use Rattle.sz_check_rules.proofs.Holds.{Holds, good, ok_holds, err_holds, bind_holds, known, if_holds}
use Rattle.sz_check_rules.proofs.Sights.{IsFormed}
use Rattle.sz_check_rules.proofs.NodeLemmas.{test_holds, done_after}
use Rattle.sz_check_rules.proofs.SceneLemmas.{Sees, sees_opened, sees_closed, locals_after, judged, begins_itself, begins_on, IsDone, IsLater, IsInside, AreAfter}
use Rattle.sz_check_rules.proofs.WhenSound.{when_sound}
use Rattle.sz_check_rules.proofs.StatementLemmas.{declaration_sound, initialised_sound, definition_sound, done_sound, simple_after, between_sound, maybe_judged}
use Rattle.sz_check_rules.proofs.StatementLemmas.{maybe_test, return_sound, emit_sound, first_sound}

-- a part statement that was judged in a block of its own
inside_sound : (a : Around) (s : Scene) (judging : Judged Later) → Holds judging (IsLater a (opened s))
    → Holds (in_block s judging) (IsInside a s)
inside_sound a s judging h =
    bind_holds h (λ b is. ok_holds (IsInside a s) (record { scene = closed s b.scene; stm = b.stm }) (record {
      grows = is.grows;
      is_sound = λ g sees final.
          let here = is.is_sound g (sees_opened g s sees) final in
          record { stm = here.stm; sees = sees_closed g s b.scene sees is.grows here.sees.formed };
    }))

-- an expression that was judged, and is a test
tested : (g : Sight) (s : Scene) (c : Exp) (n : Node) (u : Unit {0}) → Sees g s → judge s None c ≡ good n
    → test c n ≡ good u → IsTest g n
tested g s c n u sees is_n is_test =
    (((judged g s sees None c tt).holds n is_n).typed, (test_holds g c n).holds u is_test)

-- a `for` whose first part and whose turns were judged
abbrev for_end : Scene → Later → Later → Later
for_end s first turns = record {
  scene = closed s turns.scene;
  stm = core.block (core.stms_of (first.stm ∷ turns.stm ∷ []));
}

mutual
  unfolding judge_stm judge_stms IsStm AreStms

  -- a statement that is judged is sound, whose result, if it is in a function, is well formed
  pub statement_sound : (a : Around) (s : Scene) (t : Stm) → IfSome a.result IsFormed
      → Holds (judge_stm a s t) (IsLater a s)
  statement_sound a s (empty p) r = ok_holds (IsLater a s) (record { scene = s; stm = core.nothing }) (record {
    grows = begins_itself s.locals;
    is_sound = λ g sees final. record { stm = tt; sees = sees };
  })
  statement_sound a s (trees.block p ss) r = bind_holds (statements_sound a (opened s) ss r) (λ b is.
      ok_holds (IsLater a s) (record { scene = closed s b.scene; stm = core.block b.stms }) (record {
        grows = is.grows;
        is_sound = λ g sees final.
            let here = is.are_sound g (sees_opened g s sees) final in
            record { stm = here.stms; sees = sees_closed g s b.scene sees is.grows here.formed };
      }))
  statement_sound a s (declare n t None) r = declaration_sound a s n t
  statement_sound a s (declare n t (Some e)) r = initialised_sound a s n t e
  statement_sound a s (define n e) r = definition_sound a s n e
  statement_sound a s (static p n t e) r = err_holds _ _
  statement_sound a s (typedef p n t) r = err_holds _ _
  statement_sound a s (table n t) r = err_holds _ _
  statement_sound a s (function n ps t ss) r = err_holds _ _
  statement_sound a s (simple t) r = simple_after a s t
  statement_sound a s (if_only p c t) r = bind_holds (known (judge s None c)) (λ n is_n.
      bind_holds (inside_sound a s _ (statement_sound a (opened s) t r)) (λ taken is.
      done_after (IsLater a s) (test c n) taken.scene (core.branch p n taken.stm core.nothing) (λ u is_test. record {
        grows = is.grows;
        is_sound = λ g sees final.
            let here = is.is_sound g sees final in
            record { stm = (tested g s c n u sees is_n is_test, here.stm, tt); sees = here.sees };
      })))
  statement_sound a s (if_else p c t e) r = bind_holds (known (judge s None c)) (λ n is_n.
      bind_holds (inside_sound a s _ (statement_sound a (opened s) t r)) (λ taken is.
      bind_holds (inside_sound a taken.scene _ (statement_sound a (opened taken.scene) e r)) (λ other also.
      done_after (IsLater a s) (test c n) other.scene (core.branch p n taken.stm other.stm) (λ u is_test. record {
        grows = begins_on s.locals taken.scene.locals other.scene.locals is.grows also.grows;
        is_sound = λ g sees final.
            let here = is.is_sound g sees (begins_on taken.scene.locals other.scene.locals g.locals also.grows final) in
            let there = also.is_sound g here.sees final in
            record { stm = (tested g s c n u sees is_n is_test, here.stm, there.stm); sees = there.sees };
      }))))
  statement_sound a s (trees.while p c t) r = bind_holds (known (judge s None c)) (λ n is_n.
      bind_holds (inside_sound (in_loop a) s _ (statement_sound (in_loop a) (opened s) t r)) (λ body is.
      done_after (IsLater a s) (test c n) body.scene (core.while p n body.stm) (λ u is_test. record {
        grows = is.grows;
        is_sound = λ g sees final.
            let here = is.is_sound g sees final in
            record { stm = (tested g s c n u sees is_n is_test, here.stm); sees = here.sees };
      })))
  statement_sound a s (trees.do_while p t c) r =
      bind_holds (inside_sound (in_loop a) s _ (statement_sound (in_loop a) (opened s) t r)) (λ body is.
      bind_holds (known (judge body.scene None c)) (λ n is_n.
      done_after (IsLater a s) (test c n) body.scene (core.do_while p body.stm n) (λ u is_test. record {
        grows = is.grows;
        is_sound = λ g sees final.
            let here = is.is_sound g sees final in
            record { stm = (here.stm, tested g body.scene c n u here.sees is_n is_test); sees = here.sees };
      })))
  statement_sound a s (trees.for_loop p f c between t) r =
      bind_holds (first_sound a (opened s) f) (λ first is. bind_holds
      (bind_holds (known (judge_if_some first.scene None c))
      (λ n is_n. bind_holds (known (judge_between first.scene between)) (λ step is_step.
      bind_holds
      (inside_sound (in_loop a) first.scene _ (statement_sound (in_loop a) (opened first.scene) t r)) (λ body also.
      done_after (λ turns. IsLater a s (for_end s first turns))
      (test_if_some c n) body.scene (core.for_loop p n step body.stm) (λ u is_test. record {
        grows = begins_on s.locals first.scene.locals body.scene.locals is.grows also.grows;
        is_sound = λ g sees final.
            let here = is.is_sound g (sees_opened g s sees)
            (begins_on first.scene.locals body.scene.locals g.locals also.grows final) in
            let more = seen_after g first.stm in
            let inner = also.is_sound more here.sees
            (subst (BeginsWith body.scene.locals) (sym (locals_after g first.stm)) final) in
            let value = (maybe_judged a more first.scene here.sees None c tt).holds n is_n in
            let is_tested = (maybe_test a more first.scene here.sees c n value).holds u is_test in
            let between_turns = (between_sound a more first.scene here.sees between).holds step is_step in
            let grows = begins_on s.locals first.scene.locals body.scene.locals is.grows also.grows in
            record {
              stm = (here.stm, ((is_tested, between_turns.stm, between_turns.between, inner.stm), tt));
              sees = sees_closed g s body.scene sees grows inner.sees.formed;
            };
      }))))) (λ turns sound. ok_holds (IsLater a s) (for_end s first turns) sound))
  statement_sound a s (trees.break p) r = done_sound a s _ (λ g sees.
      if_holds a.loop (λ loop. ok_holds (IsDone g a) core.break (record { stm = loop; same = refl }))
      (λ none. err_holds _ _))
  statement_sound a s (trees.continue p) r = done_sound a s _ (λ g sees.
      if_holds a.loop (λ loop. ok_holds (IsDone g a) core.continue (record { stm = loop; same = refl }))
      (λ none. err_holds _ _))
  statement_sound a s (return p e) r =
      done_sound a s (judge_return s p a.result e) (λ g sees. return_sound a g s sees p e r)
  statement_sound a s (trees.emit p n es e w) r =
      done_sound a s (judge_emit s p n es e w) (λ g sees. emit_sound a g s sees p n es e w)
  statement_sound a s (when p qs c t) r =
      when_sound a s p qs c (λ inner. in_block inner (judge_stm (out_of_loops a) (opened inner) t))
      (λ inner. inside_sound (out_of_loops a) inner _ (statement_sound (out_of_loops a) (opened inner) t r))

  -- so is each of several
  pub statements_sound : (a : Around) (s : Scene) (ts : Stms) → IfSome a.result IsFormed
      → Holds (judge_stms a s ts) (AreAfter a s)
  statements_sound a s trees.no_stms r = ok_holds (AreAfter a s) (record { scene = s; stms = core.no_stms }) (record {
    grows = begins_itself s.locals;
    are_sound = λ g sees final. record { stms = tt; formed = sees.formed };
  })
  statements_sound a s (trees.stm t ts) r =
      bind_holds (statement_sound a s t r) (λ first is. bind_holds (statements_sound a first.scene ts r) (λ rest are.
      ok_holds (AreAfter a s) (record { scene = rest.scene; stms = core.with_stm first.stm rest.stms }) (record {
        grows = begins_on s.locals first.scene.locals rest.scene.locals is.grows are.grows;
        are_sound = λ g sees final.
            let here = is.is_sound g sees (begins_on first.scene.locals rest.scene.locals g.locals are.grows final) in
            let following = are.are_sound (seen_after g first.stm) here.sees
            (subst (BeginsWith rest.scene.locals) (sym (locals_after g first.stm)) final) in
            record { stms = (here.stm, following.stms); formed = following.formed };
      })))
