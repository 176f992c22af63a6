-- All statements are judged the same in two lists of blocks in which each name stands for the same.
use Rattle.std.proofs.Common.{◌≡◌, Bool, true, false, List, [], ◌∷◌, Some, None, refl}
use Rattle.std.specs.Prelude.{Ok, Err}
use Rattle.sz_types.specs.Data.{Shape}
use Rattle.sz_tree.specs.Statements.{Stm, empty, declare, define, static, typedef, table, function, simple, if_only, if_else, return, when, Stms}
use Rattle.sz_tree.specs.Statements as trees
use Rattle.sz_core.specs.Statements as core
use Rattle.sz_check_rules.specs.Names.{Block}
use Rattle.sz_check_rules.specs.Refusals.{Judged}
use Rattle.sz_check_rules.specs.Scene.{Scene, opened}
use Rattle.sz_check_rules.specs.Scenes.{Later}
use Rattle.sz_check_rules.specs.JudgingStatements.{Around, in_loop, out_of_loops, in_block, judge_stm, judge_stms}
use Rattle.sz_check_rules.proofs.SameNames.{Same, exp_same}
use Rattle.sz_check_rules.proofs.SameStatements.{Agree, agree_ok, agree_err, agree_bind, same_bind, scene, Quiet, Ahead, AllAhead, same_ahead, done_same}
use Rattle.sz_check_rules.proofs.SameStatements.{simple_same, return_same, emit_same, declaration_ahead, initialised_ahead, definition_ahead, inside_quiet}
use Rattle.sz_check_rules.proofs.SameStatements.{for_quiet, when_quiet}

-- whether a statement declares a variable for those after it
abbrev pub is_declaration : Stm → Bool
is_declaration (declare n t e) = true
is_declaration (define n e) = true
is_declaration _ = false

-- a statement behind a block, by what it is if it declares nothing there
ahead_from : (a : Around) (bs cs : List Block) (same : Same bs cs) (front : Block) (locals : List Shape) (t : Stm)
    → (is_declaration t ≡ false
    → Agree (Quiet (front ∷ bs) (front ∷ cs)) (judge_stm a (scene (front ∷ bs) locals) t)
    (judge_stm a (scene (front ∷ cs) locals) t))
    → Agree (Ahead bs cs) (judge_stm a (scene (front ∷ bs) locals) t) (judge_stm a (scene (front ∷ cs) locals) t)
unfolding judge_stm
ahead_from a bs cs same front locals (declare n t None) h = declaration_ahead bs cs same front locals n t
ahead_from a bs cs same front locals (declare n t (Some e)) h = initialised_ahead bs cs same front locals n t e
ahead_from a bs cs same front locals (define n e) h = definition_ahead bs cs same front locals n e
ahead_from a bs cs same front locals t h =
    quiet_ahead (judge_stm a (scene (front ∷ bs) locals) t) (judge_stm a (scene (front ∷ cs) locals) t) (h refl)
  where
    quiet_ahead : (m n : Judged Later) → Agree (Quiet (front ∷ bs) (front ∷ cs)) m n → Agree (Ahead bs cs) m n
    quiet_ahead (Ok x) (Ok y) h = agree_ok (Ahead bs cs) x y
        (record { front = front; locals = h.so.locals; stm = h.so.stm; first = h.so.first; second = h.so.second })
    quiet_ahead (Ok x) (Err r) h = absurd h.so
    quiet_ahead (Err r) (Ok y) h = absurd h.so
    quiet_ahead (Err r) (Err q) h = record { so = h.so }

-- a part statement, in a block of its own
abbrev part_in : Around → Scene → Stm → Judged Later
part_in a s t = in_block s (judge_stm a (opened s) t)

part_from : (a : Around) (bs cs : List Block) (same : Same bs cs) (locals : List Shape) (t : Stm)
    → (is_declaration t ≡ false → Agree (Quiet ([] ∷ bs) ([] ∷ cs)) (judge_stm a (scene ([] ∷ bs) locals) t)
    (judge_stm a (scene ([] ∷ cs) locals) t))
    → Agree (Quiet bs cs) (part_in a (scene bs locals) t) (part_in a (scene cs locals) t)
part_from a bs cs same locals t h = inside_quiet bs cs locals _ _ (ahead_from a bs cs same [] locals t h)

mutual
  unfolding judge_stm judge_stms

  -- a statement that declares nothing for those after it
  pub stm_quiet : (a : Around) (bs cs : List Block) (same : Same bs cs) (locals : List Shape) (t : Stm)
      → is_declaration t ≡ false
      → Agree (Quiet bs cs) (judge_stm a (scene bs locals) t) (judge_stm a (scene cs locals) t)
  stm_quiet a bs cs same locals (empty p) e =
      agree_ok (Quiet bs cs) _ _ (record { locals = locals; stm = core.nothing; first = refl; second = refl })
  stm_quiet a bs cs same locals (trees.block p ss) e =
      agree_bind (all_ahead a bs cs same [] locals ss) (λ x y r. rw (r.first, r.second)
      (agree_ok (Quiet bs cs) _ _ (record { locals = r.locals; stm = core.block r.stms; first = refl; second = refl })))
  stm_quiet a bs cs same locals (declare n t v) e = absurd cc
  stm_quiet a bs cs same locals (define n v) e = absurd cc
  stm_quiet a bs cs same locals (static p n t v) e = agree_err _ _
  stm_quiet a bs cs same locals (typedef p n t) e = agree_err _ _
  stm_quiet a bs cs same locals (table n t) e = agree_err _ _
  stm_quiet a bs cs same locals (function n ps t ss) e = agree_err _ _
  stm_quiet a bs cs same locals (simple t) e = done_same bs cs same locals _ _ (simple_same bs cs same locals t)
  stm_quiet a bs cs same locals (if_only p c t) e = same_bind (exp_same bs cs same true None c) (λ n.
      agree_bind (part_from a bs cs same locals t (λ d.
      stm_quiet a ([] ∷ bs) ([] ∷ cs) (same_ahead [] bs cs same) locals t d))
      (λ x y r. rw (r.first, r.second) (done_same bs cs same r.locals _ _ refl)))
  stm_quiet a bs cs same locals (if_else p c t o) e = same_bind (exp_same bs cs same true None c) (λ n.
      agree_bind (part_from a bs cs same locals t (λ d.
      stm_quiet a ([] ∷ bs) ([] ∷ cs) (same_ahead [] bs cs same) locals t d)) (λ x y r. rw (r.first, r.second)
      (agree_bind (part_from a bs cs same r.locals o (λ d.
      stm_quiet a ([] ∷ bs) ([] ∷ cs) (same_ahead [] bs cs same) r.locals o d))
      (λ v w q. rw (q.first, q.second) (done_same bs cs same q.locals _ _ refl)))))
  stm_quiet a bs cs same locals (trees.while p c t) e = same_bind (exp_same bs cs same true None c) (λ n.
      agree_bind (part_from (in_loop a) bs cs same locals t (λ d.
      stm_quiet (in_loop a) ([] ∷ bs) ([] ∷ cs) (same_ahead [] bs cs same) locals t d)) (λ x y r. rw (r.first, r.second)
      (done_same bs cs same r.locals _ _ refl)))
  stm_quiet a bs cs same locals (trees.do_while p t c) e = agree_bind (part_from (in_loop a) bs cs same locals t (λ d.
      stm_quiet (in_loop a) ([] ∷ bs) ([] ∷ cs) (same_ahead [] bs cs same) locals t d)) (λ x y r. rw (r.first, r.second)
      (same_bind (exp_same bs cs same true None c) (λ n. done_same bs cs same r.locals _ _ refl)))
  stm_quiet a bs cs same locals (trees.for_loop p f c between t) e =
      for_quiet bs cs same locals p f c between _ (λ front ls.
      part_from (in_loop a) (front ∷ bs) (front ∷ cs) (same_ahead front bs cs same) ls t (λ d.
      stm_quiet (in_loop a) ([] ∷ front ∷ bs) ([] ∷ front ∷ cs)
      (same_ahead [] (front ∷ bs) (front ∷ cs) (same_ahead front bs cs same)) ls t d))
  stm_quiet a bs cs same locals (trees.break p) e = done_same bs cs same locals _ _ refl
  stm_quiet a bs cs same locals (trees.continue p) e = done_same bs cs same locals _ _ refl
  stm_quiet a bs cs same locals (return p v) e =
      done_same bs cs same locals _ _ (return_same bs cs same locals p a.result v)
  stm_quiet a bs cs same locals (trees.emit p n es v w) e =
      done_same bs cs same locals _ _ (emit_same bs cs same locals p n es v w)
  stm_quiet a bs cs same locals (when p qs c t) e = when_quiet bs cs same locals p qs c _ (λ front ls.
      part_from (out_of_loops a) (front ∷ bs) (front ∷ cs) (same_ahead front bs cs same) ls t (λ d.
      stm_quiet (out_of_loops a) ([] ∷ front ∷ bs) ([] ∷ front ∷ cs)
      (same_ahead [] (front ∷ bs) (front ∷ cs) (same_ahead front bs cs same)) ls t d))

  -- statements in order, behind a block
  pub all_ahead : (a : Around) (bs cs : List Block) (same : Same bs cs) (front : Block)
      (locals : List Shape) (ss : Stms) → Agree (AllAhead bs cs) (judge_stms a (scene (front ∷ bs) locals) ss)
      (judge_stms a (scene (front ∷ cs) locals) ss)
  all_ahead a bs cs same front locals trees.no_stms =
      agree_ok (AllAhead bs cs) _ _
      (record { front = front; locals = locals; stms = core.no_stms; first = refl; second = refl })
  all_ahead a bs cs same front locals (trees.stm t ts) =
      agree_bind (ahead_from a bs cs same front locals t
      (λ e. stm_quiet a (front ∷ bs) (front ∷ cs) (same_ahead front bs cs same) locals t e)) (λ x y r.
      rw (r.first, r.second) (agree_bind (all_ahead a bs cs same r.front r.locals ts) (λ v w q. rw (q.first, q.second)
      (agree_ok (AllAhead bs cs) _ _
      (record {
        front = q.front;
        locals = q.locals;
        stms = core.with_stm r.stm q.stms;
        first = refl;
        second = refl;
      })))))
