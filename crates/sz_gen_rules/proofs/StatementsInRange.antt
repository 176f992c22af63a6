-- Each number in the code of sound statements is that of something that the code has.
use Rattle.std.proofs.Common.{ℕ, zero, suc, ◌+◌, ◌<◌, ◌≤◌, List, [], ◌∷◌, ◌++◌, length, map, Option, Some, None, IfSome, refl, subst, arith, length-append}
use Rattle.std.specs.Prelude.{is_some}
use Rattle.std.proofs.lemmas.Bool.{lt-ltb}
use Rattle.sz_types.specs.Data.{Shape}
use Rattle.sz_types.specs.declared.place.Place.{Place}
use Rattle.sz_core.specs.Nodes.{Node, type_of}
use Rattle.sz_core.specs.Statements.{Stm, block, clear, keep, store, evaluate, branch, while, do_while, for_loop, break, continue}
use Rattle.sz_core.specs.Statements.{return_value, end_record, emit, Quantified, when, Stms, no_stms, with_stm}
use Rattle.sz_core.specs.Typing.{Sight, IsNode}
use Rattle.sz_core.specs.Sound.{Around, IsTest, IsWeightOf, seen_after, out_of_loops, in_condition, with_bound, with_all_bound, bound_inside, AreQuantified, IsStm, AreStms}
use Rattle.sz_core.specs.Sound.{in_loop as inner}
use Rattle.sz_instr.specs.WellFormed.{most_locals}
use Rattle.sz_instr.specs.declared.instr.Instr.TheVariants.{Keep, Store, Tick, Test, Return, Discard, Emit}
use Rattle.sz_instr.specs.declared.line.Line.{Line}
use Rattle.sz_instr.specs.declared.code.Code.{Code}
use Rattle.sz_builtin.proofs.TypeLemmas.{both_in}
use Rattle.sz_gen_rules.specs.Tables.{tables_in, line}
use Rattle.sz_gen_rules.specs.ExpressionCode.{expression_code, expressions_code, indexes_code, code_if_some, count_of}
use Rattle.sz_gen_rules.specs.Named.{HasNames}
use Rattle.sz_gen_rules.proofs.Indexes.{indexes_of_path}
use Rattle.sz_gen_rules.specs.FreeLines.{goes}
use Rattle.sz_gen_rules.specs.StatementCode.{Exits, in_loop, in_search, discards, bare_step, loop_test_code, loop_code, loop_after_code, statement_code, statements_code}
use Rattle.sz_gen_rules.specs.NamedStatements.{BasesHaveNames, StmHasNames, StmsHaveNames}
use Rattle.sz_gen_rules.proofs.Statements.{seen_more, bound_more}
use Rattle.sz_gen_rules.proofs.ExpressionsInRange.{AreInRange, both_in_range, IsRoomFor, local_in_range, closed_in_range, front_fits, back_fits}
use Rattle.sz_gen_rules.proofs.SearchesInRange.{AllInRange, when_in_range}
use Rattle.sz_gen_rules.proofs.ExpressionsInRange.{node_in_range, nodes_in_range, steps_in_range, some_in_range}
use Rattle.sz_gen_rules.specs.Backward.{seeing}

weight_sound : (g : Sight) (t : Option Shape) (e : Option Node) → IsWeightOf g t e → IfSome e (IsNode g)
weight_sound g None None h = tt
weight_sound g None (Some e) h = absurd h
weight_sound g (Some t) None h = absurd h
weight_sound g (Some t) (Some e) h = h.0

module _ (code : Code) where
  discards_in_range : (n : ℕ) → AreInRange code (discards n)
  discards_in_range zero = tt
  discards_in_range (suc n) = (refl, discards_in_range n)

  loop_in_range : (p : Place) (between test body : ℕ → List Line) (at : ℕ)
      → at + length (loop_code p between test body at) < length code.lines
      → (at + 2 + length (between (at + 2)) < length code.lines → AreInRange code (between (at + 2)))
      → ((k : ℕ) → k + length (test k) ≤ length code.lines → AreInRange code (test k))
      → ((k : ℕ) → k + length (body k) < length code.lines → AreInRange code (body k))
      → AreInRange code (loop_code p between test body at)
  loop_in_range p between test body at fits between_in test_in body_in =
      let stepped = between (at + 2) in
      let start = at + 2 + length stepped + 1 in
      let asked = test start in
      let turn = body (start + length asked) in
      let back = goes (at + 2) in
      let tick = line Tick 1 p in
      let a1 = length-append stepped (tick ∷ (asked ++ (turn ++ back ∷ []))) in
      let a2 = length-append asked (turn ++ back ∷ []) in
      let a3 = length-append turn (back ∷ []) in
      let all : at + length stepped + length asked + length turn + 4 < length code.lines =
      omega (arith, fits, a1, a2, a3) in
      let end = start + length asked + length turn + 1 in (
        lt-ltb start (length code.lines) (omega (arith, all)),
        (
          lt-ltb end (length code.lines) (omega (arith, all)),
          both_in_range code stepped (tick ∷ (asked ++ (turn ++ back ∷ []))) (between_in (omega (arith, all))) (
            refl,
            both_in_range code asked (turn ++ back ∷ []) (test_in start (omega (arith, all)))
                (both_in_range code turn (back ∷ []) (body_in (start + length asked) (omega (arith, all)))
                (lt-ltb (at + 2) (length code.lines) (omega (arith, all)), tt)),
          ),
        ),
      )

  -- the places that `break` and `continue` lead to are those of lines
  begins_low : (p : Place) (between test body : ℕ → List Line) (at : ℕ)
      → at + length (loop_code p between test body at) < length code.lines
      → at + 2 < length code.lines
  begins_low p between test body at fits = omega (arith, fits)

  begins_low_after : (p : Place) (body test : ℕ → List Line) (at : ℕ)
      → at + length (loop_after_code p body test at) < length code.lines
      → at + 2 < length code.lines
  begins_low_after p body test at fits = omega (arith, fits)

  loop_after_in_range : (p : Place) (body test : ℕ → List Line) (at : ℕ)
      → at + length (loop_after_code p body test at) < length code.lines
      → ((k : ℕ) → k + length (test k) ≤ length code.lines → AreInRange code (test k))
      → ((k : ℕ) → k + length (body k) < length code.lines → AreInRange code (body k))
      → AreInRange code (loop_after_code p body test at)
  loop_after_in_range p body test at fits test_in body_in =
      let turn = body (at + 3) in
      let start = at + 3 + length turn in
      let asked = test start in
      let back = goes (at + 3) in
      let tick = line Tick 1 p in
      let a1 = length-append turn (asked ++ tick ∷ back ∷ []) in
      let a2 = length-append asked (tick ∷ back ∷ []) in
      let all : at + length turn + length asked + 5 < length code.lines = omega (arith, fits, a1, a2) in
      let end = start + length asked + 2 in (
        lt-ltb (at + 3) (length code.lines) (omega (arith, all)),
        (
          lt-ltb end (length code.lines) (omega (arith, all)),
          (
            lt-ltb start (length code.lines) (omega (arith, all)),
            both_in_range code turn (asked ++ tick ∷ back ∷ []) (body_in (at + 3) (omega (arith, all)))
                (both_in_range code asked (tick ∷ back ∷ []) (test_in start (omega (arith, all)))
                (refl, (lt-ltb (at + 3) (length code.lines) (omega (arith, all)), tt))),
          ),
        ),
      )

module _ (code : Code) (g : Sight) (room : IsRoomFor code g) where
  test_in_range : (seen : Sight) (e : Option Node) (p : Place) (start at : ℕ) → IfSome e (IsTest (seeing g seen))
      → IfSome e (HasNames (tables_in code))
      → start + 1 < length code.lines → at + length (loop_test_code (tables_in code) p e start at) ≤ length code.lines
      → AreInRange code (loop_test_code (tables_in code) p e start at)
  test_in_range seen None p start at sound names few fits = (refl, tt)
  test_in_range seen (Some e) p start at sound names few fits =
      let ce = expression_code (tables_in code) e at in
      let t = line (Test (start + 1) (start + 1)) 1 p in
      let there = lt-ltb (start + 1) (length code.lines) few in
      both_in_range code ce (t ∷ []) (node_in_range code g room seen e at sound.0 names
      (front_fits code ce (t ∷ []) at fits)) (both_in there there, tt)

  variables_in_range : (vs : List Quantified) (seen : Sight) → AreQuantified (seeing g seen) vs
      → BasesHaveNames (tables_in code) vs → AllInRange code vs
  variables_in_range [] seen sound names = tt
  variables_in_range (v ∷ vs) seen sound names = (
    λ at fits. node_in_range code g room seen v.base at sound.0 names.0 fits,
    local_in_range code g room v.local sound.2.0 sound.2.1,
    variables_in_range vs (with_bound v (seeing g seen)) sound.4 names.1,
  )

  mutual
    unfolding IsStm AreStms

    pub stm_in_range : (c : Stm) (seen : Sight) (a : Around) (out : Exits) (at : ℕ) → IsStm (seeing g seen) a c
        → StmHasNames (tables_in code) c → out.on_break < length code.lines → out.on_continue < length code.lines
        → at + length (statement_code (tables_in code) c out at) < length code.lines
        → AreInRange code (statement_code (tables_in code) c out at)
    stm_in_range (block cs) seen a out at sound names b k fits = stms_in_range cs seen a out at sound names b k fits
    stm_in_range (clear n) seen a out at sound names b k fits =
        let few = sound.0 in let most = room.locals in (lt-ltb n (most_locals code) (omega arith), tt)
    stm_in_range (keep p n e) seen a out at sound names b k fits =
        let c = expression_code (tables_in code) e at in
        closed_in_range code c (Keep n) p (node_in_range code g room seen e at sound.0 names
        (front_fits code c (line (Keep n) 1 p ∷ []) at (omega (arith, fits))))
        (lt-ltb n (most_locals code) (local_in_range code g room n (type_of e) sound.1))
    stm_in_range (store p n steps e) seen a out at sound names b k fits =
        let ci = indexes_code (tables_in code) steps at in
        let ce = expression_code (tables_in code) e (at + length ci) in
        let f1 = front_fits code (ci ++ ce) (line (Store n (map bare_step steps)) 1 p ∷ []) at (omega (arith, fits)) in
        closed_in_range code (ci ++ ce) (Store n (map bare_step steps)) p
        (both_in_range code ci ce
        (steps_in_range code g room seen steps at
        (indexes_of_path (seeing g seen) sound.2.0 steps (type_of e) sound.2.2) names.0
        (front_fits code ci ce at f1))
        (node_in_range code g room seen e (at + length ci) sound.1 names.1 (back_fits code ci ce at f1)))
        (lt-ltb n (most_locals code) (local_in_range code g room n sound.2.0 sound.2.1))
    stm_in_range (evaluate p e) seen a out at sound names b k fits =
        let c = expression_code (tables_in code) e at in
        both_in_range code c (line Discard 0 p ∷ []) (node_in_range code g room seen e at sound.0 names
        (front_fits code c (line Discard 0 p ∷ []) at (omega (arith, fits)))) (refl, tt)
    stm_in_range (branch p e c d) seen a out at sound names b k fits =
        let ce = expression_code (tables_in code) e at in
        let start = at + length ce + 1 in
        let one = statement_code (tables_in code) c out start in
        let away = start + length one + 1 in
        let other = statement_code (tables_in code) d out away in
        let past = away + length other in
        let t = line (Test away past) 1 p in
        let skip = goes past in
        let a1 = length-append ce (t ∷ (one ++ skip ∷ other)) in
        let a2 = length-append one (skip ∷ other) in
        let all : at + length ce + length one + length other + 2 < length code.lines = omega (arith, fits, a1, a2) in
        both_in_range code ce (t ∷ (one ++ skip ∷ other))
        (node_in_range code g room seen e at sound.0.0 names.0 (omega (arith, all))) (
          both_in (lt-ltb away (length code.lines) (omega (arith, all)))
              (lt-ltb past (length code.lines) (omega (arith, all))),
          both_in_range code one (skip ∷ other)
              (stm_in_range c seen a out start sound.1 names.1 b k (omega (arith, all))) (
                lt-ltb past (length code.lines) (omega (arith, all)),
                stm_in_range d seen a out away sound.2 names.2 b k (omega (arith, all)),
              ),
        )
    stm_in_range (while p e c) seen a out at sound names b k fits =
        let few : at + 2 < length code.lines =
        begins_low code p (λ _. []) (loop_test_code (tables_in code) p (Some e) at)
        (statement_code (tables_in code) c (in_loop out (at + 1) (at + 2))) at fits in
        loop_in_range code p (λ _. []) (loop_test_code (tables_in code) p (Some e) at)
        (statement_code (tables_in code) c (in_loop out (at + 1) (at + 2))) at fits
        (λ h. tt)
        (λ n h. test_in_range seen (Some e) p at n sound.0 names.0 (omega (arith, few)) h)
        (λ n h. stm_in_range c seen (inner a)
        (in_loop out (at + 1) (at + 2)) n sound.1 names.1 (omega (arith, few)) few h)
    stm_in_range (do_while p c e) seen a out at sound names b k fits =
        let few : at + 2 < length code.lines =
        begins_low_after code p (statement_code (tables_in code) c (in_loop out (at + 1) (at + 2)))
        (loop_test_code (tables_in code) p (Some e) at) at fits in
        loop_after_in_range code p (statement_code (tables_in code) c (in_loop out (at + 1) (at + 2)))
        (loop_test_code (tables_in code) p (Some e) at) at fits
        (λ n h. test_in_range seen (Some e) p at n sound.1 names.1 (omega (arith, few)) h)
        (λ n h. stm_in_range c seen (inner a)
        (in_loop out (at + 1) (at + 2)) n sound.0 names.0 (omega (arith, few)) few h)
    stm_in_range (for_loop p e t c) seen a out at sound names b k fits =
        let few : at + 2 < length code.lines =
        begins_low code p (statement_code (tables_in code) t out) (loop_test_code (tables_in code) p e at)
        (statement_code (tables_in code) c (in_loop out (at + 1) (at + 2))) at fits in
        loop_in_range code p (statement_code (tables_in code) t out) (loop_test_code (tables_in code) p e at)
        (statement_code (tables_in code) c (in_loop out (at + 1) (at + 2))) at fits
        (λ h. stm_in_range t seen a out (at + 2) sound.1 names.1 b k h)
        (λ n h. test_in_range seen e p at n sound.0 names.0 (omega (arith, few)) h)
        (λ n h. stm_in_range c seen (inner a)
        (in_loop out (at + 1) (at + 2)) n sound.3 names.2 (omega (arith, few)) few h)
    stm_in_range break seen a out at sound names b k fits = (lt-ltb out.on_break (length code.lines) b, tt)
    stm_in_range continue seen a out at sound names b k fits = (lt-ltb out.on_continue (length code.lines) k, tt)
    stm_in_range (return_value p e) seen a out at sound names b k fits =
        let cd = discards out.flags in
        let ce = expression_code (tables_in code) e (at + length cd) in
        let f1 = front_fits code (cd ++ ce) (line Return 1 p ∷ []) at (omega (arith, fits)) in
        closed_in_range code (cd ++ ce) Return p
        (both_in_range code cd ce (discards_in_range code out.flags)
        (node_in_range code g room seen e (at + length cd) sound.0 names
        (back_fits code cd ce at f1))) refl
    stm_in_range (end_record p) seen a out at sound names b k fits = (refl, tt)
    stm_in_range (emit p table es e w) seen a out at sound names b k fits =
        let cs = expressions_code (tables_in code) es at in
        let ce = expression_code (tables_in code) e (at + length cs) in
        let cw = code_if_some (tables_in code) w (at + length (cs ++ ce)) in
        let i = Emit table (count_of es) (is_some w) in
        let f2 = front_fits code ((cs ++ ce) ++ cw) (line i 1 p ∷ []) at (omega (arith, fits)) in
        let f1 = front_fits code (cs ++ ce) cw at f2 in
        closed_in_range code ((cs ++ ce) ++ cw) i p
        (both_in_range code (cs ++ ce) cw
        (both_in_range code cs ce (nodes_in_range code g room seen es at sound.0 names.0 (front_fits code cs ce at f1))
        (node_in_range code g room seen e (at + length cs) sound.1 names.1 (back_fits code cs ce at f1)))
        (some_in_range code g room seen w (at + length (cs ++ ce))
        (weight_sound (seeing g seen) sound.2.0.weight w sound.2.4) names.2
        (back_fits code (cs ++ ce) cw at f2)))
        (lt-ltb table (length code.tables) (room.tables table sound.2.0 sound.2.1))
    stm_in_range (when p vs c body) seen a out at sound names b k fits =
        let tested = in_condition (seeing g seen) in
        let asking = with_all_bound vs (seeing g tested) in
        let within = with_all_bound (bound_inside vs) (seeing g seen) in
        let sound1 : IsTest (seeing g asking) c = subst (λ v. IsTest v c) (bound_more g tested vs) sound.1 in
        let sound2 : IsStm (seeing g within) (out_of_loops a) body =
        subst (λ v. IsStm v (out_of_loops a) body) (bound_more g seen (bound_inside vs)) sound.3 in
        when_in_range code p (expression_code (tables_in code) c)
        (λ f. statement_code (tables_in code) body (in_search out f))
        (λ n h. node_in_range code g room asking c n sound1.0 names.2 h)
        (λ f n h. stm_in_range body within (out_of_loops a) (in_search out f) n sound2 names.3 b k h)
        vs (variables_in_range vs tested sound.0 names.0) names.1 out.flags at fits

    pub stms_in_range : (cs : Stms) (seen : Sight) (a : Around) (out : Exits) (at : ℕ) → AreStms (seeing g seen) a cs
        → StmsHaveNames (tables_in code) cs
        → out.on_break < length code.lines → out.on_continue < length code.lines
        → at + length (statements_code (tables_in code) cs out at) < length code.lines
        → AreInRange code (statements_code (tables_in code) cs out at)
    stms_in_range no_stms seen a out at sound names b k fits = tt
    stms_in_range (with_stm c cs) seen a out at sound names b k fits =
        let front = statement_code (tables_in code) c out at in
        let rest = statements_code (tables_in code) cs out (at + length front) in
        let more = seen_after (seeing g seen) c in
        let sound1 : AreStms (seeing g more) a cs = subst (λ v. AreStms v a cs) (seen_more g seen c) sound.1 in
        let a1 = length-append front rest in
        both_in_range code front rest (stm_in_range c seen a out at sound.0 names.0 b k (omega (arith, fits, a1)))
        (stms_in_range cs more a out (at + length front) sound1 names.1 b k (omega (arith, fits, a1)))
