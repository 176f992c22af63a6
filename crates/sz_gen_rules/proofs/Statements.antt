-- The code of statements does what statements mean.
use Rattle.std.proofs.Common.{◌≡◌, ◌∙◌, ℕ, suc, ◌+◌, ◌≤◌, List, [], ◌∷◌, ◌++◌, length, map, false, Option, Some, None, IfSome, refl, sym, ap, subst, arith, drop, append_assoc, length-append}
use Rattle.std.specs.Prelude.{slice_get, slice_set, is_some}
use Rattle.sz_types.specs.Data.{Shape}
use Rattle.sz_types.specs.Tables.{Declaration}
use Rattle.sz_types.specs.declared.place.Place.{Place}
use Rattle.sz_core.specs.Nodes.{Node, type_of, types_of}
use Rattle.sz_core.specs.Statements.{Stm, block, clear, keep, store, evaluate, branch, while, do_while, for_loop, break, continue}
use Rattle.sz_core.specs.Statements.{return_value, end_record, emit, Quantified, when, Stms, no_stms, with_stm}
use Rattle.sz_core.specs.Typing.{Sight, IsNode}
use Rattle.sz_core.specs.Sound.{Around, IsTest, IsWeightOf, seen_after, out_of_loops, in_condition, with_bound, with_all_bound, bound_inside, AreQuantified, IsStm, AreStms}
use Rattle.sz_instr.specs.declared.instr.Instr.TheVariants.{Keep, Clear, Store, Test, Return, EndRecord, Discard, Emit}
use Rattle.sz_instr.specs.declared.code.Code.{Code}
use Rattle.sz_world_rules.specs.World.{World, and_then, spend}
use Rattle.sz_world_rules.specs.Slots.{Slot}
use Rattle.sz_world_rules.specs.Typed.{Fits, AllFit}
use Rattle.sz_mean.specs.Expressions.{Setting, eval, eval_all, eval_indexes, eval_if_some}
use Rattle.sz_mean.specs.Statements.{emits, idle, exec, exec_all}
use Rattle.sz_instr.specs.States.{State, After}
use Rattle.sz_instr.specs.Covering.{WeightFits}
use Rattle.sz_instr.specs.Runs.{ComesTo}
use Rattle.sz_gen_rules.specs.Tables.{tables_in, line}
use Rattle.sz_gen_rules.specs.ExpressionCode.{expression_code, expressions_code, indexes_code, code_if_some, count_of}
use Rattle.sz_gen_rules.specs.Named.{HasNames}
use Rattle.sz_gen_rules.specs.Runs.{AfterEval, CallsBelow, AllKept, with_all, HasAt}
use Rattle.sz_gen_rules.proofs.Stacks.{length-all_fit}
use Rattle.sz_gen_rules.proofs.Steps.{has_front, has_back, at_line}
use Rattle.sz_gen_rules.specs.FreeLines.{no_place, goes}
use Rattle.sz_gen_rules.specs.StatementCode.{Exits, in_loop, in_search, variable_code_of, discards, bare_step, statement_code, statements_code}
use Rattle.sz_gen_rules.specs.NamedStatements.{BasesHaveNames, StmHasNames, StmsHaveNames}
use Rattle.sz_gen_rules.specs.Backward.{seeing, IfIn, AreFlags, MayReturn, AfterReturn, AfterExec, IsFixed}
use Rattle.sz_gen_rules.proofs.Outcomes.{Counts, from_later, ends_at, after_value, after_some, after_values, pays_for, after_then, discards_run}
use Rattle.sz_gen_rules.proofs.Parts.{leads_on, nodes_counted, expression_runs, nodes_run, steps_run}
use Rattle.sz_gen_rules.proofs.Indexes.{index_types, indexes_of_path}
use Rattle.sz_gen_rules.proofs.Slots.{fit_set, fit_clear, fit_at}
use Rattle.sz_gen_rules.proofs.LastLines.{store_runs, discard_runs, emit_runs}
use Rattle.sz_gen_rules.proofs.Loops.{test_runs}
use Rattle.sz_gen_rules.proofs.LoopCode.{loop_runs, loop_after_runs}
use Rattle.sz_gen_rules.proofs.Searches.{elsewhere, VariableRuns}
use Rattle.sz_gen_rules.proofs.SearchesInOrder.{AllRun, when_runs}

-- after a statement the routine is the same
pub seen_more : (g seen : Sight) (c : Stm) → seen_after (seeing g seen) c ≡ seeing g (seen_after (seeing g seen) c)
seen_more g seen (clear n) = refl
seen_more g seen (keep p n e) = refl
seen_more g seen c = refl

pub bound_more : (g seen : Sight) (vs : List Quantified)
    → with_all_bound vs (seeing g seen) ≡ seeing g (with_all_bound vs (seeing g seen))
bound_more g seen [] = refl
bound_more g seen (v ∷ vs) = bound_more g (with_bound v (seeing g seen)) vs

no_weight : (g : Sight) (t : Option Shape) → IsWeightOf g t None → WeightFits None t
no_weight g None h = tt
no_weight g (Some t) h = absurd h

some_weight : (g : Sight) (t : Option Shape) (e : Node) → IsWeightOf g t (Some e)
    → IsNode g e × ((v : Slot) → Fits v (type_of e) → WeightFits (Some v) t)
some_weight g None e h = absurd h
some_weight g (Some t) e h = (h.0, λ v k. subst (λ u. Fits v u) h.1 k)

module _ (code : Code) (g : Sight) (set : Setting) (room : ℕ)
    (below : (limit : ℕ) → CallsBelow code g.functions set.statics room limit set.calls)
    (counts : Counts code set.counting)
    (tables_there : (n : ℕ) (d : Declaration) → slice_get g.tables n ≡ Some d → slice_get code.tables n ≡ Some d)
    (x : After) where
  -- the weight of an emit, if it has one, and the emit
  weight_runs : (seen : Sight) (w : Option Node) (a : Around) (out : Exits) (s : State) (end at at1 : ℕ) (p : Place)
      (table n : ℕ) (d : Declaration) (indexes : List Slot) (value : Slot) (w1 : World)
      → IsWeightOf (seeing g seen) d.weight w → IfSome w (HasNames (tables_in code)) → AllFit s.locals g.locals
      → IsFixed g set room s.callers s.statics s.input
      → HasAt code.lines at (code_if_some (tables_in code) w at)
      → at + length (code_if_some (tables_in code) w at) ≡ at1
      → slice_get code.lines at1 ≡ Some (line (Emit table n (is_some w)) 1 p)
      → suc at1 ≡ end → w1.left ≤ s.world.left → slice_get code.tables table ≡ Some d → AllFit indexes d.indexes
      → Fits value d.element → length d.indexes ≡ n
      → AfterExec code a g.locals out s end x (and_then (eval_if_some set s.locals w w1)
      (λ weight. emits set.counting p table (record { indexes = indexes; value = value; weight = weight }) s.locals))
      → ComesTo code (record s { at = at; stack = value ∷ with_all indexes s.stack; world = w1 }) x
  weight_runs seen None a out s end at at1 p table n d indexes value w1 sound of fit fixed has en found len le
      there fi fv count h =
      let same : at1 ≡ at = omega (arith, en) in
      emit_runs code set.counting counts g.locals x a out s end at
      (ap suc (sym same) ∙ len) fit p table n d indexes value None w1 le there fi fv
      (no_weight (seeing g seen) d.weight sound) count
      (subst (λ k. slice_get code.lines k ≡ Some (line (Emit table n false) 1 p)) same found) h
  weight_runs seen (Some e) a out s end at at1 p table n d indexes value w1 sound of fit fixed has en found len le
      there fi fv count h =
      let s1 : State = record s { at = at; stack = value ∷ with_all indexes s.stack; world = w1 } in
      let weight = some_weight (seeing g seen) d.weight e sound in
      expression_runs code g set room below seen e s1 at1 x weight.0 of fit fixed has en
      (after_some code g.locals x a out (type_of e) s s1 end at1 _ (λ v w2 k h1.
      let le1 = k.left in
      emit_runs code set.counting counts g.locals x a out s end at1 len fit p table n d indexes value (Some v) w2
      (omega arith) there fi fv (weight.1 v k.typed) count found h1)
      (eval set s.locals e w1) h)

  -- what is known of the variables of a `when`, each of which sees those before it
  variables_run : (vs : List Quantified) (seen : Sight) (s : State) → AreQuantified (seeing g seen) vs
      → BasesHaveNames (tables_in code) vs
      → IsFixed g set room s.callers s.statics s.input → AllRun code set g.locals s x vs
  variables_run [] seen s sound of fixed = tt
  variables_run (v ∷ vs) seen s sound of fixed =
      let known : VariableRuns code g.locals s x (variable_code_of (tables_in code) v) (λ l. eval set l v.base) =
      record {
        of = type_of v.base;
        type = sound.2.0;
        runs = λ at end stack l lists w fit has en h.
            expression_runs code g set room below seen v.base (elsewhere s at stack l lists w) end x
            sound.0 of.0 fit fixed has en h;
        candidates = sound.2.2;
        local = sound.2.1;
      } in
      (known, variables_run vs (with_bound v (seeing g seen)) s sound.4 of.1 fixed)

  mutual
    unfolding IsStm AreStms

    pub exec_runs : (c : Stm) (seen : Sight) (a : Around) (out : Exits) (s : State) (end : ℕ)
        → IsStm (seeing g seen) a c → StmHasNames (tables_in code) c
        → AllFit s.locals g.locals → IsFixed g set room s.callers s.statics s.input → MayReturn a.result s.callers
        → AreFlags out.flags s.stack → HasAt code.lines s.at (statement_code (tables_in code) c out s.at)
        → s.at + length (statement_code (tables_in code) c out s.at) ≡ end
        → AfterExec code a g.locals out s end x (exec set c s.locals s.world) → ComesTo code s x
    exec_runs (block cs) seen a out s end sound of fit fixed may flags has en h =
        all_run cs seen a out s end sound of fit fixed may flags has en h
    exec_runs (clear n) seen a out s end sound of fit fixed may flags has en h =
        let same : suc s.at ≡ end = omega (arith, en) in
        let within = sound.0 in
        at_line code s (line (Clear n) 0 no_place) x has.0 (omega (arith, length-all_fit s.locals g.locals fit, within))
        (subst (λ k. ComesTo code (record s { at = k; locals = slice_set s.locals n None }) x) (sym same)
        (h (record { left = omega arith; typed = fit_clear s.locals g.locals n fit })))
    exec_runs (keep p n e) seen a out s end sound of fit fixed may flags has en h =
        let ce = expression_code (tables_in code) e s.at in
        let at1 = s.at + length ce in
        let l = line (Keep n) 1 p in
        let len : suc at1 ≡ end = omega (arith, en, length-append ce (l ∷ [])) in
        expression_runs code g set room below seen e s at1 x sound.0 of fit fixed
        (has_front code.lines s.at ce (l ∷ []) has) refl
        (after_value code g.locals x a out (type_of e) s s end at1 _ (λ v w1 k h1.
        let s1 : State = record s { at = at1; stack = v ∷ s.stack; world = w1 } in
        let le = k.left in
        at_line code s1 l x
        (has_back code.lines s.at ce (l ∷ []) has).0 ((fit_at s.locals g.locals n (type_of e) fit sound.1).0, tt)
        (pays_for code g.locals x a out s s1 end l 1 _ (spend 1 w1) refl (λ w2 e2 h2.
        subst (λ k. ComesTo code (record s { at = k; locals = slice_set s.locals n v; world = w2 }) x) (sym len)
        (h2 (record { left = omega arith; typed = fit_set s.locals g.locals n v (type_of e) fit sound.1 k.typed })))
        h1)) (eval set s.locals e s.world) h)
    exec_runs (store p n steps e) seen a out s end sound of fit fixed may flags has en h =
        let lines = code.lines in
        let ci = indexes_code (tables_in code) steps s.at in
        let at1 = s.at + length ci in
        let ce = expression_code (tables_in code) e at1 in
        let at2 = s.at + length (ci ++ ce) in
        let l = line (Store n (map bare_step steps)) 1 p in
        let len : suc at2 ≡ end = omega (arith, en, length-append (ci ++ ce) (l ∷ [])) in
        let parts = has_front lines s.at (ci ++ ce) (l ∷ []) has in
        let t = sound.2.0 in
        steps_run code g set room below seen steps s at1 x
        (indexes_of_path (seeing g seen) t steps (type_of e) sound.2.2) of.0 fit fixed
        (has_front lines s.at ci ce parts) refl
        (after_values code g.locals x a out (index_types steps) s s end at1 _ (λ vs w1 k1 h1.
        let s1 : State = record s { at = at1; stack = with_all vs s.stack; world = w1 } in
        expression_runs code g set room below seen e s1 at2 x sound.1 of.1 fit fixed (has_back lines s.at ci ce parts)
        (omega (arith, length-append ci ce))
        (after_value code g.locals x a out (type_of e) s s1 end at2 _ (λ v w2 k2 h2.
        let le1 = k1.left in let le2 = k2.left in
        store_runs code set.counting counts g.locals x a out s end at2 len fit p n steps t (type_of e) vs v w2
        (omega arith) sound.2.1 (leads_on (seeing g seen) t steps (type_of e) sound.2.2) k1.typed k2.typed
        (has_back lines s.at (ci ++ ce) (l ∷ []) has).0 h2)
        (eval set s.locals e w1) h1)) (eval_indexes set s.locals steps s.world) h)
    exec_runs (evaluate p e) seen a out s end sound of fit fixed may flags has en h =
        let ce = expression_code (tables_in code) e s.at in
        let at1 = s.at + length ce in
        let l = line Discard 0 p in
        let len : suc at1 ≡ end = omega (arith, en, length-append ce (l ∷ [])) in
        expression_runs code g set room below seen e s at1 x sound.0 of fit fixed
        (has_front code.lines s.at ce (l ∷ []) has) refl
        (after_value code g.locals x a out (type_of e) s s end at1 _ (λ v w1 k h1.
        discard_runs code set.counting counts g.locals x a out s end at1 len fit p v w1 k.left
        (has_back code.lines s.at ce (l ∷ []) has).0 (idle s.locals)
        (λ h2. h2 (record { left = k.left; typed = fit })) h1) (eval set s.locals e s.world) h)
    exec_runs (branch p e c d) seen a out s end sound of fit fixed may flags has en h =
        let lines = code.lines in
        let ce = expression_code (tables_in code) e s.at in
        let start = s.at + length ce + 1 in
        let one = statement_code (tables_in code) c out start in
        let at2 = start + length one in
        let away = at2 + 1 in
        let other = statement_code (tables_in code) d out away in
        let past = away + length other in
        let t = line (Test away past) 1 p in
        let skip = goes past in
        let rest = one ++ skip ∷ other in
        let asked = ce ++ t ∷ [] in
        let len : away + length other ≡ end =
        omega (arith, en, length-append ce (t ∷ rest), length-append one (skip ∷ other)) in
        let tested : s.at + length asked ≡ start = omega (arith, length-append ce (t ∷ [])) in
        let has1 : HasAt lines s.at (asked ++ rest) =
        subst (λ l. HasAt lines s.at l) (sym (append_assoc ce (t ∷ []) rest)) has in
        let has2 : HasAt lines start rest =
        subst (λ k. HasAt lines k rest) tested (has_back lines s.at asked rest has1) in
        let has3 = has_back lines start one (skip ∷ other) has2 in
        let next : suc at2 ≡ away = omega arith in
        test_runs code g set room below counts seen x a out (Some e) p s end s.at start away past sound.0 of.0 fixed
        (has_front lines s.at asked rest has1) tested
        s.locals s.world _ _ fit
        (λ w2 le2 h2. exec_runs c seen a out (record s { at = start; world = w2 }) at2 sound.1 of.1 fit fixed may flags
        (has_front lines start one (skip ∷ other) has2) refl
        (ends_at code g.locals x a out s end at2 start s.locals w2 (omega arith)
        (λ l w k. at_line code (record s { at = at2; locals = l; world = w }) skip x has3.0 tt
        (subst (λ m. ComesTo code (record s { at = m; locals = l; world = w }) x) (sym len) k))
        (exec set c s.locals w2) h2))
        (λ w2 le2 h2. exec_runs d seen a out (record s { at = away; world = w2 }) end sound.2 of.2 fit fixed may flags
        (subst (λ k. HasAt lines k other) next has3.1) len
        (from_later code g.locals x a out s end away s.locals w2 (omega arith) (exec set d s.locals w2) h2))
        (λ w2 k. subst (λ m. ComesTo code (record s { at = m; world = w2 }) x) (sym len) k) (omega arith) h
    exec_runs (while p e c) seen a out s end sound of fit fixed may flags has en h =
        loop_runs code g set room below counts seen x a out s end p (Some e) sound.0 of.0 fit fixed (λ _. [])
        (statement_code (tables_in code) c (in_loop out (s.at + 1) (s.at + 2)))
        idle (exec set c) has en
        (λ at end1 l w fit1 has1 en1 h1. (let same : at ≡ end1 = omega (arith, en1) in subst
        (λ k. ComesTo code (record s { at = k; locals = l; world = w }) x) (sym same)
        (h1 (record { left = omega arith; typed = fit1 }))))
        (λ at end1 l w fit1 has1 en1 h1. exec_runs c seen _ (in_loop out (s.at + 1) (s.at + 2))
        (record s { at = at; locals = l; world = w }) end1 sound.1 of.1 fit1 fixed may flags has1 en1 h1) h
    exec_runs (do_while p c e) seen a out s end sound of fit fixed may flags has en h =
        loop_after_runs code g set room below counts seen x a out s end p (Some e) sound.1 of.1 fit fixed
        (statement_code (tables_in code) c (in_loop out (s.at + 1) (s.at + 2))) (exec set c) has en
        (λ at end1 l w fit1 has1 en1 h1. exec_runs c seen _ (in_loop out (s.at + 1) (s.at + 2))
        (record s { at = at; locals = l; world = w }) end1 sound.0 of.0 fit1 fixed may flags has1 en1 h1) h
    exec_runs (for_loop p e t c) seen a out s end sound of fit fixed may flags has en h =
        loop_runs code g set room below counts seen x a out s end p e sound.0 of.0 fit fixed
        (statement_code (tables_in code) t out)
        (statement_code (tables_in code) c (in_loop out (s.at + 1) (s.at + 2)))
        (exec set t) (exec set c) has en
        (λ at end1 l w fit1 has1 en1 h1. exec_runs t seen a out (record s {
          at = at;
          locals = l;
          world = w;
        }) end1 sound.1 of.1 fit1 fixed may flags has1 en1 h1)
        (λ at end1 l w fit1 has1 en1 h1. exec_runs c seen _ (in_loop out (s.at + 1) (s.at + 2))
        (record s { at = at; locals = l; world = w }) end1 sound.3 of.2 fit1 fixed may flags has1 en1 h1) h
    exec_runs break seen a out s end sound of fit fixed may flags has en h =
        at_line code s (goes out.on_break) x has.0 tt
        ((subst (λ b. IfIn b
        (AllKept s.world g.locals s.locals s.world → ComesTo code (record s { at = out.on_break }) x)) sound h)
        (record { left = omega arith; typed = fit }))
    exec_runs continue seen a out s end sound of fit fixed may flags has en h =
        at_line code s (goes out.on_continue) x has.0 tt
        ((subst (λ b. IfIn b
        (AllKept s.world g.locals s.locals s.world → ComesTo code (record s { at = out.on_continue }) x)) sound h)
        (record { left = omega arith; typed = fit }))
    exec_runs (return_value p e) seen a out s end sound of fit fixed may flags has en h =
        let lines = code.lines in
        let cd = discards out.flags in
        let at0 = s.at + length cd in
        let ce = expression_code (tables_in code) e at0 in
        let at1 = s.at + length (cd ++ ce) in
        let l = line Return 1 p in
        let parts = has_front lines s.at (cd ++ ce) (l ∷ []) has in
        let s0 : State = record s { at = at0; stack = drop out.flags s.stack } in
        discards_run code g.locals x out.flags s flags (has_front lines s.at cd ce parts)
        (expression_runs code g set room below seen e s0 at1 x sound.0 of fit fixed (has_back lines s.at cd ce parts)
        (omega (arith, length-append cd ce))
        (after_value code g.locals x a out (type_of e) s s0 end at1 _ (λ v w1 k h1.
        let s1 : State = record s0 { at = at1; stack = v ∷ drop out.flags s.stack; world = w1 } in
        at_line code s1 l x
        (has_back lines s.at (cd ++ ce) (l ∷ []) has).0 (tt, subst (λ r. MayReturn r s.callers) sound.1 may)
        (pays_for code g.locals x a out s s1 end l 1 _ (spend 1 w1) refl (λ w2 e2 h2.
        let le = k.left in
        (subst (λ r. AfterReturn code r out.flags s x v w2) sound.1 h2)
        (record { left = omega arith; typed = k.typed }) at1 (v ∷ drop out.flags s.stack) s.locals s.lists) h1))
        (eval set s.locals e s.world) h))
    exec_runs (end_record p) seen a out s end sound of fit fixed may flags has en h =
        let l = line EndRecord 1 p in
        at_line code s l x has.0 tt
        (pays_for code g.locals x a out s s end l 1 _ (spend 1 s.world) refl
        (λ w2 e2 h2. subst (λ r. AfterReturn code r out.flags s x None w2) sound h2) h)
    exec_runs (emit p table es e w) seen a out s end sound of fit fixed may flags has en h =
        let lines = code.lines in
        let cs = expressions_code (tables_in code) es s.at in
        let at1 = s.at + length cs in
        let ce = expression_code (tables_in code) e at1 in
        let at2 = s.at + length (cs ++ ce) in
        let cw = code_if_some (tables_in code) w at2 in
        let at3 = s.at + length ((cs ++ ce) ++ cw) in
        let l = line (Emit table (count_of es) (is_some w)) 1 p in
        let len : suc at3 ≡ end = omega (arith, en, length-append ((cs ++ ce) ++ cw) (l ∷ [])) in
        let parts = has_front lines s.at ((cs ++ ce) ++ cw) (l ∷ []) has in
        let parts1 = has_front lines s.at (cs ++ ce) cw parts in
        let d = sound.2.0 in
        nodes_run code g set room below seen es s at1 x sound.0 of.0 fit fixed (has_front lines s.at cs ce parts1) refl
        (after_values code g.locals x a out (types_of es) s s end at1 _ (λ vs w1 k1 h1.
        let s1 : State = record s { at = at1; stack = with_all vs s.stack; world = w1 } in
        expression_runs code g set room below seen e s1 at2 x sound.1 of.1 fit fixed (has_back lines s.at cs ce parts1)
        (omega (arith, length-append cs ce))
        (after_value code g.locals x a out (type_of e) s s1 end at2 _ (λ v w2 k2 h2.
        let le1 = k1.left in let le2 = k2.left in
        weight_runs seen w a out s end at2 at3 p table (count_of es) d vs v w2 sound.2.4 of.2 fit fixed
        (has_back lines s.at (cs ++ ce) cw parts) (omega (arith, length-append (cs ++ ce) cw))
        (has_back lines s.at ((cs ++ ce) ++ cw) (l ∷ []) has).0 len (omega arith) (tables_there table d sound.2.1)
        (subst (λ ts. AllFit vs ts) sound.2.2 k1.typed) (subst (λ t. Fits v t) sound.2.3 k2.typed)
        (ap length (sym sound.2.2) ∙ sym (nodes_counted es)) h2)
        (eval set s.locals e w1) h1)) (eval_all set s.locals es s.world) h)
    exec_runs (when p vs c body) seen a out s end sound of fit fixed may flags has en h =
        let tested = in_condition (seeing g seen) in
        let asking = with_all_bound vs (seeing g tested) in
        let within = with_all_bound (bound_inside vs) (seeing g seen) in
        let sound1 : IsTest (seeing g asking) c = subst (λ v. IsTest v c) (bound_more g tested vs) sound.1 in
        let sound2 : IsStm (seeing g within) (out_of_loops a) body =
        subst (λ v. IsStm v (out_of_loops a) body) (bound_more g seen (bound_inside vs)) sound.3 in
        when_runs code set g.locals s x a out p (expression_code (tables_in code) c)
        (λ f. statement_code (tables_in code) body (in_search out f))
        (λ l. eval set l c) (exec set body)
        (λ at end1 stack l lists w fit1 has1 en1 h1.
        expression_runs code g set room below asking c (elsewhere s at stack l lists w) end1 x
        sound1.0 of.2 fit1 fixed has1 en1
        (subst (λ t. AfterEval code t (elsewhere s at stack l lists w) end1 x (eval set l c w)) (sym sound1.1) h1))
        (λ f at end1 stack l lists w are fit1 has1 en1 h1.
        exec_runs body within (out_of_loops a) (in_search out f) (elsewhere s at stack l lists w) end1
        sound2 of.3 fit1 fixed may are has1 en1 h1)
        vs (variables_run vs tested s sound.0 of.0 fixed) of.1 end flags fit has en h

    pub all_run : (cs : Stms) (seen : Sight) (a : Around) (out : Exits) (s : State) (end : ℕ)
        → AreStms (seeing g seen) a cs → StmsHaveNames (tables_in code) cs
        → AllFit s.locals g.locals → IsFixed g set room s.callers s.statics s.input → MayReturn a.result s.callers
        → AreFlags out.flags s.stack → HasAt code.lines s.at (statements_code (tables_in code) cs out s.at)
        → s.at + length (statements_code (tables_in code) cs out s.at) ≡ end
        → AfterExec code a g.locals out s end x (exec_all set cs s.locals s.world) → ComesTo code s x
    all_run no_stms seen a out s end sound of fit fixed may flags has en h =
        let same : s.at ≡ end = omega (arith, en) in
        subst (λ k. ComesTo code (record s { at = k }) x) (sym same) (h (record { left = omega arith; typed = fit }))
    all_run (with_stm c cs) seen a out s end sound of fit fixed may flags has en h =
        let front = statement_code (tables_in code) c out s.at in
        let at1 = s.at + length front in
        let rest = statements_code (tables_in code) cs out at1 in
        let len : at1 + length rest ≡ end = omega (arith, en, length-append front rest) in
        let more = seen_after (seeing g seen) c in
        let sound1 : AreStms (seeing g more) a cs = subst (λ v. AreStms v a cs) (seen_more g seen c) sound.1 in
        exec_runs c seen a out s at1 sound.0 of.0 fit fixed may flags (has_front code.lines s.at front rest has) refl
        (after_then code g.locals x a out s end at1 s.at s.locals s.world (exec_all set cs) (omega arith)
        (λ l w k h1. (let le = k.left in
        all_run cs more a out (record s { at = at1; locals = l; world = w }) end sound1 of.1 k.typed fixed may flags
        (has_back code.lines s.at front rest has) len
        (from_later code g.locals x a out s end at1 l w le (exec_all set cs l w) h1)))
        (exec set c s.locals s.world) h)
