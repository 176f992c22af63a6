-- The code of expressions does what they mean, in each state where what they see is there.
use Rattle.std.proofs.Common.{◌≡◌, ℕ, suc, ◌+◌, ◌≤◌, ◌<◌, List, ◌∷◌, ◌++◌, length, IsSome, refl, sym, subst, arith, length-append}
use Rattle.sz_types.specs.Data.{Shape}
use Rattle.sz_types.specs.declared.place.Place.{Place}
use Rattle.sz_core.specs.Nodes.{Node, node, Form, constant, local, static, input, call, builtin, def, convert, array, tuple, mapping, index, slice, type_of}
use Rattle.sz_core.specs.Nodes.{field, unary, binary, both, either, Nodes, no_nodes, with_node, Pairings, no_pairings, with_pairing, types_of}
use Rattle.sz_core.specs.Typing.{Sight, IsNode, IsForm, AreNodes, ArePairings}
use Rattle.sz_instr.specs.declared.instr.Instr.TheVariants.{Unary, Binary, Apply, MakeArray, MakeTuple, MakeMap, Index, Slice, Field, Def, AndTest, OrTest}
use Rattle.sz_instr.specs.declared.line.Line.{Line}
use Rattle.sz_instr.specs.declared.code.Code.{Code}
use Rattle.sz_world_rules.specs.Slots.{slot_at}
use Rattle.sz_world_rules.specs.Typed.{Fits}
use Rattle.sz_world_rules.specs.Operations.{unary_of, binary_of, applied, element_of, slice_of, part_of, definedness, converted, array_of, tuple_of, map_of}
use Rattle.sz_world_rules.specs.Ticks.{no_weight, result_weight, binary_weight, builtin_weight, conversion_weight}
use Rattle.sz_mean.specs.Expressions.{Setting, if_true, if_false, results, eval, eval_form, eval_all, eval_pairings}
use Rattle.sz_instr.specs.States.{State, After}
use Rattle.sz_instr.specs.Runs.{ComesTo}
use Rattle.sz_gen_rules.specs.Tables.{Tables, tables_in}
use Rattle.sz_gen_rules.specs.ExpressionCode.{expression_code, form_code, expressions_code, pairings_code, conversion, count_of, pair_count_of}
use Rattle.sz_gen_rules.specs.Named.{HasNames, FormHasNames, HaveNames, PairingsHaveNames}
use Rattle.sz_gen_rules.specs.Runs.{AfterEval, AfterAll, CallsBelow, Ready, HasAt}
use Rattle.sz_gen_rules.proofs.Steps.{has_front, has_back}
use Rattle.sz_gen_rules.proofs.Leaves.{constant_runs, local_runs, static_runs, input_runs}
use Rattle.sz_gen_rules.proofs.Types.{pair_types}
use Rattle.sz_gen_rules.proofs.Operators.{one_runs, two_runs, three_runs, unary_leaves, binary_leaves, element_leaves, slice_leaves, part_leaves, definedness_leaves}
use Rattle.sz_gen_rules.proofs.Composites.{many_runs, none_run, after_head, after_pair, applied_leaves, array_leaves, tuple_leaves, map_leaves}
use Rattle.sz_gen_rules.proofs.Conversions.{conversion_leaves}
use Rattle.sz_gen_rules.proofs.Choices.{and_chooses, or_chooses, choice_runs}
use Rattle.sz_gen_rules.proofs.CallExpressions.{call_runs}

module _ (code : Code) (g : Sight) (setting : Setting) (room limit : ℕ)
    (below : CallsBelow code g.functions setting.statics room limit setting.calls) where
  abbrev lines : List Line
  lines = code.lines

  abbrev tables : Tables
  tables = tables_in code

  mutual
    unfolding IsNode IsForm AreNodes ArePairings

    pub eval_runs : (e : Node) (s : State) (end : ℕ) (x : After) → IsNode g e → HasNames tables e
        → Ready g setting room s → s.world.left ≤ limit
        → HasAt lines s.at (expression_code tables e s.at) → s.at + length (expression_code tables e s.at) ≡ end
        → AfterEval code (type_of e) s end x (eval setting s.locals e s.world) → ComesTo code s x
    eval_runs (node place t form) s end x sound named ready low has ends h =
        form_runs place t form s end x sound named ready low has ends h

    form_runs : (place : Place) (t : Shape) (form : Form) (s : State) (end : ℕ) (x : After) → IsForm g t form
        → FormHasNames tables t form → Ready g setting room s → s.world.left ≤ limit
        → HasAt lines s.at (form_code tables place t form s.at)
        → s.at + length (form_code tables place t form s.at) ≡ end
        → AfterEval code t s end x (eval_form setting s.locals place t form s.world) → ComesTo code s x
    form_runs place t (constant d) s end x sound named ready low has ends h =
        constant_runs code place t s end x (omega (arith, ends)) d named sound has h
    form_runs place t (local n) s end x sound named ready low has ends h =
        let there = ready.locals_typed n t sound.1 in
        local_runs code place t s end x (omega (arith, ends)) n there.0 there.1 has h
    form_runs place t (static n) s end x sound named ready low has ends h =
        let same = sym ready.statics_same in
        let there = ready.statics_typed n t sound in
        static_runs code place t s end x (omega (arith, ends)) n (subst (λ l. n < length l) same there.0)
        (subst (λ l. Fits (slot_at l n) t) same there.1) has
        (subst (λ l. AfterEval code t s end x (results place no_weight (slot_at l n) s.world)) same h)
    form_runs place t input s end x sound named ready low has ends h =
        let there = ready.input_seen sound.0 in
        let same = sym there.0 in
        input_runs code place t s end x (omega (arith, ends)) (subst (λ v. IsSome v) same there.1)
        (subst (λ v. Fits v t) same (subst (λ u. Fits setting.input u) (sym sound.1) there.2)) has
        (subst (λ v. AfterEval code t s end x (results place no_weight v s.world)) same h)
    form_runs place t (call f es) s end x sound named ready low has ends h =
        let ca = expressions_code tables es s.at in
        call_runs code g.functions setting.statics room limit setting.calls below t f sound.1.0 place s end x
        (types_of es) ca (eval_all setting s.locals es)
        sound.1.1 sound.1.2 sound.1.3 ready.statics_same ready.room_left low has ends
        (λ h1. all_run es s (s.at + length ca) x sound.0 named ready low (has_front lines s.at ca _ has) refl h1) h
    form_runs place t (builtin b es) s end x sound named ready low has ends h =
        let ca = expressions_code tables es s.at in
        many_runs code t (Apply b) place s end x (types_of es) (builtin_weight b) (applied b) ca
        (eval_all setting s.locals es) (applied_leaves code b (types_of es) t sound.1) has ends
        (λ h1. all_run es s (s.at + length ca) x sound.0 named ready low (has_front lines s.at ca _ has) refl h1) h
    form_runs place t (def e) s end x sound named ready low has ends h =
        let ca = expression_code tables e s.at in
        one_runs code t Def place s end x (type_of e) (λ y. no_weight) definedness ca (eval setting s.locals e)
        (definedness_leaves code (type_of e) t sound.1) has ends
        (λ h1. eval_runs e s (s.at + length ca) x sound.0 named ready low (has_front lines s.at ca _ has) refl h1) h
    form_runs place t (convert e) s end x sound named ready low has ends h =
        let ca = expression_code tables e s.at in
        one_runs code t (conversion tables (type_of e) t) place s end x (type_of e) (conversion_weight t)
        (converted t) ca (eval setting s.locals e)
        (λ y s1 fits. conversion_leaves code (type_of e) t y s1 fits sound.2 named.1) has ends
        (λ h1. eval_runs e s (s.at + length ca) x sound.0 named.0 ready low (has_front lines s.at ca _ has) refl h1) h
    form_runs place t (array es) s end x sound named ready low has ends h =
        let ca = expressions_code tables es s.at in
        many_runs code t (MakeArray (count_of es)) place s end x (types_of es) result_weight array_of ca
        (eval_all setting s.locals es) (array_leaves code es t sound.2.0 sound.2.1 sound.2.2) has ends
        (λ h1. all_run es s (s.at + length ca) x sound.0 named ready low (has_front lines s.at ca _ has) refl h1) h
    form_runs place t (tuple es) s end x sound named ready low has ends h =
        let ca = expressions_code tables es s.at in
        many_runs code t (MakeTuple (count_of es)) place s end x (types_of es) result_weight tuple_of ca
        (eval_all setting s.locals es) (tuple_leaves code es t sound.2.0 sound.2.1 sound.2.2) has ends
        (λ h1. all_run es s (s.at + length ca) x sound.0 named ready low (has_front lines s.at ca _ has) refl h1) h
    form_runs place t (mapping ps) s end x sound named ready low has ends h =
        let ca = pairings_code tables ps s.at in
        let k = sound.1.0 in
        let v = sound.1.1 in
        many_runs code t (MakeMap (pair_count_of ps)) place s end x
        (pair_types k v (pair_count_of ps)) result_weight map_of ca (eval_pairings setting s.locals ps)
        (map_leaves code (pair_count_of ps) t k v sound.1.2) has ends
        (λ h1. pairings_run k v ps s (s.at + length ca) x sound.1.3 named ready low
        (has_front lines s.at ca _ has) refl h1) h
    form_runs place t (index e i) s end x sound named ready low has ends h =
        let ca = expression_code tables e s.at in
        let cb = expression_code tables i (s.at + length ca) in
        let has1 = has_front lines s.at (ca ++ cb) _ has in
        two_runs code t Index place s end x (type_of e) (type_of i) no_weight element_of ca cb
        (eval setting s.locals e) (eval setting s.locals i)
        (element_leaves code (type_of e) (type_of i) t sound.2) has ends
        (λ h1. eval_runs e s (s.at + length ca) x sound.0 named.0 ready low (has_front lines s.at ca cb has1) refl h1)
        (λ y w less h1. eval_runs i (record s { at = s.at + length ca; stack = y ∷ s.stack; world = w })
        (s.at + length (ca ++ cb)) x sound.1 named.1 ready
        (omega (arith, less, low)) (has_back lines s.at ca cb has1) (omega (arith, length-append ca cb)) h1) h
    form_runs place t (slice e i j) s end x sound named ready low has ends h =
        let ca = expression_code tables e s.at in
        let cb = expression_code tables i (s.at + length ca) in
        let cd = expression_code tables j (s.at + length (ca ++ cb)) in
        let has1 = has_front lines s.at ((ca ++ cb) ++ cd) _ has in
        let has2 = has_front lines s.at (ca ++ cb) cd has1 in
        three_runs code t Slice place s end x (type_of e) (type_of i) (type_of j) result_weight slice_of ca cb cd
        (eval setting s.locals e) (eval setting s.locals i) (eval setting s.locals j)
        (slice_leaves code (type_of e) (type_of i) (type_of j) t sound.3 sound.4 sound.5) has ends
        (λ h1. eval_runs e s (s.at + length ca) x sound.0 named.0 ready low (has_front lines s.at ca cb has2) refl h1)
        (λ y w less h1. eval_runs i (record s { at = s.at + length ca; stack = y ∷ s.stack; world = w })
        (s.at + length (ca ++ cb)) x sound.1 named.1 ready
        (omega (arith, less, low)) (has_back lines s.at ca cb has2) (omega (arith, length-append ca cb)) h1)
        (λ y z w less h1. eval_runs j (record s { at = s.at + length (ca ++ cb); stack = z ∷ y ∷ s.stack; world = w })
        (s.at + length ((ca ++ cb) ++ cd)) x sound.2 named.2 ready (omega (arith, less, low))
        (has_back lines s.at (ca ++ cb) cd has1) (omega (arith, length-append (ca ++ cb) cd)) h1) h
    form_runs place t (field e n) s end x sound named ready low has ends h =
        let ca = expression_code tables e s.at in
        one_runs code t (Field n) place s end x (type_of e) (λ y. no_weight) (part_of n) ca (eval setting s.locals e)
        (part_leaves code (type_of e) t sound.1.0 n sound.1.1 sound.1.2) has ends
        (λ h1. eval_runs e s (s.at + length ca) x sound.0 named ready low (has_front lines s.at ca _ has) refl h1) h
    form_runs place t (unary o e) s end x sound named ready low has ends h =
        let ca = expression_code tables e s.at in
        one_runs code t (Unary o) place s end x (type_of e) (λ y. no_weight) (unary_of o) ca (eval setting s.locals e)
        (unary_leaves code o (type_of e) t sound.1) has ends
        (λ h1. eval_runs e s (s.at + length ca) x sound.0 named ready low (has_front lines s.at ca _ has) refl h1) h
    form_runs place t (binary o a b) s end x sound named ready low has ends h =
        let ca = expression_code tables a s.at in
        let cb = expression_code tables b (s.at + length ca) in
        let has1 = has_front lines s.at (ca ++ cb) _ has in
        two_runs code t (Binary o) place s end x (type_of a) (type_of b) (binary_weight o) (binary_of o)
        ca cb (eval setting s.locals a) (eval setting s.locals b)
        (binary_leaves code o (type_of a) (type_of b) t sound.2) has ends
        (λ h1. eval_runs a s (s.at + length ca) x sound.0 named.0 ready low (has_front lines s.at ca cb has1) refl h1)
        (λ y w less h1. eval_runs b (record s { at = s.at + length ca; stack = y ∷ s.stack; world = w })
        (s.at + length (ca ++ cb)) x sound.1 named.1 ready
        (omega (arith, less, low)) (has_back lines s.at ca cb has1) (omega (arith, length-append ca cb)) h1) h
    form_runs place t (both a b) s end x sound named ready low has ends h =
        let ca = expression_code tables a s.at in
        choice_runs code AndTest if_true (and_chooses code) t (type_of a) (type_of b) place s end x ca
        (expression_code tables b) (eval setting s.locals a)
        (eval setting s.locals b) sound.4 sound.2 sound.3 has ends
        (λ h1. eval_runs a s (s.at + length ca) x sound.0 named.0 ready low (has_front lines s.at ca _ has) refl h1)
        (λ w less h1. eval_runs b (record s { at = suc (s.at + length ca); world = w }) _ x sound.1 named.1 ready
        (omega (arith, less, low))
        (has_front lines (suc (s.at + length ca)) _ _ (has_back lines s.at ca _ has).1) refl h1) h
    form_runs place t (either a b) s end x sound named ready low has ends h =
        let ca = expression_code tables a s.at in
        choice_runs code OrTest if_false (or_chooses code) t (type_of a) (type_of b) place s end x ca
        (expression_code tables b) (eval setting s.locals a)
        (eval setting s.locals b) sound.4 sound.2 sound.3 has ends
        (λ h1. eval_runs a s (s.at + length ca) x sound.0 named.0 ready low (has_front lines s.at ca _ has) refl h1)
        (λ w less h1. eval_runs b (record s { at = suc (s.at + length ca); world = w }) _ x sound.1 named.1 ready
        (omega (arith, less, low))
        (has_front lines (suc (s.at + length ca)) _ _ (has_back lines s.at ca _ has).1) refl h1) h

    pub all_run : (es : Nodes) (s : State) (end : ℕ) (x : After) → AreNodes g es → HaveNames tables es
        → Ready g setting room s → s.world.left ≤ limit
        → HasAt lines s.at (expressions_code tables es s.at) → s.at + length (expressions_code tables es s.at) ≡ end
        → AfterAll code (types_of es) s end x (eval_all setting s.locals es s.world) → ComesTo code s x
    all_run no_nodes s end x sound named ready low has ends h = none_run code s end x ends h
    all_run (with_node e es) s end x sound named ready low has ends h =
        let ca = expression_code tables e s.at in
        let at1 = s.at + length ca in
        let len : at1 + length (expressions_code tables es at1) ≡ end =
        omega (arith, ends, length-append ca (expressions_code tables es at1)) in
        eval_runs e s at1 x sound.0 named.0 ready low (has_front lines s.at ca _ has) refl
        (after_head code (type_of e) (types_of es) s end at1 x (eval_all setting s.locals es) (λ y w kept h1.
        all_run es (record s { at = at1; stack = y ∷ s.stack; world = w }) end x sound.1 named.1 ready
        (omega (arith, kept.left, low))
        (has_back lines s.at ca (expressions_code tables es at1) has) len h1) (eval setting s.locals e s.world) h)

    pairings_run : (k v : Shape) (ps : Pairings) (s : State) (end : ℕ) (x : After) → ArePairings g k v ps
        → PairingsHaveNames tables ps → Ready g setting room s → s.world.left ≤ limit
        → HasAt lines s.at (pairings_code tables ps s.at) → s.at + length (pairings_code tables ps s.at) ≡ end
        → AfterAll code (pair_types k v (pair_count_of ps)) s end x (eval_pairings setting s.locals ps s.world)
        → ComesTo code s x
    pairings_run k v no_pairings s end x sound named ready low has ends h = none_run code s end x ends h
    pairings_run k v (with_pairing a b ps) s end x sound named ready low has ends h =
        let ca = expression_code tables a s.at in
        let at1 = s.at + length ca in
        let cb = expression_code tables b at1 in
        let at2 = s.at + length (ca ++ cb) in
        let cd = pairings_code tables ps at2 in
        let has1 = has_front lines s.at (ca ++ cb) cd has in
        eval_runs a s at1 x sound.0 named.0 ready low (has_front lines s.at ca cb has1) refl
        (subst (λ u. AfterEval code u s at1 x (eval setting s.locals a s.world)) (sym sound.2)
        (after_pair code k v (pair_types k v (pair_count_of ps)) s end at1 at2 x (eval setting s.locals b)
        (eval_pairings setting s.locals ps)
        (λ y w kept h1. let s1 : State = record s { at = at1; stack = y ∷ s.stack; world = w } in
        eval_runs b s1 at2 x sound.1 named.1 ready (omega (arith, kept.left, low))
        (has_back lines s.at ca cb has1) (omega (arith, length-append ca cb))
        (subst (λ u. AfterEval code u s1 at2 x (eval setting s.locals b w)) (sym sound.3) h1))
        (λ y z w less h1. pairings_run k v ps (record s { at = at2; stack = z ∷ y ∷ s.stack; world = w }) end x
        sound.4 named.2 ready (omega (arith, less, low)) (has_back lines s.at (ca ++ cb) cd has)
        (omega (arith, ends, length-append (ca ++ cb) cd)) h1) (eval setting s.locals a s.world) h))
