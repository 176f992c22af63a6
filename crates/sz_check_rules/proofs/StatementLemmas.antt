-- Statements without statements in them are sound as they are judged.
use Rattle.std.proofs.Common.{◌≡◌, true, length, Option, Some, None, true≢false, refl, sym, ap, ◌∙◌, subst}
use Rattle.std.specs.Prelude.{is_some, IfSome}
use Rattle.std.proofs.lemmas.Option.{slice_get_within}
use Rattle.sz_types.specs.Data.{Shape}
use Rattle.sz_types.specs.Rows.{sum_row, difference_row}
use Rattle.sz_types.specs.declared.place.Place.{Place}
use Rattle.sz_types.specs.declared.operator.BinOp.TheVariants.{Add, Sub}
use Rattle.sz_tree.specs.Names.{Ident}
use Rattle.sz_tree.specs.Types.{Typ}
use Rattle.sz_tree.specs.Expressions.{Exp, Exps}
use Rattle.sz_tree.specs.Expressions as exps
use Rattle.sz_tree.specs.Statements.{SimpleForm, assign, increment, decrement, call_of, FirstForm, first_declare, first_define, first_simple}
use Rattle.sz_core.specs.Nodes.{Node, type_of}
use Rattle.sz_core.specs.Statements as core
use Rattle.sz_core.specs.Typing.{Sight}
use Rattle.sz_core.specs.Sound.{BeginsWith, IsStm, AreStms, IsTest, IsWeightOf}
use Rattle.sz_check_rules.specs.Refusals.{Judged}
use Rattle.sz_check_rules.specs.Names.{Meaning}
use Rattle.sz_check_rules.specs.Names as names
use Rattle.sz_check_rules.specs.Agreeing.{in_turn, converted}
use Rattle.sz_check_rules.specs.JudgingTypes.{judge_type}
use Rattle.sz_check_rules.specs.JudgingExpressions.{judge_exps}
use Rattle.sz_check_rules.specs.Scene.{Scene}
use Rattle.sz_check_rules.specs.Scenes.{judge, judge_if_some}
use Rattle.sz_check_rules.specs.JudgingStatements.{Around}
use Rattle.sz_check_rules.specs.JudgingSimple.{judge_declaration, judge_initialised, judge_definition, judge_simple, judge_first, judge_between, test_if_some}
use Rattle.sz_check_rules.specs.JudgingSimple.{judge_return, Numbered, table_named, weight_agrees, same_presence, Emitted, judge_emitted, judge_emit, done}
use Rattle.sz_check_rules.proofs.Holds.{Holds, ok_holds, err_holds, bind_holds, known, weaker, both_hold, unless_holds}
use Rattle.sz_check_rules.proofs.Meanings.{looked_up}
use Rattle.sz_check_rules.proofs.Sights.{IsFormed, IsTableOf, Fits}
use Rattle.sz_check_rules.proofs.TypeSound.{type_formed}
use Rattle.sz_check_rules.proofs.RowLemmas.{sum_keeps, difference_keeps}
use Rattle.sz_check_rules.proofs.AgreeLemmas.{IsTyped, AreTyped, HasType, all_nodes, agrees_holds, counted_holds, agree_in_turn, converted_holds}
use Rattle.sz_check_rules.proofs.NodeLemmas.{test_holds}
use Rattle.sz_check_rules.proofs.OwnTypes.{own_or_asked, call_is_made}
use Rattle.sz_check_rules.proofs.ExpressionSound.{expressions_typed}
use Rattle.sz_check_rules.proofs.SceneLemmas.{Sees, judged, begins_itself, begins_more, HasVariable, variable_added, added, IsSoundHere, IsLater, IsDone, IsSimple}
use Rattle.sz_check_rules.proofs.SceneLemmas.{simple_done}
use Rattle.sz_check_rules.proofs.PathLemmas.{assignment_sound, change_sound}

-- ---- declarations

grown : (n : Ident) (t : Shape) (s after : Scene) → HasVariable n t s after → BeginsWith s.locals after.locals
grown n t s after h = subst (BeginsWith s.locals) (sym h.locals) (begins_more s.locals t)

-- a declaration without a value
pub declaration_sound : (a : Around) (s : Scene) (n : Ident) (t : Typ) → Holds (judge_declaration s n t) (IsLater a s)
unfolding IsStm
declaration_sound a s n t =
    bind_holds (known (judge_type s.blocks t)) (λ u judged_type. bind_holds (variable_added n u s) (λ after h.
    ok_holds (IsLater a s) (record { scene = after; stm = core.clear (length s.locals) }) (record {
      grows = grown n u s after h;
      is_sound = λ g sees final.
          let is = added g n u s after h sees ((type_formed g s.blocks sees.fit t).holds u judged_type) final in
          record { stm = (slice_get_within g.locals (length s.locals) u is.here, is.free); sees = is.sees };
    })))

-- a value that is kept in a variable of its type
kept_sound : (a : Around) (g : Sight) (s after : Scene) (n : Ident) (t : Shape) (value : Node)
    → HasVariable n t s after → Sees g s → IsFormed t → HasType g t value → BeginsWith after.locals g.locals
    → IsSoundHere g a (record { scene = after; stm = core.keep n.place (length s.locals) value })
unfolding IsStm
kept_sound a g s after n t value h sees formed k final =
    let is = added g n t s after h sees formed final in
    record { stm = (k.typed, is.here ∙ ap Some (sym k.is), is.free); sees = is.sees }

-- a declaration with a value
pub initialised_sound : (a : Around) (s : Scene) (n : Ident) (t : Typ) (e : Exp)
    → Holds (judge_initialised s n t e) (IsLater a s)
initialised_sound a s n t e = bind_holds (known (judge_type s.blocks t))
    (λ u judged_type. bind_holds (known (judge s (Some u) e)) (λ m judged_value.
    bind_holds (known (converted u e m)) (λ value judged_as. bind_holds (variable_added n u s) (λ after h.
    ok_holds (IsLater a s) (record { scene = after; stm = core.keep n.place (length s.locals) value }) (record {
      grows = grown n u s after h;
      is_sound = λ g sees final.
          let formed = (type_formed g s.blocks sees.fit t).holds u judged_type in
          let typed = (judged g s sees (Some u) e formed).holds m judged_value in
          let own = (own_or_asked s.blocks true (Some u) e).holds m judged_value in
          kept_sound a g s after n u value h sees formed
          ((converted_holds g u e m formed typed own).holds value judged_as) final;
    })))))

-- a definition
pub definition_sound : (a : Around) (s : Scene) (n : Ident) (e : Exp) → Holds (judge_definition s n e) (IsLater a s)
definition_sound a s n e = bind_holds (known (judge s None e))
    (λ value judged_value. bind_holds (variable_added n (type_of value) s) (λ after h.
    ok_holds (IsLater a s) (record { scene = after; stm = core.keep n.place (length s.locals) value }) (record {
      grows = grown n (type_of value) s after h;
      is_sound = λ g sees final.
          let typed = (judged g s sees None e tt).holds value judged_value in
          kept_sound a g s after n
          (type_of value) value h sees typed.formed (record { typed = typed.typed; is = refl }) final;
    })))

-- ---- statements that declare nothing

-- a statement that is sound where its scene is seen, and declares nothing
pub done_sound : (a : Around) (s : Scene) (judging : Judged core.Stm)
    → ((g : Sight) → Sees g s → Holds judging (IsDone g a)) → Holds (done s judging) (IsLater a s)
done_sound a s judging h =
    bind_holds (known judging) (λ m is. ok_holds (IsLater a s) (record { scene = s; stm = m }) (record {
      grows = begins_itself s.locals;
      is_sound = λ g sees final.
          let done = (h g sees).holds m is in
          record { stm = done.stm; sees = subst (λ x. Sees x s) (sym done.same) sees };
    }))

module _ (a : Around) (g : Sight) (s : Scene) (sees : Sees g s) where
  -- an assignment, a change or a call
  pub simple_sound : (t : SimpleForm) → Holds (judge_simple s t) (IsSimple g a)
  unfolding IsStm
  simple_sound (assign path e) = assignment_sound g s sees a path e
  simple_sound (increment n) = change_sound g s sees a n Add sum_row (λ t. refl) sum_keeps
  simple_sound (decrement n) = change_sound g s sees a n Sub difference_row (λ t. refl) difference_keeps
  simple_sound (call_of n es) =
      bind_holds (both_hold (judged g s sees None (exps.call n es) tt) (call_is_made s.blocks true None n es)) (λ m h.
      ok_holds (IsSimple g a) (core.evaluate n.place m) (record { stm = (h.0.typed, h.1); between = tt }))

  -- what is done between the turns of a `for`
  pub between_sound : (t : Option SimpleForm) → Holds (judge_between s t) (IsSimple g a)
  unfolding IsStm AreStms
  between_sound None = ok_holds (IsSimple g a) core.nothing (record { stm = tt; between = tt })
  between_sound (Some t) = simple_sound t

  -- an expression that may be missing
  abbrev pub MayBeTyped : Option Exp → Option Node → Type 0
  MayBeTyped None None = Unit {0}
  MayBeTyped (Some e) (Some n) = IsTyped g n
  MayBeTyped _ _ = ⊥

  -- an expression that may be missing has its type
  pub maybe_judged : (asked : Option Shape) (e : Option Exp) → IfSome asked IsFormed
      → Holds (judge_if_some s asked e) (MayBeTyped e)
  maybe_judged asked None ask = ok_holds (MayBeTyped None) None tt
  maybe_judged asked (Some e) ask =
      bind_holds (judged g s sees asked e ask) (λ n h. ok_holds (MayBeTyped (Some e)) (Some n) h)

  -- a test that may be missing is one
  pub maybe_test : (e : Option Exp) (n : Option Node) → MayBeTyped e n
      → Holds (test_if_some e n) (λ u. IfSome n (IsTest g))
  maybe_test None None h = ok_holds _ _ tt
  maybe_test None (Some n) h = absurd h
  maybe_test (Some e) None h = absurd h
  maybe_test (Some e) (Some n) h = weaker (test_holds g e n) (λ u is. (h.typed, is))

  -- a `return`
  pub return_sound : (p : Place) (e : Option Exp) → IfSome a.result IsFormed
      → Holds (judge_return s p a.result e) (IsDone g a)
  unfolding IsStm
  return_sound p e formed = by_result a.result refl e formed
    where
      by_result : (result : Option Shape) → a.result ≡ result → (e : Option Exp) → IfSome result IsFormed
          → Holds (judge_return s p result e) (IsDone g a)
      by_result None is None formed = ok_holds (IsDone g a) (core.end_record p) (record { stm = is; same = refl })
      by_result None is (Some e) formed = err_holds _ _
      by_result (Some t) is None formed = err_holds _ _
      by_result (Some t) is (Some e) formed =
          bind_holds (judged g s sees (Some t) e formed) (λ value h. bind_holds (agrees_holds t e value) (λ u same.
          ok_holds (IsDone g a) (core.return_value p value)
          (record { stm = (h.typed, is ∙ ap Some (sym same)); same = refl })))

  -- the table that a name stands for
  table_found : (n : Ident) (m : Meaning) → Fits g m → Holds (table_named n m) (λ t. IsTableOf g t.number t.declaration)
  table_found n (names.variable k t) h = err_holds _ _
  table_found n (names.quantified k t) h = err_holds _ _
  table_found n (names.static k t) h = err_holds _ _
  table_found n (names.type_name t) h = err_holds _ _
  table_found n (names.table k d) h =
      ok_holds (λ (t : Numbered). IsTableOf g t.number t.declaration) (record { number = k; declaration = d }) h
  table_found n (names.function k s) h = err_holds _ _
  table_found n (names.predeclared b) h = err_holds _ _
  table_found n names.input h = err_holds _ _

  weight_sound : (t : Option Shape) (e : Option Exp) (n : Option Node) → MayBeTyped e n
      → Holds (weight_agrees t e n) (λ u. same_presence (is_some t) (is_some e) ≡ true → IsWeightOf g t n)
  weight_sound None None None h = ok_holds _ _ (λ same. tt)
  weight_sound None None (Some n) h = absurd h
  weight_sound None (Some e) n h = ok_holds _ _ (λ same. absurd (true≢false (sym same)))
  weight_sound (Some t) None n h = ok_holds _ _ (λ same. absurd (true≢false (sym same)))
  weight_sound (Some t) (Some e) None h = absurd h
  weight_sound (Some t) (Some e) (Some n) h = weaker (agrees_holds t e n) (λ u is same. (h.typed, is))

  -- the parts of an emit have their types
  record AreParts (es : Exps) (w : Option Exp) (x : Emitted) : Type 0 where
    indexes : AreTyped g es x.indexes
    value : IsTyped g x.value
    weight : MayBeTyped w x.weight

  -- an `emit`
  pub emit_sound : (p : Place) (n : Ident) (es : Exps) (e : Exp) (w : Option Exp)
      → Holds (judge_emit s p n es e w) (IsDone g a)
  unfolding IsStm
  emit_sound p n es e w =
      bind_holds (looked_up (Fits g) n s.blocks sees.fit) (λ m fits. bind_holds (table_found n m fits) (λ t table.
      bind_holds (parts_typed t table) (λ x h. bind_holds
      (bind_holds (agree_in_turn g t.declaration.indexes es x.indexes h.indexes)
      (λ u types. bind_holds (agrees_holds t.declaration.element e x.value)
      (λ v element. bind_holds (weight_sound t.declaration.weight w x.weight h.weight)
      (λ y weights. bind_holds (counted_holds _ es n.place) (λ z count.
      weaker {Q = λ (u : Unit {0}). IsDone g a (core.emit p t.number x.indexes x.value x.weight)}
      (unless_holds (same_presence (is_some t.declaration.weight) (is_some w)) _) (λ k both. record {
        stm = (
          all_nodes g es x.indexes h.indexes,
          h.value.typed,
          (t.declaration, table.here, types count, element, weights both),
        );
        same = refl;
      })))))) (λ u is. ok_holds (IsDone g a) (core.emit p t.number x.indexes x.value x.weight) is))))
    where
      indexes_typed : (t : Numbered) → IsTableOf g t.number t.declaration
          → Holds (judge_exps s.blocks true (in_turn t.declaration.indexes) es) (AreTyped g es)
      indexes_typed t table =
          subst (λ b. Holds (judge_exps s.blocks b (in_turn t.declaration.indexes) es) (AreTyped g es)) sees.emits
          (expressions_typed g s.blocks sees.fit (in_turn t.declaration.indexes) es table.indexes)

      parts_typed : (t : Numbered) → IsTableOf g t.number t.declaration
          → Holds (judge_emitted s t.declaration es e w) (AreParts es w)
      parts_typed t table = bind_holds (indexes_typed t table) (λ indexes h.
          bind_holds (judged g s sees (Some t.declaration.element) e table.element) (λ value k.
          bind_holds (maybe_judged t.declaration.weight w table.weight) (λ weight l.
          ok_holds (AreParts es w) (record { indexes = indexes; value = value; weight = weight })
          (record { indexes = h; value = k; weight = l }))))

-- an assignment, a change or a call declares nothing
pub simple_after : (a : Around) (s : Scene) (t : SimpleForm) → Holds (done s (judge_simple s t)) (IsLater a s)
simple_after a s t =
    done_sound a s (judge_simple s t) (λ g sees. weaker (simple_sound a g s sees t) (λ m h. simple_done g a m h))

-- the first part of a `for`
pub first_sound : (a : Around) (s : Scene) (f : Option FirstForm) → Holds (judge_first s f) (IsLater a s)
unfolding IsStm AreStms
first_sound a s None = ok_holds (IsLater a s) (record { scene = s; stm = core.nothing }) (record {
  grows = begins_itself s.locals;
  is_sound = λ g sees final. record { stm = tt; sees = sees };
})
first_sound a s (Some (first_declare n t e)) = initialised_sound a s n t e
first_sound a s (Some (first_define n e)) = definition_sound a s n e
first_sound a s (Some (first_simple t)) = simple_after a s t
