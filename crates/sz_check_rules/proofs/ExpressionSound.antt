-- An expression that is judged has its type.
use Rattle.std.proofs.Common.{List, [], ◌∷◌, Option, None, refl}
use Rattle.std.specs.Prelude.{IfSome}
use Rattle.std.specs.Cmp.{first_so, second_so}
use Rattle.sz_types.specs.Data.{Shape}
use Rattle.sz_tree.specs.Expressions.{Exp, literal, named, call, def, paren, convert, list, mapping, index, slice, field, Exps, end, more, Pairs, no_pairs}
use Rattle.sz_tree.specs.Expressions.{pair}
use Rattle.sz_tree.specs.Expressions as trees
use Rattle.sz_core.specs.Nodes.{node, no_nodes, with_node, no_pairings, with_pairing, type_of}
use Rattle.sz_core.specs.Nodes as forms
use Rattle.sz_core.specs.WellFormed.{is_well_formed, are_well_formed}
use Rattle.sz_core.specs.Typing.{Sight, HasOwnType, IsNode, IsForm}
use Rattle.sz_check_rules.specs.Names.{Block}
use Rattle.sz_check_rules.specs.Agreeing.{Asks, nothing, each, in_turn, asked_first, asked_after}
use Rattle.sz_check_rules.specs.JudgingTypes.{shape_of}
use Rattle.sz_check_rules.specs.JudgingExpressions.{judge_exp, judge_exps, judge_pairs, literal_node}
use Rattle.sz_check_rules.specs.JudgingCalls.{asks_of_callee}
use Rattle.sz_check_rules.specs.JudgingComposites.{asks_of_list, asked_of_keys, asked_of_values}
use Rattle.sz_check_rules.specs.JudgingOperators.{asked_of_right, operation_of}
use Rattle.sz_check_rules.proofs.Holds.{Holds, ok_holds, bind_holds, both_hold}
use Rattle.sz_check_rules.proofs.Meanings.{looked_up}
use Rattle.sz_check_rules.proofs.Sights.{IsFormed, Fits, AllFit}
use Rattle.sz_check_rules.proofs.TypeSound.{basic_formed}
use Rattle.sz_core.proofs.ForCallers.{truth_formed}
use Rattle.sz_check_rules.proofs.OwnTypes.{takes_own, arguments_own}
use Rattle.sz_check_rules.proofs.AgreeLemmas.{IsTyped, AreTyped, PairsTyped}
use Rattle.sz_check_rules.proofs.NodeLemmas.{AskFormed, literal_typed, variable_typed, callee_fits, callee_asks, call_typed, conversion_typed, list_typed}
use Rattle.sz_check_rules.proofs.NodeLemmas.{list_asks, mapping_typed, keys_ask, values_ask, index_typed, slice_typed, field_typed, unary_typed, binary_typed}
use Rattle.sz_check_rules.proofs.NodeLemmas.{right_asks}

-- what is asked of the first is well formed, and of those after it
first_asked : (asks : Asks) → AskFormed asks → IfSome (asked_first asks) IsFormed
first_asked nothing h = tt
first_asked (each t) h = h
first_asked (in_turn []) h = tt
first_asked (in_turn (t ∷ ts)) h = first_so _ (are_well_formed ts) h

after_asked : (asks : Asks) → AskFormed asks → AskFormed (asked_after asks)
after_asked nothing h = tt
after_asked (each t) h = h
after_asked (in_turn []) h = tt
after_asked (in_turn (t ∷ ts)) h = second_so (is_well_formed t) _ h

module _ (g : Sight) (blocks : List Block) (fit : AllFit g blocks) where
  -- where no type is asked, what has its type has it by itself
  with_own : (e : Exp) → Holds (judge_exp blocks g.may_emit None e) (IsTyped g)
      → Holds (judge_exp blocks g.may_emit None e) (λ n. IsTyped g n × HasOwnType n)
  with_own e typed = both_hold typed (takes_own blocks g.may_emit e)

  mutual
    unfolding judge_exp judge_exps judge_pairs IsNode IsForm

    -- an expression that is judged has its type, which is well formed
    pub expression_typed : (asked : Option Shape) (e : Exp) → IfSome asked IsFormed
        → Holds (judge_exp blocks g.may_emit asked e) (IsTyped g)
    expression_typed asked (literal p l) ask = ok_holds (IsTyped g) (literal_node p l) (literal_typed g p l)
    expression_typed asked (named n) ask = bind_holds (looked_up (Fits g) n blocks fit) (variable_typed g n)
    expression_typed asked (call n es) ask =
        bind_holds (looked_up (Fits g) n blocks fit) (λ m fits. bind_holds (callee_fits g n m fits) (λ c known.
        bind_holds (both_hold (expressions_typed (asks_of_callee c) es (callee_asks g c known))
        (arguments_own blocks g.may_emit c es)) (λ ns h. call_typed g n c es ns known h.0 h.1)))
    expression_typed asked (def p e) ask = bind_holds (with_own e (expression_typed None e tt)) (λ n h.
        ok_holds (IsTyped g) (node p Shape.truth (forms.def n))
        (record { typed = (h.0.typed, refl, h.1); formed = truth_formed }))
    expression_typed asked (paren p e) ask = expression_typed asked e ask
    expression_typed asked (convert p b e) ask = bind_holds (with_own e (expression_typed None e tt))
        (λ n h. conversion_typed g p (shape_of b) e n (basic_formed b) h.0 h.1)
    expression_typed asked (list p es) ask =
        bind_holds (expressions_typed (asks_of_list asked es) es (list_asks g asked es ask))
        (λ ns h. list_typed g p asked es ns ask h)
    expression_typed asked (mapping p ps) ask =
        bind_holds
        (pairs_typed (asked_of_keys asked) (asked_of_values asked) ps (keys_ask g asked ask) (values_ask g asked ask))
        (λ ns h. mapping_typed g p asked ps ns ask h)
    expression_typed asked (index p e i) ask =
        bind_holds (with_own e (expression_typed None e tt)) (λ n h.
        bind_holds (with_own i (expression_typed None i tt)) (λ m k. index_typed g p e i n m h.0 k.0 h.1 k.1))
    expression_typed asked (slice p e i j) ask = bind_holds (with_own e (expression_typed None e tt)) (λ n h.
        bind_holds (expression_typed None i tt)
        (λ m k. bind_holds (expression_typed None j tt) (λ o l. slice_typed g p e i j n m o h.0 k l h.1)))
    expression_typed asked (field p e f) ask =
        bind_holds (with_own e (expression_typed None e tt)) (λ n h. field_typed g p e n f h.0 h.1)
    expression_typed asked (trees.unary p o e) ask =
        bind_holds (expression_typed None e tt) (λ n h. unary_typed g p o e n h)
    expression_typed asked (trees.binary p o l r) ask = bind_holds (with_own l (expression_typed None l tt)) (λ n h.
        bind_holds (expression_typed (asked_of_right (operation_of o) (type_of n)) r
        (right_asks g (operation_of o) (type_of n) h.0.formed)) (λ m k.
        binary_typed g p (operation_of o) l r n m h.0 k h.1))

    -- so has each of the expressions
    pub expressions_typed : (asks : Asks) (es : Exps) → AskFormed asks
        → Holds (judge_exps blocks g.may_emit asks es) (AreTyped g es)
    expressions_typed asks end ask = ok_holds (AreTyped g end) no_nodes tt
    expressions_typed asks (more e es) ask =
        bind_holds (expression_typed (asked_first asks) e (first_asked asks ask)) (λ n h.
        bind_holds (expressions_typed (asked_after asks) es (after_asked asks ask))
        (λ ns k. ok_holds (AreTyped g (more e es)) (with_node n ns) (h, k)))

    pairs_typed : (k v : Option Shape) (ps : Pairs) → IfSome k IsFormed → IfSome v IsFormed
        → Holds (judge_pairs blocks g.may_emit k v ps) (PairsTyped g ps)
    pairs_typed k v no_pairs key value = ok_holds (PairsTyped g no_pairs) no_pairings tt
    pairs_typed k v (pair a b ps) key value =
        bind_holds (expression_typed k a key) (λ m h. bind_holds (expression_typed v b value) (λ n i.
        bind_holds (pairs_typed k v ps key value)
        (λ ns j. ok_holds (PairsTyped g (pair a b ps)) (with_pairing m n ns) (h, i, j))))
