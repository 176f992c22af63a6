-- An expression that is judged emits as its tree does.
use Rattle.std.proofs.Common.{◌≡◌, ℕ, length, Bool, true, false, List, Option, Some, None, refl, sym, ap, ◌∙◌}
use Rattle.std.specs.Prelude.{◌||◌, not, slice_get}
use Rattle.sz_types.specs.Data.{Shape, FieldShapes}
use Rattle.sz_types.specs.Rows.{unary_row, binary_row, index_row, slice_row, builtin_row, arity}
use Rattle.sz_types.specs.declared.place.Place.{Place}
use Rattle.sz_types.specs.declared.operator.BinOp.{BinOp}
use Rattle.sz_types.specs.declared.operator.Builtin.{Builtin}
use Rattle.sz_tree.specs.declared.operator.UnaryOp.{UnaryOp}
use Rattle.sz_tree.specs.Names.{Ident}
use Rattle.sz_tree.specs.Expressions.{Exp, literal, named, call, def, paren, convert, list, mapping, index, slice, field, Exps, end, more, Pairs, no_pairs}
use Rattle.sz_tree.specs.Expressions.{pair, place_of, Lit}
use Rattle.sz_tree.specs.Expressions as trees
use Rattle.sz_core.specs.Nodes.{Node, node, Form, Nodes, no_nodes, with_node, Pairings, no_pairings, with_pairing, type_of, types_of}
use Rattle.sz_core.specs.Nodes as forms
use Rattle.sz_core.specs.Programs.{Signature}
use Rattle.sz_core.specs.Emitting.{is_emitting, node_emits, form_emits, nodes_emit, pairings_emit}
use Rattle.sz_check_rules.specs.Refusals.{Judged, ◌>>=◌, unless, wrong_type, wrong_count, emit_here}
use Rattle.sz_check_rules.specs.Names.{Block, Meaning, meaning_of, look_up}
use Rattle.sz_check_rules.specs.Names as names
use Rattle.sz_types.specs.Conversions.{converts_to}
use Rattle.sz_check_rules.specs.JudgingTypes.{shape_of}
use Rattle.sz_check_rules.specs.Agreeing.{Asks, nothing, each, in_turn, agree, counted, pairs_agree, arguments_fit, asked_first, asked_after}
use Rattle.sz_check_rules.specs.Agreeing.{field_types}
use Rattle.sz_check_rules.specs.Agreeing.{fields_count, taken}
use Rattle.sz_check_rules.specs.JudgingExpressions.{judge_exp, judge_exps, judge_pairs, literal_node, variable_node}
use Rattle.sz_check_rules.specs.JudgingCalls.{callee_of, asks_of_callee, conversion_node, conversion_call, declared_call, predeclared_call, made_call}
use Rattle.sz_check_rules.specs.JudgingComposites.{asks_of_list, made_tuple, made_list, asked_of_keys, asked_of_values, made_mapping}
use Rattle.sz_check_rules.specs.JudgingParts.{has_index, made_index, whole, made_slice, field_in, made_field}
use Rattle.sz_check_rules.specs.JudgingOperators.{unary_of, made_unary, Operation, both, either, of, operation_of, asked_of_right, takes_left, made_operator}
use Rattle.sz_check_rules.specs.JudgingOperators.{test, made_binary}
use Rattle.sz_check_rules.specs.EmittingTrees.{calls, exp_emits, exps_emit, pairs_emit}
use Rattle.sz_check_rules.proofs.Holds.{Holds, good, ok_holds, err_holds, bind_holds, known, weaker, if_holds, by_option, option_holds}

-- ---- what a name stands for

-- a name that is looked up stands for what is found
pub found_as : (n : Ident) (blocks : List Block) → Holds (look_up n blocks) (λ m. meaning_of n.text blocks ≡ Some m)
found_as n blocks =
    option_holds _ (λ e. if_holds _ (λ left_out. err_holds _ _) (λ unknown. err_holds _ _)) (λ m e. ok_holds _ m e)

module _ (fs : List Signature) where
  -- whether a name calls what emits, by the signatures of functions
  abbrev pub by_signatures : Option Meaning → Bool
  by_signatures (Some (names.function k s)) = is_emitting (slice_get fs k)
  by_signatures _ = false

  -- the expression emits so
  abbrev pub Gives : Bool → Node → Type 0
  Gives b n = node_emits fs n ≡ b

  abbrev pub AllGive : Bool → Nodes → Type 0
  AllGive b ns = nodes_emit fs ns ≡ b

  abbrev pub PairsGive : Bool → Pairings → Type 0
  PairsGive b ps = pairings_emit fs ps ≡ b

  gives : (b : Bool) (p : Place) (t : Shape) (f : Form) → form_emits fs f ≡ b → Holds (good (node p t f)) (Gives b)
  unfolding node_emits
  gives b p t f h = ok_holds (Gives b) (node p t f) h

  -- ---- each form, once its parts are judged

  literal_gives : (p : Place) (l : Lit) → Gives false (literal_node p l)
  unfolding node_emits form_emits
  literal_gives p (trees.number n) = refl
  literal_gives p (trees.string s) = refl
  literal_gives p (trees.bytes s) = refl
  literal_gives p (trees.character c) = refl
  literal_gives p (trees.boolean b) = refl

  variable_gives : (n : Ident) (m : Meaning) → Holds (variable_node n m) (Gives false)
  unfolding form_emits
  variable_gives n (names.variable k t) = gives false n.place t (forms.local k) refl
  variable_gives n (names.quantified k t) = gives false n.place t (forms.local k) refl
  variable_gives n (names.static k t) = gives false n.place t (forms.static k) refl
  variable_gives n (names.type_name t) = err_holds _ _
  variable_gives n (names.table k d) = err_holds _ _
  variable_gives n (names.function k s) = err_holds _ _
  variable_gives n (names.predeclared b) = err_holds _ _
  variable_gives n names.input = gives false n.place Shape.bytes forms.input refl

  conversion_gives : (p : Place) (t : Shape) (e : Exp) (n : Node)
      → Holds (conversion_node p t e n) (Gives (node_emits fs n))
  unfolding form_emits
  conversion_gives p t e n = if_holds {n = wrong_type (place_of e)}
      (converts_to (type_of n) t) (λ row. gives (node_emits fs n) p t (forms.convert n) refl) (λ none. err_holds _ _)

  declared_gives : (may_emit : Bool) (n : Ident) (k : ℕ) (s : Signature) (es : Exps) (ns : Nodes)
      → Holds (declared_call may_emit n k s es ns) (Gives (is_emitting (slice_get fs k) || nodes_emit fs ns))
  unfolding form_emits
  declared_gives may_emit n k s es ns = bind_holds (known (agree (in_turn s.parameters) es ns)) (λ u same.
      bind_holds (known (counted (length s.parameters) es n.place)) (λ v count.
      bind_holds (known (unless (not s.emits || may_emit) (emit_here n.place))) (λ w may.
      gives _ n.place s.result (forms.call k ns) refl)))

  predeclared_gives : (n : Ident) (b : Builtin) (es : Exps) (ns : Nodes)
      → Holds (predeclared_call n b es ns) (Gives (nodes_emit fs ns))
  unfolding form_emits
  predeclared_gives n b es ns =
      let given : Judged Node = by_option (wrong_count n.place) (λ t. good (node n.place t (forms.builtin b ns)))
      (builtin_row b (types_of ns)) in
      bind_holds {f = λ u. counted (arity b) es n.place >>= (λ v. given)} (known (arguments_fit b es ns)) (λ u fit.
      bind_holds {f = λ v. given} (known (counted (arity b) es n.place)) (λ v count.
      option_holds {r = wrong_count n.place} (builtin_row b (types_of ns)) (λ none. err_holds _ _)
      (λ t row. gives (nodes_emit fs ns) n.place t (forms.builtin b ns) refl)))

  -- one that emits nothing after it
  or_none : (b : Bool) → b ≡ (b || false)
  or_none true = refl
  or_none false = refl

  -- a refusal after a conversion
  refused_then : (b : Bool) (n : Ident) (t : Shape) (e : Exp) (m : Node)
      → Holds (conversion_node n.place t e m >>= λ x. wrong_count n.place) (Gives b)
  refused_then b n t e m =
      bind_holds {f = λ x. wrong_count n.place} (known (conversion_node n.place t e m)) (λ x is. err_holds (Gives b) _)

  conversion_call_gives : (n : Ident) (t : Shape) (es : Exps) (ns : Nodes)
      → Holds (conversion_call n t es ns) (Gives (nodes_emit fs ns))
  unfolding nodes_emit
  conversion_call_gives n t end ns = err_holds _ _
  conversion_call_gives n t (more e end) no_nodes = err_holds _ _
  conversion_call_gives n t (more e end) (with_node m no_nodes) =
      weaker (conversion_gives n.place t e m) (λ x h. h ∙ or_none (node_emits fs m))
  conversion_call_gives n t (more e end) (with_node m (with_node k ms)) = refused_then _ n t e m
  conversion_call_gives n t (more e (more d es)) no_nodes = err_holds _ _
  conversion_call_gives n t (more e (more d es)) (with_node m ms) = refused_then _ n t e m

  index_gives : (p : Place) (e i : Exp) (n m : Node)
      → Holds (made_index p e i n m) (Gives (node_emits fs n || node_emits fs m))
  unfolding form_emits
  index_gives p e i n m =
      bind_holds {f = λ u. by_option (wrong_type (place_of i)) (λ t. good (node p t (forms.index n m)))
      (index_row (type_of n) (type_of m))}
      (known (unless (has_index (type_of n)) (wrong_type (place_of e)))) (λ u has.
      option_holds {r = wrong_type (place_of i)} (index_row (type_of n) (type_of m)) (λ none. err_holds _ _) (λ t row.
      gives (node_emits fs n || node_emits fs m) p t (forms.index n m) refl))

  slice_gives : (p : Place) (e i j : Exp) (n m o : Node)
      → Holds (made_slice p e i j n m o) (Gives (node_emits fs n || node_emits fs m || node_emits fs o))
  unfolding form_emits
  slice_gives p e i j n m o =
      bind_holds (known (taken (slice_row (type_of n)) e)) (λ u row. bind_holds (known (whole i m)) (λ v first.
      bind_holds (known (whole j o)) (λ w second. gives _ p (type_of n) (forms.slice n m o) refl)))

  field_gives : (p : Place) (e : Exp) (n : Node) (f : Ident) → Holds (made_field p e n f) (Gives (node_emits fs n))
  unfolding form_emits
  field_gives p e n f = bind_holds (known (field_in (place_of e) (type_of n) f))
      (λ x found. gives _ p x.type (forms.field n x.place) refl)

  unary_gives : (p : Place) (o : UnaryOp) (e : Exp) (n : Node) → Holds (made_unary p o e n) (Gives (node_emits fs n))
  unfolding form_emits
  unary_gives p o e n =
      option_holds {r = wrong_type (place_of e)} (unary_row (unary_of o) (type_of n)) (λ none. err_holds _ _)
      (λ t row. gives (node_emits fs n) p t (forms.unary (unary_of o) n) refl)

  operator_gives : (p : Place) (o : BinOp) (l r : Exp) (n m : Node)
      → Holds (made_operator p o l r n m) (Gives (node_emits fs n || node_emits fs m))
  unfolding form_emits
  operator_gives p o l r n m =
      bind_holds {f = λ u. by_option (wrong_type (place_of r)) (λ t. good (node p t (forms.binary o n m)))
      (binary_row o (type_of n) (type_of m))}
      (known (unless (takes_left o (type_of n)) (wrong_type (place_of l)))) (λ u takes.
      option_holds {r = wrong_type (place_of r)} (binary_row o (type_of n) (type_of m))
      (λ none. err_holds _ _) (λ t row. gives (node_emits fs n || node_emits fs m) p t (forms.binary o n m) refl))

  binary_gives : (p : Place) (o : Operation) (l r : Exp) (n m : Node)
      → Holds (made_binary p o l r n m) (Gives (node_emits fs n || node_emits fs m))
  unfolding form_emits
  binary_gives p both l r n m = bind_holds (known (test l n)) (λ u first. bind_holds (known (test r m)) (λ v second.
      gives _ p Shape.truth (forms.both n m) refl))
  binary_gives p either l r n m = bind_holds (known (test l n)) (λ u first. bind_holds (known (test r m)) (λ v second.
      gives _ p Shape.truth (forms.either n m) refl))
  binary_gives p (of o) l r n m = operator_gives p o l r n m

  tuple_gives : (p : Place) (t : Shape) (parts : FieldShapes) (es : Exps) (ns : Nodes)
      → Holds (made_tuple p t parts es ns) (Gives (nodes_emit fs ns))
  unfolding form_emits
  tuple_gives p t parts end ns = err_holds _ _
  tuple_gives p t parts (more e es) ns =
      bind_holds (known (agree (in_turn (field_types parts)) (more e es) ns)) (λ u same.
      bind_holds (known (counted (fields_count parts) (more e es) p)) (λ v count. gives _ p t (forms.tuple ns) refl))

  list_gives : (p : Place) (asked : Option Shape) (es : Exps) (ns : Nodes)
      → Holds (made_list p asked es ns) (Gives (nodes_emit fs ns))
  unfolding form_emits
  list_gives p None es ns = err_holds _ _
  list_gives p (Some (Shape.array t)) es ns =
      bind_holds (known (agree (each t) es ns)) (λ u same. gives _ p (Shape.array t) (forms.array ns) refl)
  list_gives p (Some (Shape.tuple parts)) es ns = tuple_gives p (Shape.tuple parts) parts es ns
  list_gives p (Some (Shape.proto parts)) es ns = tuple_gives p (Shape.proto parts) parts es ns
  list_gives p (Some _) es ns = err_holds _ _

  mapping_gives : (p : Place) (asked : Option Shape) (ps : Pairs) (ns : Pairings)
      → Holds (made_mapping p asked ps ns) (Gives (pairings_emit fs ns))
  unfolding form_emits
  mapping_gives p None ps ns = err_holds _ _
  mapping_gives p (Some (Shape.mapping k v)) ps ns =
      bind_holds (known (pairs_agree k v ps ns)) (λ u same. gives _ p (Shape.mapping k v) (forms.mapping ns) refl)
  mapping_gives p (Some _) ps ns = err_holds _ _

  -- ---- expressions

  -- where variables hide these names, a name calls what emits as the blocks say
  abbrev pub Agrees : (List ℕ → Bool) → List (List ℕ) → List Block → Type 0
  Agrees emits h blocks = (name : List ℕ) → calls emits h name ≡ by_signatures (meaning_of name blocks)

  module _ (emits : List ℕ → Bool) (h : List (List ℕ)) (blocks : List Block) (may_emit : Bool)
      (agrees : Agrees emits h blocks) where
    -- a name that is called
    called : (n : Ident) (m : Meaning) → meaning_of n.text blocks ≡ Some m
        → calls emits h n.text ≡ by_signatures (Some m)
    called n m is = agrees n.text ∙ ap by_signatures is

    -- a call, by what its name stands for
    call_gives : (n : Ident) (m : Meaning) (es : Exps) → meaning_of n.text blocks ≡ Some m
        → ((asks : Asks) → Holds (judge_exps blocks may_emit asks es) (AllGive (exps_emit emits h es)))
        → Holds (callee_of n m >>= λ c. judge_exps blocks may_emit (asks_of_callee c) es
        >>= λ ns. made_call may_emit n c es ns) (Gives (calls emits h n.text || exps_emit emits h es))
    call_gives n (names.variable k t) es is give = err_holds _ _
    call_gives n (names.quantified k t) es is give = err_holds _ _
    call_gives n (names.static k t) es is give = err_holds _ _
    call_gives n (names.table k d) es is give = err_holds _ _
    call_gives n names.input es is give = err_holds _ _
    call_gives n (names.function k s) es is give = bind_holds (give (in_turn s.parameters)) (λ ns parts.
        weaker (declared_gives may_emit n k s es ns)
        (λ x here. here ∙ (λ i. sym (called n (names.function k s) is) i || parts i)))
    call_gives n (names.predeclared b) es is give = bind_holds (give nothing) (λ ns parts.
        weaker (predeclared_gives n b es ns)
        (λ x here. here ∙ (λ i. sym (called n (names.predeclared b) is) i || parts i)))
    call_gives n (names.type_name t) es is give = bind_holds (give nothing) (λ ns parts.
        weaker (conversion_call_gives n t es ns)
        (λ x here. here ∙ (λ i. sym (called n (names.type_name t) is) i || parts i)))

    mutual
      unfolding judge_exp judge_exps judge_pairs exp_emits exps_emit pairs_emit node_emits form_emits
          nodes_emit pairings_emit

      -- an expression that is judged emits as its tree does
      pub expression_gives : (asked : Option Shape) (e : Exp)
          → Holds (judge_exp blocks may_emit asked e) (Gives (exp_emits emits h e))
      expression_gives asked (literal p l) = ok_holds (Gives false) (literal_node p l) (literal_gives p l)
      expression_gives asked (named n) = bind_holds (known (look_up n blocks)) (λ m is. variable_gives n m)
      expression_gives asked (call n es) =
          bind_holds (found_as n blocks) (λ m is. call_gives n m es is (λ asks. expressions_give asks es))
      expression_gives asked (def p e) =
          bind_holds (expression_gives None e) (λ n part. gives _ p Shape.truth (forms.def n) part)
      expression_gives asked (paren p e) = expression_gives asked e
      expression_gives asked (convert p b e) = bind_holds (expression_gives None e) (λ n part.
          weaker (conversion_gives p (shape_of b) e n) (λ x here. here ∙ part))
      expression_gives asked (list p es) = bind_holds (expressions_give (asks_of_list asked es) es) (λ ns parts.
          weaker (list_gives p asked es ns) (λ x here. here ∙ parts))
      expression_gives asked (mapping p ps) =
          bind_holds (pairs_give (asked_of_keys asked) (asked_of_values asked) ps) (λ ns parts.
          weaker (mapping_gives p asked ps ns) (λ x here. here ∙ parts))
      expression_gives asked (index p e i) =
          bind_holds (expression_gives None e) (λ n first. bind_holds (expression_gives None i) (λ m second.
          weaker (index_gives p e i n m) (λ x here. here ∙ (λ j. first j || second j))))
      expression_gives asked (slice p e i j) =
          bind_holds (expression_gives None e) (λ n first. bind_holds (expression_gives None i) (λ m second.
          bind_holds (expression_gives None j)
          (λ o third. weaker (slice_gives p e i j n m o) (λ x here. here ∙ (λ k. first k || second k || third k)))))
      expression_gives asked (field p e f) =
          bind_holds (expression_gives None e) (λ n part. weaker (field_gives p e n f) (λ x here. here ∙ part))
      expression_gives asked (trees.unary p o e) = bind_holds (expression_gives None e) (λ n part.
          weaker (unary_gives p o e n) (λ x here. here ∙ part))
      expression_gives asked (trees.binary p o l r) = bind_holds (expression_gives None l) (λ n first.
          bind_holds (expression_gives (asked_of_right (operation_of o) (type_of n)) r) (λ m second.
          weaker (binary_gives p (operation_of o) l r n m) (λ x here. here ∙ (λ j. first j || second j))))

      -- so do several
      pub expressions_give : (asks : Asks) (es : Exps)
          → Holds (judge_exps blocks may_emit asks es) (AllGive (exps_emit emits h es))
      expressions_give asks end = ok_holds (AllGive false) no_nodes refl
      expressions_give asks (more e es) = bind_holds (expression_gives (asked_first asks) e) (λ n first.
          bind_holds (expressions_give (asked_after asks) es) (λ ns rest.
          ok_holds (AllGive (exps_emit emits h (more e es))) (with_node n ns) (λ i. first i || rest i)))

      pairs_give : (k v : Option Shape) (ps : Pairs)
          → Holds (judge_pairs blocks may_emit k v ps) (PairsGive (pairs_emit emits h ps))
      pairs_give k v no_pairs = ok_holds (PairsGive false) no_pairings refl
      pairs_give k v (pair a b ps) =
          bind_holds (expression_gives k a) (λ n first. bind_holds (expression_gives v b) (λ m second.
          bind_holds (pairs_give k v ps) (λ ns rest.
          ok_holds (PairsGive (pairs_emit emits h (pair a b ps))) (with_pairing n m ns)
          (λ i. first i || second i || rest i))))
