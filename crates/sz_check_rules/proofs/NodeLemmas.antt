-- What is made of parts that have their types has its type.
use Rattle.std.proofs.Common.{◌≡◌, ℕ, Bool, true, false, Option, Some, None, refl, sym, true≢false}
use Rattle.std.specs.Prelude.{Ok, Err, if◌then◌else◌, ◌||◌, not, slice_get, IfSome}
use Rattle.sz_types.specs.Data.{Shape, FieldShapes}
use Rattle.sz_types.specs.Rows.{binary_row, index_row, builtin_row, arity}
use Rattle.sz_types.specs.declared.place.Place.{Place}
use Rattle.sz_types.specs.declared.operator.BinOp.{BinOp}
use Rattle.sz_types.specs.declared.operator.Builtin.{Builtin}
use Rattle.sz_types.proofs.ForCallers.{alike_equal}
use Rattle.sz_tree.specs.declared.operator.UnaryOp.{UnaryOp}
use Rattle.sz_tree.specs.Names.{Ident}
use Rattle.sz_tree.specs.Expressions.{Lit, Exp, Exps, end, more, Pairs, place_of}
use Rattle.sz_tree.specs.Expressions as trees
use Rattle.sz_core.specs.Nodes.{Node, node, Nodes, no_nodes, with_node, Pairings, type_of, types_of}
use Rattle.sz_core.specs.Nodes as forms
use Rattle.sz_core.specs.Statements.{Stm}
use Rattle.sz_core.specs.Programs.{Signature}
use Rattle.sz_core.specs.WellFormed.{is_well_formed}
use Rattle.sz_core.specs.Typing.{Sight, HasFields, field_types, HasOwnType, HaveOwnTypes, IsNode, IsForm}
use Rattle.sz_check_rules.specs.Refusals.{Judged, ◌>>=◌, wrong_type, wrong_count}
use Rattle.sz_check_rules.specs.Names.{Meaning}
use Rattle.sz_check_rules.specs.Names as names
use Rattle.sz_check_rules.specs.Agreeing.{Asks, nothing, each, in_turn, Found, counted, arguments_fit}
use Rattle.sz_check_rules.specs.JudgingExpressions.{literal_node, variable_node}
use Rattle.sz_check_rules.specs.JudgingCalls.{Callee, declared, predeclared, conversion, callee_of, asks_of_callee, declared_call, predeclared_call, conversion_node}
use Rattle.sz_check_rules.specs.JudgingCalls.{conversion_call, made_call}
use Rattle.sz_check_rules.specs.JudgingComposites.{asks_of_list, made_tuple, made_list, asked_of_keys, asked_of_values, made_mapping}
use Rattle.sz_check_rules.specs.JudgingParts.{made_index, whole, made_slice, field_in, made_field}
use Rattle.sz_check_rules.specs.JudgingOperators.{unary_of, made_unary, Operation, both, either, of, hands_type_on, asked_of_right, made_operator, test, made_binary}
use Rattle.sz_check_rules.specs.Scene.{Scene}
use Rattle.sz_check_rules.specs.Scenes.{Later}
use Rattle.sz_check_rules.specs.JudgingSimple.{done}
use Rattle.sz_check_rules.proofs.Holds.{Holds, good, by_option, ok_holds, err_holds, bind_holds, known, weaker, unless_holds, if_holds, option_holds, some_has}
use Rattle.sz_check_rules.proofs.Sights.{IsFormed, AreFormed, Fits, IsCalled}
use Rattle.sz_core.proofs.ForCallers.{element_formed, key_formed, value_formed, fields_formed, formed_at, unary_formed}
use Rattle.sz_check_rules.proofs.RowLemmas.{IsFieldOf, named_field, has_fields}
use Rattle.sz_core.proofs.ForCallers.{binary_formed, index_formed, slice_same, builtin_formed}
use Rattle.sz_check_rules.proofs.OwnTypes.{ArgumentsOwn}
use Rattle.sz_check_rules.proofs.AgreeLemmas.{IsTyped, AreTyped, PairsTyped, all_nodes, all_formed, counted_holds, agree_in_turn, agree_each, pairs_have}

-- the types that a place asks are well formed
abbrev pub AskFormed : Asks → Type 0
AskFormed nothing = Unit {0}
AskFormed (each t) = IsFormed t
AskFormed (in_turn ts) = AreFormed ts

-- a field that is found in a value of a type, with its type
pub record IsPart (t : Shape) (x : Found) : Type 0 where
  pub fields : FieldShapes
  pub has : HasFields t fields
  pub here : slice_get (field_types fields) x.place ≡ Some x.type
  pub formed : IsFormed x.type

module _ (g : Sight) where
  -- a literal has its type
  pub literal_typed : (p : Place) (l : Lit) → IsTyped g (literal_node p l)
  unfolding IsNode IsForm is_well_formed
  literal_typed p (trees.number n) = record { typed = refl; formed = refl }
  literal_typed p (trees.string s) = record { typed = refl; formed = refl }
  literal_typed p (trees.bytes s) = record { typed = refl; formed = refl }
  literal_typed p (trees.character c) = record { typed = refl; formed = refl }
  literal_typed p (trees.boolean b) = record { typed = refl; formed = refl }

  -- so has a name that stands for a value
  pub variable_typed : (n : Ident) (m : Meaning) → Fits g m → Holds (variable_node n m) (IsTyped g)
  unfolding IsNode IsForm is_well_formed
  variable_typed n (names.variable k t) h = ok_holds (IsTyped g) (node n.place t (forms.local k)) (record {
    typed = (h.readable.seen, h.readable.here);
    formed = h.readable.formed;
  })
  variable_typed n (names.quantified k t) h =
      ok_holds (IsTyped g) (node n.place t (forms.local k)) (record { typed = (h.seen, h.here); formed = h.formed })
  variable_typed n (names.static k t) h =
      ok_holds (IsTyped g) (node n.place t (forms.static k)) (record { typed = h.here; formed = h.formed })
  variable_typed n (names.type_name t) h = err_holds _ _
  variable_typed n (names.table k d) h = err_holds _ _
  variable_typed n (names.function k s) h = err_holds _ _
  variable_typed n (names.predeclared b) h = err_holds _ _
  variable_typed n names.input h =
      ok_holds (IsTyped g) (node n.place Shape.bytes forms.input) (record { typed = (h, refl); formed = refl })

  -- what is known of what is called
  abbrev pub CalleeFits : Callee → Type 0
  CalleeFits (declared k s) = IsCalled g k s
  CalleeFits (predeclared b) = Unit {0}
  CalleeFits (conversion t) = IsFormed t

  -- what is called is known
  pub callee_fits : (n : Ident) (m : Meaning) → Fits g m → Holds (callee_of n m) CalleeFits
  callee_fits n (names.variable k t) h = err_holds _ _
  callee_fits n (names.quantified k t) h = err_holds _ _
  callee_fits n (names.static k t) h = err_holds _ _
  callee_fits n (names.type_name t) h = ok_holds CalleeFits (conversion t) h
  callee_fits n (names.table k d) h = err_holds _ _
  callee_fits n (names.function k s) h = ok_holds CalleeFits (declared k s) h
  callee_fits n (names.predeclared b) h = ok_holds CalleeFits (predeclared b) tt
  callee_fits n names.input h = err_holds _ _

  pub callee_asks : (c : Callee) → CalleeFits c → AskFormed (asks_of_callee c)
  callee_asks (declared k s) h = h.takes
  callee_asks (predeclared b) h = tt
  callee_asks (conversion t) h = tt

  -- a call that emits is made where it may be
  emits_there : (emits may_emit : Bool) → emits ≡ true → (not emits || may_emit) ≡ true → may_emit ≡ true
  emits_there true may_emit e h = h
  emits_there false may_emit e h = absurd (true≢false (sym e))

  declared_typed : (n : Ident) (k : ℕ) (s : Signature) (es : Exps) (ns : Nodes) → IsCalled g k s → AreTyped g es ns
      → Holds (declared_call g.may_emit n k s es ns) (IsTyped g)
  unfolding IsNode IsForm
  declared_typed n k s es ns c h =
      bind_holds (agree_in_turn g s.parameters es ns h) (λ u types. bind_holds (counted_holds _ es _) (λ v count.
      bind_holds (unless_holds _ _) (λ w may. ok_holds (IsTyped g) (node n.place s.result (forms.call k ns)) (record {
        typed = (all_nodes g es ns h, (s, c.here, types count, refl, λ e. emits_there s.emits g.may_emit e may));
        formed = c.gives;
      }))))

  predeclared_typed : (n : Ident) (b : Builtin) (es : Exps) (ns : Nodes) → AreTyped g es ns → HaveOwnTypes ns
      → Holds (predeclared_call n b es ns) (IsTyped g)
  unfolding IsNode IsForm
  predeclared_typed n b es ns h own =
      let given : Judged Node = by_option (wrong_count n.place) (λ t. good (node n.place t (forms.builtin b ns)))
      (builtin_row b (types_of ns)) in
      bind_holds {f = λ u. counted (arity b) es n.place >>= (λ v. given)} (known (arguments_fit b es ns)) (λ u fit.
      bind_holds {f = λ v. given} (known (counted (arity b) es n.place)) (λ v count.
      option_holds _ (λ none. err_holds _ _)
      (λ t row. ok_holds (IsTyped g) (node n.place t (forms.builtin b ns)) (record {
        typed = (all_nodes g es ns h, row, own);
        formed = some_has IsFormed (builtin_formed b (types_of ns) (all_formed g es ns h)) row;
      }))))

  -- what is converted has the type
  pub conversion_typed : (p : Place) (t : Shape) (e : Exp) (n : Node) → IsFormed t → IsTyped g n → HasOwnType n
      → Holds (conversion_node p t e n) (IsTyped g)
  unfolding IsNode IsForm
  conversion_typed p t e n formed h own = if_holds _
      (λ row. ok_holds (IsTyped g) (node p t (forms.convert n))
      (record { typed = (h.typed, formed, row, own); formed = formed })) (λ none. err_holds _ _)

  conversion_call_typed : (n : Ident) (t : Shape) (es : Exps) (ns : Nodes) → IsFormed t → AreTyped g es ns
      → HaveOwnTypes ns → Holds (conversion_call n t es ns) (IsTyped g)
  conversion_call_typed n t end no_nodes formed h own = err_holds _ _
  conversion_call_typed n t end (with_node m ms) formed h own = absurd h
  conversion_call_typed n t (more e es) no_nodes formed h own = absurd h
  conversion_call_typed n t (more e end) (with_node m no_nodes) formed h own =
      conversion_typed n.place t e m formed h.0 own.0
  conversion_call_typed n t (more e end) (with_node m (with_node k ms)) formed h own = absurd h.1
  conversion_call_typed n t (more e (more d es)) (with_node m ms) formed h own =
      bind_holds (known _) (λ x is. err_holds _ _)

  -- a call has the type that it gives
  pub call_typed : (n : Ident) (c : Callee) (es : Exps) (ns : Nodes) → CalleeFits c → AreTyped g es ns
      → ArgumentsOwn c ns → Holds (made_call g.may_emit n c es ns) (IsTyped g)
  call_typed n (declared k s) es ns c h own = declared_typed n k s es ns c h
  call_typed n (predeclared b) es ns c h own = predeclared_typed n b es ns h own
  call_typed n (conversion t) es ns c h own = conversion_call_typed n t es ns c h own

  tuple_typed : (p : Place) (t : Shape) (fields : FieldShapes) (es : Exps) (ns : Nodes) → HasFields t fields
      → IsFormed t → AreTyped g es ns → Holds (made_tuple p t fields es ns) (IsTyped g)
  unfolding IsNode IsForm
  tuple_typed p t fs end ns has formed h = err_holds _ _
  tuple_typed p t fs (more e es) no_nodes has formed h = absurd h
  tuple_typed p t fs (more e es) (with_node n ns) has formed h =
      bind_holds (agree_in_turn g _ (more e es) (with_node n ns) h) (λ u types.
      bind_holds (counted_holds _ (more e es) p) (λ v count.
      ok_holds (IsTyped g) (node p t (forms.tuple (with_node n ns))) (record {
        typed = (all_nodes g (more e es) (with_node n ns) h, formed, (fs, has, types count), tt);
        formed = formed;
      })))

  pub list_typed : (p : Place) (asked : Option Shape) (es : Exps) (ns : Nodes) → IfSome asked IsFormed
      → AreTyped g es ns → Holds (made_list p asked es ns) (IsTyped g)
  unfolding IsNode IsForm
  list_typed p None es ns formed h = err_holds _ _
  list_typed p (Some (Shape.array t)) es ns formed h = bind_holds (agree_each g t es ns h) (λ u types.
      ok_holds (IsTyped g) (node p (Shape.array t) (forms.array ns))
      (record { typed = (all_nodes g es ns h, formed, (t, refl, types)); formed = formed }))
  list_typed p (Some (Shape.tuple fs)) es ns formed h = tuple_typed p (Shape.tuple fs) fs es ns refl formed h
  list_typed p (Some (Shape.proto fs)) es ns formed h = tuple_typed p (Shape.proto fs) fs es ns refl formed h
  list_typed p (Some _) es ns formed h = err_holds _ _

  pub list_asks : (asked : Option Shape) (es : Exps) → IfSome asked IsFormed → AskFormed (asks_of_list asked es)
  list_asks None es h = tt
  list_asks (Some (Shape.array t)) es h = element_formed t h
  list_asks (Some (Shape.tuple fs)) end h = tt
  list_asks (Some (Shape.tuple fs)) (more e es) h = fields_formed (Shape.tuple fs) fs refl h
  list_asks (Some (Shape.proto fs)) end h = tt
  list_asks (Some (Shape.proto fs)) (more e es) h = fields_formed (Shape.proto fs) fs refl h
  list_asks (Some _) es h = tt

  pub mapping_typed : (p : Place) (asked : Option Shape) (ps : Pairs) (ns : Pairings) → IfSome asked IsFormed
      → PairsTyped g ps ns → Holds (made_mapping p asked ps ns) (IsTyped g)
  unfolding IsNode IsForm
  mapping_typed p None ps ns formed h = err_holds _ _
  mapping_typed p (Some (Shape.mapping k v)) ps ns formed h = bind_holds (pairs_have g k v ps ns h) (λ u types.
      ok_holds (IsTyped g) (node p (Shape.mapping k v) (forms.mapping ns))
      (record { typed = (formed, (k, v, refl, types)); formed = formed }))
  mapping_typed p (Some _) ps ns formed h = err_holds _ _

  pub keys_ask : (asked : Option Shape) → IfSome asked IsFormed → IfSome (asked_of_keys asked) IsFormed
  keys_ask None h = tt
  keys_ask (Some (Shape.mapping k v)) h = key_formed k v h
  keys_ask (Some _) h = tt

  pub values_ask : (asked : Option Shape) → IfSome asked IsFormed → IfSome (asked_of_values asked) IsFormed
  values_ask None h = tt
  values_ask (Some (Shape.mapping k v)) h = value_formed k v h
  values_ask (Some _) h = tt

  -- an element has its type
  pub index_typed : (p : Place) (e i : Exp) (n m : Node) → IsTyped g n → IsTyped g m → HasOwnType n → HasOwnType m
      → Holds (made_index p e i n m) (IsTyped g)
  unfolding IsNode IsForm
  index_typed p e i n m h k first second =
      bind_holds {f = λ u. by_option (wrong_type (place_of i)) (λ t. good (node p t (forms.index n m)))
      (index_row (type_of n) (type_of m))}
      (unless_holds _ _) (λ u has. option_holds _ (λ none. err_holds _ _) (λ t row.
      ok_holds (IsTyped g) (node p t (forms.index n m)) (record {
        typed = (h.typed, k.typed, row, first, second);
        formed = some_has IsFormed (index_formed (type_of n) (type_of m) h.formed) row;
      })))

  -- an expression that has to be a whole number, or a truth value
  pub whole_holds : (e : Exp) (n : Node) → Holds (whole e n) (λ u. type_of n ≡ Shape.int)
  whole_holds e n = weaker (unless_holds _ _) (λ u same. alike_equal (type_of n) Shape.int same)

  pub test_holds : (e : Exp) (n : Node) → Holds (test e n) (λ u. type_of n ≡ Shape.truth)
  test_holds e n = weaker (unless_holds _ _) (λ u same. alike_equal (type_of n) Shape.truth same)

  -- a slice has the type of what it is cut from
  pub slice_typed : (p : Place) (e i j : Exp) (n m o : Node) → IsTyped g n → IsTyped g m → IsTyped g o → HasOwnType n
      → Holds (made_slice p e i j n m o) (IsTyped g)
  unfolding IsNode IsForm
  slice_typed p e i j n m o h k l own = bind_holds (unless_holds _ _)
      (λ u row. bind_holds (whole_holds i m) (λ v first. bind_holds (whole_holds j o) (λ w second.
      ok_holds (IsTyped g) (node p (type_of n) (forms.slice n m o)) (record {
        typed = (h.typed, k.typed, l.typed, slice_same (type_of n) row, first, second, own);
        formed = h.formed;
      }))))

  -- a field that is found is a field of the type
  pub part_found : (p : Place) (t : Shape) (f : Ident) → IsFormed t → Holds (field_in p t f) (IsPart t)
  part_found p t f formed =
      option_holds _ (λ none. err_holds _ _) (λ fs is. option_holds _ (λ none. err_holds _ _) (λ x found.
      let has = some_has (HasFields t) (has_fields t) is in
      let here = some_has (IsFieldOf fs) (named_field f.text fs) found in
      ok_holds (IsPart t) x (record {
        fields = fs;
        has = has;
        here = here.here;
        formed = some_has IsFormed (formed_at (field_types fs) x.place (fields_formed t fs has formed)) here.here;
      })))

  -- a field has its type
  pub field_typed : (p : Place) (e : Exp) (n : Node) (f : Ident) → IsTyped g n → HasOwnType n
      → Holds (made_field p e n f) (IsTyped g)
  unfolding IsNode IsForm
  field_typed p e n f h own = bind_holds (part_found (place_of e) (type_of n) f h.formed) (λ x part.
      ok_holds (IsTyped g) (node p x.type (forms.field n x.place)) (record {
        typed = (h.typed, (part.fields, part.has, part.here), own);
        formed = part.formed;
      }))

  -- what an operator gives has the type of its row
  pub unary_typed : (p : Place) (o : UnaryOp) (e : Exp) (n : Node) → IsTyped g n
      → Holds (made_unary p o e n) (IsTyped g)
  unfolding IsNode IsForm
  unary_typed p o e n h = option_holds _ (λ none. err_holds _ _)
      (λ t row. ok_holds (IsTyped g) (node p t (forms.unary (unary_of o) n)) (record {
        typed = (h.typed, row);
        formed = some_has IsFormed (unary_formed (unary_of o) (type_of n)) row;
      }))

  operator_typed : (p : Place) (o : BinOp) (l r : Exp) (n m : Node) → IsTyped g n → IsTyped g m → HasOwnType n
      → Holds (made_operator p o l r n m) (IsTyped g)
  unfolding IsNode IsForm
  operator_typed p o l r n m h k own =
      bind_holds {f = λ u. by_option (wrong_type (place_of r)) (λ t. good (node p t (forms.binary o n m)))
      (binary_row o (type_of n) (type_of m))}
      (unless_holds _ _) (λ u takes. option_holds _ (λ none. err_holds _ _) (λ t row.
      ok_holds (IsTyped g) (node p t (forms.binary o n m)) (record {
        typed = (h.typed, k.typed, row, own);
        formed = some_has IsFormed (binary_formed o (type_of n) (type_of m) h.formed) row;
      })))

  -- the same of two operands
  pub binary_typed : (p : Place) (o : Operation) (l r : Exp) (n m : Node) → IsTyped g n → IsTyped g m → HasOwnType n
      → Holds (made_binary p o l r n m) (IsTyped g)
  unfolding IsNode IsForm is_well_formed
  binary_typed p both l r n m h k own = bind_holds (test_holds l n) (λ u first. bind_holds (test_holds r m) (λ v second.
      ok_holds (IsTyped g) (node p Shape.truth (forms.both n m))
      (record { typed = (h.typed, k.typed, first, second, refl); formed = refl })))
  binary_typed p either l r n m h k own =
      bind_holds (test_holds l n) (λ u first. bind_holds (test_holds r m) (λ v second.
      ok_holds (IsTyped g) (node p Shape.truth (forms.either n m))
      (record { typed = (h.typed, k.typed, first, second, refl); formed = refl })))
  binary_typed p (of o) l r n m h k own = operator_typed p o l r n m h k own

  pub right_asks : (o : Operation) (t : Shape) → IsFormed t → IfSome (asked_of_right o t) IsFormed
  right_asks both t h = tt
  right_asks either t h = tt
  right_asks (of o) t h = by_test (hands_type_on o)
    where
      by_test : (b : Bool) → IfSome (if b then Some t else None) IsFormed
      by_test true = h
      by_test false = tt

-- a statement over a test, after which this is known
pub done_after : (P : Later → Type 0) (u : Judged (Unit {0})) (s : Scene) (m : Stm)
    → ((x : Unit {0}) → u ≡ good x → P (record { scene = s; stm = m }))
    → Holds (done s (u >>= λ _. Ok m)) P
done_after P (Ok x) s m h = ok_holds P (record { scene = s; stm = m }) (h x refl)
done_after P (Err r) s m h = err_holds P r
