-- Only composites take the type of their place: where none is asked, what is judged has a type by itself.
use Rattle.std.proofs.Common.{◌≡◌, ◌⊎◌, inl, inr, ⊎_elim, List, length, Bool, Option, Some, None, refl}
use Rattle.std.specs.Prelude.{◌||◌, not}
use Rattle.sz_types.specs.Data.{Shape, FieldShapes}
use Rattle.sz_types.specs.declared.place.Place.{Place}
use Rattle.sz_tree.specs.Names.{Ident}
use Rattle.sz_tree.specs.Expressions.{Lit, Exp, literal, named, call, def, paren, convert, list, mapping, index, slice, field, Exps, end, more, Pairs, place_of}
use Rattle.sz_tree.specs.Expressions as trees
use Rattle.sz_core.specs.Nodes.{Node, node, Nodes, no_nodes, with_node, Pairings, type_of, types_of}
use Rattle.sz_core.specs.Nodes as forms
use Rattle.sz_core.specs.Typing.{HasOwnType, HaveOwnTypes, IsCall}
use Rattle.sz_check_rules.specs.Refusals.{Judged, ◌>>=◌, unless, wrong_type, wrong_count, emit_here}
use Rattle.sz_check_rules.specs.Names.{Block, Meaning, look_up}
use Rattle.sz_check_rules.specs.Names as names
use Rattle.sz_check_rules.specs.JudgingTypes.{shape_of}
use Rattle.sz_check_rules.specs.Agreeing.{nothing, each, in_turn, agree, pairs_agree, counted, fields_count, field_types, taken, arguments_fit}
use Rattle.sz_check_rules.specs.JudgingExpressions.{judge_exp, judge_exps, judge_pairs, literal_node, variable_node}
use Rattle.sz_check_rules.specs.JudgingCalls.{Callee, declared, predeclared, conversion, callee_of, asks_of_callee, conversion_node, conversion_call, made_call}
use Rattle.sz_check_rules.specs.JudgingComposites.{asks_of_list, asked_of_keys, asked_of_values, made_tuple, made_list, made_mapping}
use Rattle.sz_check_rules.specs.JudgingParts.{has_index, made_index, whole, made_slice, field_in, made_field}
use Rattle.sz_check_rules.specs.JudgingOperators.{unary_of, made_unary, Operation, both, either, of, operation_of, asked_of_right, takes_left, made_operator, test}
use Rattle.sz_check_rules.specs.JudgingOperators.{made_binary}
use Rattle.sz_types.specs.Rows.{slice_row, binary_row, index_row, builtin_row, arity}
use Rattle.sz_types.specs.declared.operator.BinOp.{BinOp}
use Rattle.sz_tree.specs.declared.operator.UnaryOp.{UnaryOp}
use Rattle.sz_check_rules.proofs.Holds.{Holds, good, by_option, ok_holds, err_holds, bind_holds, known, weaker, if_holds, option_holds}

-- the expression has a type by itself, or the one that its place asks
abbrev pub IsOwnOrAsked : Option Shape → Node → Type 0
IsOwnOrAsked asked n = HasOwnType n ⊎ (asked ≡ Some (type_of n))

own_by_itself : (asked : Option Shape) (n : Node) → HasOwnType n → Holds (good n) (IsOwnOrAsked asked)
own_by_itself asked n own = ok_holds (IsOwnOrAsked asked) n (inl own)

call_is_own : (n : Node) → IsCall n → HasOwnType n
call_is_own (node p t (forms.call f es)) h = tt
call_is_own (node p t (forms.builtin b es)) h = tt
call_is_own (node p t (forms.convert e)) h = tt
call_is_own _ h = absurd h

literal_own : (p : Place) (l : Lit) → HasOwnType (literal_node p l)
literal_own p (trees.number n) = tt
literal_own p (trees.string s) = tt
literal_own p (trees.bytes s) = tt
literal_own p (trees.character c) = tt
literal_own p (trees.boolean b) = tt

conversion_made : (n : Ident) (t : Shape) (es : Exps) (ns : Nodes) → Holds (conversion_call n t es ns) IsCall
conversion_made n t end ns = err_holds _ _
conversion_made n t (more e end) no_nodes = err_holds _ _
conversion_made n t (more e end) (with_node m no_nodes) =
    if_holds _ (λ row. ok_holds IsCall (node n.place t (forms.convert m)) tt) (λ none. err_holds _ _)
conversion_made n t (more e end) (with_node m (with_node k ms)) = bind_holds (known _) (λ x is. err_holds _ _)
conversion_made n t (more e (more d es)) no_nodes = err_holds _ _
conversion_made n t (more e (more d es)) (with_node m ms) = bind_holds (known _) (λ x is. err_holds _ _)

-- a call is one, whatever is called
call_made : (may_emit : Bool) (n : Ident) (c : Callee) (es : Exps) (ns : Nodes)
    → Holds (made_call may_emit n c es ns) IsCall
call_made may_emit n (declared k s) es ns = bind_holds (known (agree (in_turn s.parameters) es ns)) (λ u same.
    bind_holds (known (counted (length s.parameters) es n.place)) (λ v count.
    bind_holds (known (unless (not s.emits || may_emit) (emit_here n.place))) (λ w may.
    ok_holds IsCall (node n.place s.result (forms.call k ns)) tt)))
call_made may_emit n (predeclared b) es ns =
    let given : Judged Node =
    by_option (wrong_count n.place) (λ t. good (node n.place t (forms.builtin b ns))) (builtin_row b (types_of ns)) in
    bind_holds {f = λ u. counted (arity b) es n.place >>= (λ v. given)} (known (arguments_fit b es ns)) (λ u fit.
    bind_holds {f = λ v. given} (known (counted (arity b) es n.place)) (λ v count.
    option_holds _ (λ none. err_holds _ _) (λ t row. ok_holds IsCall (node n.place t (forms.builtin b ns)) tt)))
call_made may_emit n (conversion t) es ns = conversion_made n t es ns

module _ (asked : Option Shape) where
  variable_own : (n : Ident) (m : Meaning) → Holds (variable_node n m) (IsOwnOrAsked asked)
  variable_own n (names.variable k t) = own_by_itself asked (node n.place t (forms.local k)) tt
  variable_own n (names.quantified k t) = own_by_itself asked (node n.place t (forms.local k)) tt
  variable_own n (names.static k t) = own_by_itself asked (node n.place t (forms.static k)) tt
  variable_own n (names.type_name t) = err_holds _ _
  variable_own n (names.table k d) = err_holds _ _
  variable_own n (names.function k s) = err_holds _ _
  variable_own n (names.predeclared b) = err_holds _ _
  variable_own n names.input = own_by_itself asked (node n.place Shape.bytes forms.input) tt

  conversion_own : (p : Place) (t : Shape) (e : Exp) (n : Node) → Holds (conversion_node p t e n) (IsOwnOrAsked asked)
  conversion_own p t e n =
      if_holds _ (λ row. own_by_itself asked (node p t (forms.convert n)) tt) (λ none. err_holds _ _)

  index_own : (p : Place) (e i : Exp) (n m : Node) → Holds (made_index p e i n m) (IsOwnOrAsked asked)
  index_own p e i n m =
      bind_holds {f = λ u. by_option (wrong_type (place_of i)) (λ t. good (node p t (forms.index n m)))
      (index_row (type_of n) (type_of m))} (known (unless (has_index (type_of n)) (wrong_type (place_of e))))
      (λ u has. option_holds _ (λ none. err_holds _ _) (λ t row. own_by_itself asked (node p t (forms.index n m)) tt))

  slice_own : (p : Place) (e i j : Exp) (n m o : Node) → Holds (made_slice p e i j n m o) (IsOwnOrAsked asked)
  slice_own p e i j n m o =
      bind_holds (known (taken (slice_row (type_of n)) e)) (λ u row. bind_holds (known (whole i m)) (λ v first.
      bind_holds (known (whole j o)) (λ w second. own_by_itself asked (node p (type_of n) (forms.slice n m o)) tt)))

  field_own : (p : Place) (e : Exp) (n : Node) (f : Ident) → Holds (made_field p e n f) (IsOwnOrAsked asked)
  field_own p e n f = bind_holds (known (field_in (place_of e) (type_of n) f)) (λ x found.
      own_by_itself asked (node p x.type (forms.field n x.place)) tt)

  unary_own : (p : Place) (o : UnaryOp) (e : Exp) (n : Node) → Holds (made_unary p o e n) (IsOwnOrAsked asked)
  unary_own p o e n =
      option_holds _ (λ none. err_holds _ _) (λ t row. own_by_itself asked (node p t (forms.unary (unary_of o) n)) tt)

  operator_own : (p : Place) (o : BinOp) (l r : Exp) (n m : Node)
      → Holds (made_operator p o l r n m) (IsOwnOrAsked asked)
  operator_own p o l r n m =
      bind_holds {f = λ u. by_option (wrong_type (place_of r)) (λ t. good (node p t (forms.binary o n m)))
      (binary_row o (type_of n) (type_of m))} (known (unless (takes_left o (type_of n)) (wrong_type (place_of l))))
      (λ u takes. option_holds _ (λ none. err_holds _ _) (λ t row.
      own_by_itself asked (node p t (forms.binary o n m)) tt))

  binary_own : (p : Place) (o : Operation) (l r : Exp) (n m : Node)
      → Holds (made_binary p o l r n m) (IsOwnOrAsked asked)
  binary_own p both l r n m = bind_holds (known (test l n)) (λ u first. bind_holds (known (test r m)) (λ v second.
      own_by_itself asked (node p Shape.truth (forms.both n m)) tt))
  binary_own p either l r n m = bind_holds (known (test l n)) (λ u first. bind_holds (known (test r m)) (λ v second.
      own_by_itself asked (node p Shape.truth (forms.either n m)) tt))
  binary_own p (of o) l r n m = operator_own p o l r n m

-- a composite has the type that is asked
tuple_asked : (p : Place) (t : Shape) (fs : FieldShapes) (es : Exps) (ns : Nodes)
    → Holds (made_tuple p t fs es ns) (IsOwnOrAsked (Some t))
tuple_asked p t fs end ns = err_holds _ _
tuple_asked p t fs (more e es) ns = bind_holds (known (agree (in_turn (field_types fs)) (more e es) ns)) (λ u same.
    bind_holds (known (counted (fields_count fs) (more e es) p)) (λ v count.
    ok_holds (IsOwnOrAsked (Some t)) (node p t (forms.tuple ns)) (inr refl)))

list_asked : (p : Place) (asked : Option Shape) (es : Exps) (ns : Nodes)
    → Holds (made_list p asked es ns) (IsOwnOrAsked asked)
list_asked p None es ns = err_holds _ _
list_asked p (Some (Shape.array t)) es ns = bind_holds (known (agree (each t) es ns)) (λ u same.
    ok_holds (IsOwnOrAsked (Some (Shape.array t))) (node p (Shape.array t) (forms.array ns)) (inr refl))
list_asked p (Some (Shape.tuple fs)) es ns = tuple_asked p (Shape.tuple fs) fs es ns
list_asked p (Some (Shape.proto fs)) es ns = tuple_asked p (Shape.proto fs) fs es ns
list_asked p (Some _) es ns = err_holds _ _

mapping_asked : (p : Place) (asked : Option Shape) (ps : Pairs) (ns : Pairings)
    → Holds (made_mapping p asked ps ns) (IsOwnOrAsked asked)
mapping_asked p None ps ns = err_holds _ _
mapping_asked p (Some (Shape.mapping k v)) ps ns = bind_holds (known (pairs_agree k v ps ns)) (λ u same.
    ok_holds (IsOwnOrAsked (Some (Shape.mapping k v))) (node p (Shape.mapping k v) (forms.mapping ns)) (inr refl))
mapping_asked p (Some _) ps ns = err_holds _ _

-- what is known of the arguments of what is called: a declared function asks for types, all else for none
abbrev pub ArgumentsOwn : Callee → Nodes → Type 0
ArgumentsOwn (declared k s) ns = Unit {0}
ArgumentsOwn _ ns = HaveOwnTypes ns

module _ (blocks : List Block) (may_emit : Bool) where
  -- what a call is judged to be is a call
  pub call_is_made : (asked : Option Shape) (n : Ident) (es : Exps)
      → Holds (judge_exp blocks may_emit asked (call n es)) IsCall
  unfolding judge_exp
  call_is_made asked n es =
      bind_holds (known (look_up n blocks)) (λ m found. bind_holds (known (callee_of n m)) (λ c callee.
      bind_holds (known (judge_exps blocks may_emit (asks_of_callee c) es))
      (λ ns judged. call_made may_emit n c es ns)))

  -- what is judged has a type by itself, or the one that its place asks
  pub own_or_asked : (asked : Option Shape) (e : Exp) → Holds (judge_exp blocks may_emit asked e) (IsOwnOrAsked asked)
  unfolding judge_exp
  own_or_asked asked (literal p l) = own_by_itself asked (literal_node p l) (literal_own p l)
  own_or_asked asked (named n) = bind_holds (known (look_up n blocks)) (λ m found. variable_own asked n m)
  own_or_asked asked (call n es) = weaker (call_is_made asked n es) (λ m is. inl (call_is_own m is))
  own_or_asked asked (def p e) = bind_holds (known (judge_exp blocks may_emit None e)) (λ n judged.
      own_by_itself asked (node p Shape.truth (forms.def n)) tt)
  own_or_asked asked (paren p e) = own_or_asked asked e
  own_or_asked asked (convert p b e) = bind_holds (known (judge_exp blocks may_emit None e)) (λ n judged.
      conversion_own asked p (shape_of b) e n)
  own_or_asked asked (list p es) = bind_holds (known (judge_exps blocks may_emit (asks_of_list asked es) es))
      (λ ns judged. list_asked p asked es ns)
  own_or_asked asked (mapping p ps) =
      bind_holds (known (judge_pairs blocks may_emit (asked_of_keys asked) (asked_of_values asked) ps))
      (λ ns judged. mapping_asked p asked ps ns)
  own_or_asked asked (index p e i) = bind_holds (known (judge_exp blocks may_emit None e)) (λ n first.
      bind_holds (known (judge_exp blocks may_emit None i)) (λ m second. index_own asked p e i n m))
  own_or_asked asked (slice p e i j) = bind_holds (known (judge_exp blocks may_emit None e)) (λ n first.
      bind_holds (known (judge_exp blocks may_emit None i)) (λ m second.
      bind_holds (known (judge_exp blocks may_emit None j)) (λ o third. slice_own asked p e i j n m o)))
  own_or_asked asked (field p e f) =
      bind_holds (known (judge_exp blocks may_emit None e)) (λ n judged. field_own asked p e n f)
  own_or_asked asked (trees.unary p o e) =
      bind_holds (known (judge_exp blocks may_emit None e)) (λ n judged. unary_own asked p o e n)
  own_or_asked asked (trees.binary p o l r) = bind_holds (known (judge_exp blocks may_emit None l)) (λ n first.
      bind_holds (known (judge_exp blocks may_emit (asked_of_right (operation_of o) (type_of n)) r)) (λ m second.
      binary_own asked p (operation_of o) l r n m))

  -- where no type is asked it has one by itself
  pub takes_own : (e : Exp) → Holds (judge_exp blocks may_emit None e) HasOwnType
  takes_own e = weaker (own_or_asked None e) (λ n h. ⊎_elim (λ own. own) (λ asked. absurd (none_is_some asked)) h)
    where
      none_is_some : {t : Shape} → ◌≡◌ {A = Option Shape} None (Some t) → ⊥
      none_is_some e = cc

  all_own : (es : Exps) → Holds (judge_exps blocks may_emit nothing es) HaveOwnTypes
  unfolding judge_exps
  all_own end = ok_holds HaveOwnTypes no_nodes tt
  all_own (more e es) = bind_holds (takes_own e)
      (λ n h. bind_holds (all_own es) (λ ns k. ok_holds HaveOwnTypes (with_node n ns) (h, k)))

  pub arguments_own : (c : Callee) (es : Exps)
      → Holds (judge_exps blocks may_emit (asks_of_callee c) es) (ArgumentsOwn c)
  arguments_own (declared k s) es =
      weaker (known (judge_exps blocks may_emit (in_turn s.parameters) es)) (λ ns judged. tt)
  arguments_own (predeclared b) es = all_own es
  arguments_own (conversion t) es = all_own es
