-- Types and expressions are judged by what names stand for alone, wherever these are declared.
use Rattle.std.proofs.Common.{◌≡◌, ℕ, Bool, List, [], ◌∷◌, Option, None, refl, ap}
use Rattle.std.specs.Prelude.{if◌then◌else◌, Ok}
use Rattle.sz_types.specs.Data.{Shape, field, with_field}
use Rattle.sz_types.specs.declared.encoding.Encoding.TheVariants.{Plain}
use Rattle.sz_tree.specs.Names.{Ident}
use Rattle.sz_tree.specs.Types.{Typ, basic, type_name, array, map_type, tuple, proto, Params, no_params, param, Fields, proto_field}
use Rattle.sz_tree.specs.Types as types
use Rattle.sz_tree.specs.Expressions.{Exp, Exps, Pairs}
use Rattle.sz_tree.specs.Expressions as trees
use Rattle.sz_core.specs.Nodes.{node, with_node, with_pairing, type_of}
use Rattle.sz_core.specs.Nodes as forms
use Rattle.sz_check_rules.specs.Refusals.{◌>>=◌, unseen, bad_field, has_name}
use Rattle.sz_check_rules.specs.Names.{Block, meaning_of, look_up}
use Rattle.sz_check_rules.specs.JudgingTypes.{judge_type, judge_parts, judge_fields, type_named, shape_of, coded, coding_of, field_number, encoding_of}
use Rattle.sz_check_rules.specs.Agreeing.{Asks, asked_first, asked_after}
use Rattle.sz_check_rules.specs.JudgingCalls.{callee_of, asks_of_callee, conversion_node, made_call}
use Rattle.sz_check_rules.specs.JudgingComposites.{asks_of_list, made_list, asked_of_keys, asked_of_values, made_mapping}
use Rattle.sz_check_rules.specs.JudgingParts.{made_index, made_slice, made_field}
use Rattle.sz_check_rules.specs.JudgingOperators.{made_unary, operation_of, asked_of_right, made_binary}
use Rattle.sz_check_rules.specs.JudgingExpressions.{judge_exp, judge_exps, judge_pairs, variable_node}
use Rattle.sz_check_rules.proofs.Holds.{good, by_option}

-- each name stands for the same in both
abbrev pub Same : List Block → List Block → Type 0
Same bs cs = (name : List ℕ) → meaning_of name bs ≡ meaning_of name cs

module _ (bs cs : List Block) (same : Same bs cs) where
  pub look_same : (n : Ident) → look_up n bs ≡ look_up n cs
  look_same n = ap (by_option (unseen n) good) (same n.text)

  mutual
    unfolding judge_type judge_parts judge_fields

    pub type_same : (t : Typ) → judge_type bs t ≡ judge_type cs t
    type_same (basic p b) = refl
    type_same (type_name n) = λ i. look_same n i >>= λ m. type_named n m
    type_same (array p t) = λ i. type_same t i >>= λ element. Ok (Shape.array element)
    type_same (map_type p label k v) = λ i. type_same k i >>= λ key. type_same v i
        >>= λ value. Ok (Shape.mapping key value)
    type_same (tuple p ps) = λ i. parts_same [] ps i >>= λ fields. Ok (Shape.tuple fields)
    type_same (proto p fs) = λ i. fields_same [] [] fs i >>= λ fields. Ok (Shape.proto fields)

    parts_same : (taken : List (List ℕ)) (ps : Params) → judge_parts bs taken ps ≡ judge_parts cs taken ps
    parts_same taken no_params = refl
    parts_same taken (param n t ps) = λ i. type_same t i >>= λ part. if has_name n.text taken then bad_field n else (
        parts_same (n.text ∷ taken) ps i >>= λ fields. Ok (with_field (field n.text part 0 Plain) fields))

    fields_same : (taken : List (List ℕ)) (used : List ℕ) (fs : Fields)
        → judge_fields bs taken used fs ≡ judge_fields cs taken used fs
    fields_same taken used types.no_fields = refl
    fields_same taken used (proto_field n t k word fs) = λ i. type_same t i
        >>= λ part. coded n taken (coding_of used part (field_number k) (encoding_of word))
        >>= λ coding. fields_same (n.text ∷ taken) (coding.number ∷ used) fs i
        >>= λ fields. Ok (with_field (field n.text part coding.number coding.code) fields)

  module _ (may_emit : Bool) where
    mutual
      unfolding judge_exp judge_exps judge_pairs

      pub exp_same : (asked : Option Shape) (e : Exp) → judge_exp bs may_emit asked e ≡ judge_exp cs may_emit asked e
      exp_same asked (trees.literal p l) = refl
      exp_same asked (trees.named n) = λ i. look_same n i >>= λ m. variable_node n m
      exp_same asked (trees.call n es) = λ i. look_same n i >>= λ m. callee_of n m
          >>= λ callee. exps_same (asks_of_callee callee) es i >>= λ ns. made_call may_emit n callee es ns
      exp_same asked (trees.def p e) = λ i. exp_same None e i >>= λ n. Ok (node p Shape.truth (forms.def n))
      exp_same asked (trees.paren p e) = exp_same asked e
      exp_same asked (trees.convert p b e) = λ i. exp_same None e i >>= λ n. conversion_node p (shape_of b) e n
      exp_same asked (trees.list p es) = λ i. exps_same (asks_of_list asked es) es i >>= λ ns. made_list p asked es ns
      exp_same asked (trees.mapping p ps) = λ i. pairs_same (asked_of_keys asked) (asked_of_values asked) ps i
          >>= λ ns. made_mapping p asked ps ns
      exp_same asked (trees.index p e j) = λ i. exp_same None e i >>= λ n. exp_same None j i
          >>= λ m. made_index p e j n m
      exp_same asked (trees.slice p e j k) = λ i. exp_same None e i >>= λ n. exp_same None j i
          >>= λ m. exp_same None k i >>= λ o. made_slice p e j k n m o
      exp_same asked (trees.field p e f) = λ i. exp_same None e i >>= λ n. made_field p e n f
      exp_same asked (trees.unary p o e) = λ i. exp_same None e i >>= λ n. made_unary p o e n
      exp_same asked (trees.binary p o l r) = λ i. exp_same None l i
          >>= λ n. exp_same (asked_of_right (operation_of o) (type_of n)) r i
          >>= λ m. made_binary p (operation_of o) l r n m

      pub exps_same : (asks : Asks) (es : Exps) → judge_exps bs may_emit asks es ≡ judge_exps cs may_emit asks es
      exps_same asks trees.end = refl
      exps_same asks (trees.more e es) = λ i. exp_same (asked_first asks) e i
          >>= λ n. exps_same (asked_after asks) es i >>= λ ns. Ok (with_node n ns)

      pairs_same : (k v : Option Shape) (ps : Pairs) → judge_pairs bs may_emit k v ps ≡ judge_pairs cs may_emit k v ps
      pairs_same k v trees.no_pairs = refl
      pairs_same k v (trees.pair a b ps) = λ i. exp_same k a i >>= λ n. exp_same v b i >>= λ m. pairs_same k v ps i
          >>= λ ns. Ok (with_pairing n m ns)
