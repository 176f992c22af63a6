-- Turns of the loops over expressions.
use Rattle.std.proofs.Common.{◌≡◌, ℕ, ◌+◌, ◌<◌, ◌≤◌, Bool, List, [], ◌∷◌, ◌++◌, length, get_or, drop, map, Option, None, refl, sym, ap, ◌∙◌}
use Rattle.std.specs.Prelude.{Ok, Err}
use Rattle.sz_types.specs.Data.{Shape}
use Rattle.sz_tree.specs.declared.expr.Expr.{Expr}
use Rattle.sz_tree.specs.declared.expr.Pair.{Pair}
use Rattle.sz_types.specs.declared.place.Place.{Place}
use Rattle.sz_tree.specs.declared.operator.BinaryOp.{BinaryOp}
use Rattle.sz_tree.specs.Expressions.{Lit, Exp, literal, paren, index, slice, binary, exps_of, pairs_of}
use Rattle.sz_tree.specs.View.{tree_of, pair_of}
use Rattle.sz_core.specs.Nodes.{Node, type_of, Nodes, no_nodes, with_node, nodes_of, Pairings, no_pairings, with_pairing, pairings_of}
use Rattle.sz_check_rules.specs.Refusals.{Judged, ◌>>=◌}
use Rattle.sz_check_rules.specs.Names.{Block}
use Rattle.sz_check_rules.specs.Agreeing.{Asks, asked_first, asked_after}
use Rattle.sz_check_rules.specs.JudgingParts.{made_index, made_slice}
use Rattle.sz_check_rules.specs.JudgingOperators.{operation_of, asked_of_right, made_binary}
use Rattle.sz_check_rules.specs.JudgingExpressions.{literal_node, judge_exp, judge_exps, judge_pairs}
use Rattle.sz_check_names.specs.Turns.{following, put_all}
use Rattle.sz_check_expr.specs.Lists.{with_pair, judge_pair}
use Rattle.sz_check_names.specs.Outcome.{Stops}
use Rattle.sz_check_names.specs.declared.error.JudgeError.{JudgeError}
use Rattle.sz_check_names.proofs.TurnLemmas.{stops_then, goes_on, turn_fails, turn_goes, turn_ends}
use Rattle.sz_types.proofs.ForCallers.{rest_more, rest_none}

-- nodes put in front of none are these nodes
pub put_nodes : (ns : List Node) → put_all with_node ns no_nodes ≡ nodes_of ns
put_nodes [] = refl
put_nodes (n ∷ ns) = ap (with_node n) (put_nodes ns)

pub put_pairs : (ps : List (Node × Node)) → put_all with_pair ps no_pairings ≡ pairings_of ps
put_pairs [] = refl
put_pairs (p ∷ ps) = ap (with_pairing p.0 p.1) (put_pairs ps)

module _ (blocks : List Block) (may_emit : Bool) where
  -- what is in parentheses is judged as it is, and a literal is its node
  pub paren_is : (asked : Option Shape) (p : Place) (e : Exp)
      → judge_exp blocks may_emit asked (paren p e) ≡ judge_exp blocks may_emit asked e
  unfolding judge_exp
  paren_is asked p e = refl

  pub literal_is : (asked : Option Shape) (p : Place) (l : Lit)
      → judge_exp blocks may_emit asked (literal p l) ≡ Ok (literal_node p l)
  unfolding judge_exp
  literal_is asked p l = refl

  -- an element, a slice and an operator between two operands, part by part
  pub index_is : (asked : Option Shape) (p : Place) (e i : Exp) → judge_exp blocks may_emit asked (index p e i)
      ≡ (judge_exp blocks may_emit None e >>= λ n. judge_exp blocks may_emit None i >>= λ m. made_index p e i n m)
  unfolding judge_exp
  index_is asked p e i = refl

  pub slice_is : (asked : Option Shape) (p : Place) (e i j : Exp) → judge_exp blocks may_emit asked (slice p e i j)
      ≡ (judge_exp blocks may_emit None e >>= λ n. judge_exp blocks may_emit None i
      >>= λ m. judge_exp blocks may_emit None j >>= λ o. made_slice p e i j n m o)
  unfolding judge_exp
  slice_is asked p e i j = refl

  -- a slice whose last bound is refused
  pub slice_stops : (asked : Option Shape) (p : Place) (e i j : Exp) (n m : Node) (r : JudgeError)
      → judge_exp blocks may_emit None e ≡ Ok n → judge_exp blocks may_emit None i ≡ Ok m
      → Stops r (judge_exp blocks may_emit None j) → Stops r (judge_exp blocks may_emit asked (slice p e i j))
  slice_stops asked p e i j n m r h g stop =
      stops_then r (judge_exp blocks may_emit None j) (λ o. made_slice p e i j n m o) _ stop
      (goes_on (judge_exp blocks may_emit None i)
      (λ m. judge_exp blocks may_emit None j >>= λ o. made_slice p e i j n m o) _ m g
      (goes_on (judge_exp blocks may_emit None e)
      (λ n. judge_exp blocks may_emit None i >>= λ m. judge_exp blocks may_emit None j >>= λ o.
      made_slice p e i j n m o) _ n h (sym (slice_is asked p e i j))))

  pub binary_is : (asked : Option Shape) (p : Place) (o : BinaryOp) (l r : Exp)
      → judge_exp blocks may_emit asked (binary p o l r) ≡ (judge_exp blocks may_emit None l
      >>= λ n. judge_exp blocks may_emit (asked_of_right (operation_of o) (type_of n)) r >>= λ m.
      made_binary p (operation_of o) l r n m)
  unfolding judge_exp
  binary_is asked p o l r = refl

  -- the judgement of the expressions from a place on, and of keys and values
  abbrev pub exps_from : Asks → List Expr → ℕ → Judged Nodes
  exps_from asks es i = judge_exps blocks may_emit asks (exps_of (map tree_of (drop i es)))

  abbrev pub pairs_from : Option Shape → Option Shape → List Pair → ℕ → Judged Pairings
  pairs_from k v ps i = judge_pairs blocks may_emit k v (pairs_of (map pair_of (drop i ps)))

  -- the judgement of what is left begins with that of the first
  exps_turn : (asks : Asks) (es : List Expr) (i : ℕ) (e : Expr) → i < length es → e ≡ get_or es i e
      → exps_from asks es i
      ≡ (judge_exp blocks may_emit (asked_first asks) (tree_of e) >>= λ n. exps_from (asked_after asks) es (i + 1)
      >>= λ ns. Ok (with_node n ns))
  unfolding judge_exps
  exps_turn asks es i e within is = rw (rest_more tree_of es i e within is) refl

  exps_over : (asks : Asks) (es : List Expr) (i : ℕ) → length es ≤ i → exps_from asks es i ≡ Ok no_nodes
  unfolding judge_exps
  exps_over asks es i over = rw (rest_none tree_of es i over) refl

  pub exps_fails : (front : List Node) (asks : Asks) (es : List Expr) (i : ℕ) (e : Expr) (r : JudgeError)
      (whole : Judged Nodes) → i < length es
      → e ≡ get_or es i e → Stops r (judge_exp blocks may_emit (asked_first asks) (tree_of e))
      → following with_node front (exps_from asks es i) ≡ whole → Stops r whole
  exps_fails front asks es i e r whole within is h so_far =
      turn_fails with_node front r _ _ _ whole (exps_turn asks es i e within is) h so_far

  pub exps_goes : (front : List Node) (asks : Asks) (es : List Expr) (i : ℕ) (e : Expr) (n : Node)
      (whole : Judged Nodes) → i < length es → e ≡ get_or es i e → judge_exp blocks may_emit (asked_first asks)
      (tree_of e) ≡ Ok n → following with_node front (exps_from asks es i) ≡ whole
      → following with_node (front ++ n ∷ []) (exps_from (asked_after asks) es (i + 1)) ≡ whole
  exps_goes front asks es i e n whole within is h so_far =
      turn_goes with_node front n _ (λ _. exps_from (asked_after asks) es (i + 1)) _ whole
      (exps_turn asks es i e within is) h so_far

  pub exps_ends : (front : List Node) (asks : Asks) (es : List Expr) (i : ℕ) (whole : Judged Nodes) → length es ≤ i
      → following with_node front (exps_from asks es i) ≡ whole → whole ≡ Ok (nodes_of front)
  exps_ends front asks es i whole over so_far =
      turn_ends with_node front no_nodes _ whole (exps_over asks es i over) so_far
      ∙ ap (λ (ns : Nodes). Ok ns) (put_nodes front)

  both_then : (j l : Judged Node) (rest : Judged Pairings)
      → (j >>= λ n. l >>= λ m. rest >>= λ ns. Ok (with_pairing n m ns))
      ≡ ((j >>= λ n. l >>= λ m. Ok (n, m)) >>= λ b. rest >>= λ ns. Ok (with_pair b ns))
  both_then (Ok n) (Ok m) rest = refl
  both_then (Ok n) (Err r) rest = refl
  both_then (Err r) l rest = refl

  pairs_turn : (k v : Option Shape) (ps : List Pair) (i : ℕ) (p : Pair) → i < length ps → p ≡ get_or ps i p
      → pairs_from k v ps i
      ≡ (judge_pair blocks may_emit k v (pair_of p) >>= λ b. pairs_from k v ps (i + 1) >>= λ ns. Ok (with_pair b ns))
  unfolding judge_pairs
  pairs_turn k v ps i p within is = rw (rest_more pair_of ps i p within is) (both_then _ _ _)

  pairs_over : (k v : Option Shape) (ps : List Pair) (i : ℕ) → length ps ≤ i → pairs_from k v ps i ≡ Ok no_pairings
  unfolding judge_pairs
  pairs_over k v ps i over = rw (rest_none pair_of ps i over) refl

  pub pairs_fails : (front : List (Node × Node)) (k v : Option Shape) (ps : List Pair) (i : ℕ) (p : Pair)
      (r : JudgeError) (whole : Judged Pairings)
      → i < length ps → p ≡ get_or ps i p → Stops r (judge_pair blocks may_emit k v (pair_of p))
      → following with_pair front (pairs_from k v ps i) ≡ whole → Stops r whole
  pairs_fails front k v ps i p r whole within is h so_far =
      turn_fails with_pair front r _ _ _ whole (pairs_turn k v ps i p within is) h so_far

  pub pairs_goes : (front : List (Node × Node)) (k v : Option Shape) (ps : List Pair) (i : ℕ) (p : Pair)
      (b : Node × Node) (whole : Judged Pairings)
      → i < length ps → p ≡ get_or ps i p → judge_pair blocks may_emit k v (pair_of p) ≡ Ok b
      → following with_pair front (pairs_from k v ps i) ≡ whole
      → following with_pair (front ++ b ∷ []) (pairs_from k v ps (i + 1)) ≡ whole
  pairs_goes front k v ps i p b whole within is h so_far =
      turn_goes with_pair front b _ (λ _. pairs_from k v ps (i + 1)) _ whole (pairs_turn k v ps i p within is) h so_far

  pub pairs_ends : (front : List (Node × Node)) (k v : Option Shape) (ps : List Pair) (i : ℕ)
      (whole : Judged Pairings) → length ps ≤ i
      → following with_pair front (pairs_from k v ps i) ≡ whole → whole ≡ Ok (pairings_of front)
  pairs_ends front k v ps i whole over so_far =
      turn_ends with_pair front no_pairings _ whole (pairs_over k v ps i over) so_far
      ∙ ap (λ (ns : Pairings). Ok ns) (put_pairs front)
