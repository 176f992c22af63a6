-- Whether lists of expressions agree with what is asked, turn by turn.
use Rattle.std.proofs.Common.{◌≡◌, ℕ, ◌+◌, ◌<◌, ◌≤◌, List, [], ◌∷◌, length, get_or, drop, map, refl, arith}
use Rattle.std.proofs.lemmas.List.{length-drop}
use Rattle.std.specs.Prelude.{Ok, Some, min}
use Rattle.sz_types.specs.Data.{Shape}
use Rattle.sz_tree.specs.declared.expr.Expr.{Expr}
use Rattle.sz_tree.specs.declared.expr.Pair.{Pair}
use Rattle.sz_tree.specs.Expressions.{exps_of, pairs_of}
use Rattle.sz_tree.specs.View.{tree_of, pair_of}
use Rattle.sz_core.specs.declared.expr.CoreExpr.{CoreExpr}
use Rattle.sz_core.specs.declared.expr.CorePair.{CorePair}
use Rattle.sz_core.specs.Nodes.{nodes_of, pairings_of}
use Rattle.sz_core.specs.View.{node_of, pairing_of}
use Rattle.sz_check_rules.specs.Refusals.{Judged, ◌>>=◌}
use Rattle.sz_types.proofs.ForCallers.{rest_more}
use Rattle.sz_check_rules.specs.Agreeing.{Asks, asked_first, asked_after, agrees, agree, pairs_agree, count_of}

-- whether the expressions from a place on agree, and so keys and values
abbrev pub agree_from : Asks → List Expr → List CoreExpr → ℕ → Judged Unit
agree_from asks es ns i = agree asks (exps_of (map tree_of (drop i es))) (nodes_of (map node_of (drop i ns)))

abbrev pub pairs_agree_from : Shape → Shape → List Pair → List CorePair → ℕ → Judged Unit
pairs_agree_from k v ps ns i =
    pairs_agree k v (pairs_of (map pair_of (drop i ps))) (pairings_of (map pairing_of (drop i ns)))

-- one turn of the loop over expressions that agree
pub agree_turn : (asks : Asks) (es : List Expr) (ns : List CoreExpr) (i : ℕ) (e : Expr) (n : CoreExpr)
    → i < length es → i < length ns → e ≡ get_or es i e → n ≡ get_or ns i n
    → agree_from asks es ns i
    ≡ (agrees (asked_first asks) (tree_of e) (node_of n) >>= λ _. agree_from (asked_after asks) es ns (i + 1))
unfolding agree
agree_turn asks es ns i e n le ln ise isn = rw (rest_more tree_of es i e le ise, rest_more node_of ns i n ln isn) refl

-- no turn more
pub agree_over : (asks : Asks) (es : List Expr) (ns : List CoreExpr) (i : ℕ) → min (length es) (length ns) ≤ i
    → agree_from asks es ns i ≡ Ok tt
unfolding agree
agree_over asks es ns i over = ended asks (drop i es) (drop i ns) (omega (arith, length-drop i es, length-drop i ns))
  where
    ended : (asks : Asks) (es : List Expr) (ns : List CoreExpr) → min (length es) (length ns) ≤ 0
        → agree asks (exps_of (map tree_of es)) (nodes_of (map node_of ns)) ≡ Ok tt
    ended asks [] ns h = refl
    ended asks (e ∷ es) [] h = refl
    ended asks (e ∷ es) (n ∷ ns) h = absurd (omega (arith, h))

-- the same of keys and values
pub pairs_turn : (k v : Shape) (ps : List Pair) (ns : List CorePair) (i : ℕ) (p : Pair) (n : CorePair)
    → i < length ps → i < length ns → p ≡ get_or ps i p → n ≡ get_or ns i n
    → pairs_agree_from k v ps ns i
    ≡ (agrees (Some k) (tree_of p.key) (node_of n.key)
    >>= λ _. agrees (Some v) (tree_of p.value) (node_of n.value) >>= λ _.
    pairs_agree_from k v ps ns (i + 1))
unfolding pairs_agree
pairs_turn k v ps ns i p n le ln ise isn = rw (rest_more pair_of ps i p le ise, rest_more pairing_of ns i n ln isn) refl

pub pairs_over : (k v : Shape) (ps : List Pair) (ns : List CorePair) (i : ℕ) → min (length ps) (length ns) ≤ i
    → pairs_agree_from k v ps ns i ≡ Ok tt
unfolding pairs_agree
pairs_over k v ps ns i over = ended k v (drop i ps) (drop i ns) (omega (arith, length-drop i ps, length-drop i ns))
  where
    ended : (k v : Shape) (ps : List Pair) (ns : List CorePair) → min (length ps) (length ns) ≤ 0
        → pairs_agree k v (pairs_of (map pair_of ps)) (pairings_of (map pairing_of ns)) ≡ Ok tt
    ended k v [] ns h = refl
    ended k v (p ∷ ps) [] h = refl
    ended k v (p ∷ ps) (n ∷ ns) h = absurd (omega (arith, h))

-- as many trees as expressions
pub count_is : (es : List Expr) → count_of (exps_of (map tree_of es)) ≡ length es
count_is [] = refl
count_is (e ∷ es) = omega (arith, count_is es)
