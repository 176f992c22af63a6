-- Expressions and pairs in a vector.
use Rattle.std.proofs.Common.{◌≡◌, List, [], ◌∷◌, ◌++◌, Option, Some, max, refl, ap, arith}
use Rattle.std.specs.Prelude.{map}
use Rattle.sz_lex.specs.declared.token.Token.{Token}
use Rattle.sz_tree.specs.declared.expr.Expr.{Expr}
use Rattle.sz_tree.specs.declared.expr.Pair.{Pair}
use Rattle.sz_tree.specs.Expressions.{Exp, height, heights, pair_heights, exps_of, pairs_of}
use Rattle.sz_tree.specs.View.{tree_of, pair_of}
use Rattle.sz_parse_expr.specs.Reading.{all_at, with_items}
use Rattle.sz_parse_expr.specs.ReadingExpressions.{Sub, comma_step, pair_step, items_after, pairs_after}

abbrev pub just : {A : Type 0} → A → Option A
just x = Some x

pub map_push : {A B : Type 0} (f : A → B) (xs : List A) (x : A) → map f (xs ++ x ∷ []) ≡ map f xs ++ f x ∷ []
map_push f [] x = refl
map_push f (y ∷ xs) x = ap (λ (l : List _). f y ∷ l) (map_push f xs x)

pub trees_push : (xs : List Expr) (x : Expr) → map tree_of (xs ++ x ∷ []) ≡ map tree_of xs ++ tree_of x ∷ []
trees_push xs x = map_push tree_of xs x

pub pairs_push : (xs : List Pair) (x : Pair) → map pair_of (xs ++ x ∷ []) ≡ map pair_of xs ++ pair_of x ∷ []
pairs_push xs x = map_push pair_of xs x

pub heights_push : (xs : List Exp) (x : Exp) → heights (exps_of (xs ++ x ∷ [])) ≡ max (heights (exps_of xs)) (height x)
unfolding height
heights_push [] x = omega arith
heights_push (y ∷ xs) x = omega (arith, heights_push xs x)

pub pair_heights_push : (xs : List (Exp × Exp)) (x : Exp × Exp)
    → pair_heights (pairs_of (xs ++ x ∷ [])) ≡ max (pair_heights (pairs_of xs)) (pair_heights (pairs_of (x ∷ [])))
unfolding height
pair_heights_push [] x = omega arith
pair_heights_push (y ∷ xs) x = omega (arith, pair_heights_push xs x)

pub items_start : (sub : Sub) (e : Exp) (ts : List Token)
    → with_items (e ∷ []) (all_at (comma_step sub) ts) ≡ items_after sub e ts
unfolding with_items items_after
items_start sub e ts = refl

pub pairs_start : (sub : Sub) (p : Exp × Exp) (ts : List Token)
    → with_items (p ∷ []) (all_at (pair_step sub) ts) ≡ pairs_after sub p ts
unfolding with_items pairs_after
pairs_start sub p ts = refl
