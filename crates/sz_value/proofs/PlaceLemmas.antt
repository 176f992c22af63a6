-- Pairs by place, in one list and in runs.
use Rattle.std.proofs.Common.{◌≡◌, ℕ, zero, suc, ◌+◌, ◌-◌, ◌<◌, ◌≤◌, List, [], ◌∷◌, ◌++◌, length, map, take, drop, get_or, slice_get, Some, refl, sym, ap, ◌∙◌, arith}
use Rattle.std.proofs.lemmas.List.{take_more, drop_more, map-append}
use Rattle.std.proofs.lemmas.Option.{slice_get_within, get_or_from_slice_get}
use Rattle.sz_value.specs.Data.{Datum}
use Rattle.sz_value.specs.Seen.{seen_pair}
use Rattle.sz_value.specs.declared.value.Pair.{Pair}
use Rattle.sz_value.specs.declared.value.List.TheDeep.{deep-Value, deep-Pair}
use Rattle.sz_value.specs.Code.{datum_nodes, pairs_nodes}
use Rattle.sz_value.specs.Falls.{deep_le-nodes}

-- a list from a place on begins with what stands there
pub drop_at : {X : Type 0} (xs : List X) (i : ℕ) (x : X) → slice_get xs i ≡ Some x → drop i xs ≡ x ∷ drop (i + 1) xs
drop_at xs i x is = drop_more xs i x (slice_get_within xs i x is)
    ∙ ap (λ y. y ∷ drop (i + 1) xs) (get_or_from_slice_get xs i x x is)

-- what stands in the first of two lists
pub get_front : {X : Type 0} (xs ys : List X) (i : ℕ) → i < length xs → slice_get (xs ++ ys) i ≡ slice_get xs i
get_front [] ys i within = absurd (omega arith)
get_front (x ∷ xs) ys zero within = refl
get_front (x ∷ xs) ys (suc i) within = get_front xs ys i (omega arith)

-- what stands in the second of two lists
pub get_back : {X : Type 0} (xs ys : List X) (i : ℕ) → length xs ≤ i
    → slice_get (xs ++ ys) i ≡ slice_get ys (i - length xs)
get_back [] ys i past = ap (slice_get ys) (omega arith)
get_back (x ∷ xs) ys zero past = absurd (omega arith)
get_back (x ∷ xs) ys (suc i) past = get_back xs ys i (omega arith) ∙ ap (slice_get ys) (omega arith)

nodes_at : (ps : List (Datum × Datum)) (i : ℕ) (d : Datum × Datum) → i < length ps
    → datum_nodes (get_or ps i d).0 + datum_nodes (get_or ps i d).1 ≤ pairs_nodes ps
nodes_at [] i d within = absurd (omega arith)
nodes_at (p ∷ ps) zero d within = omega arith
nodes_at (p ∷ ps) (suc i) d within = omega (arith, nodes_at ps i d (omega arith))

-- a pair that stands among pairs is no deeper than they are
pub pair_fewer : (ps : List (Datum × Datum)) (i : ℕ) (p : Pair) → slice_get ps i ≡ Some (seen_pair p)
    → deep-Pair p ≤ pairs_nodes ps
pair_fewer ps i p is =
    let here =
    ap (λ q. datum_nodes q.0 + datum_nodes q.1) (get_or_from_slice_get ps i (seen_pair p) (seen_pair p) is) in
    omega (
      arith,
      nodes_at ps i (seen_pair p) (slice_get_within ps i (seen_pair p) is),
      here,
      deep_le-nodes p.key,
      deep_le-nodes p.value,
    )

-- nor are its key and its value
pub key_fewer : (ps : List (Datum × Datum)) (i : ℕ) (p : Pair) → slice_get ps i ≡ Some (seen_pair p)
    → deep-Value p.key ≤ pairs_nodes ps
key_fewer ps i p is =
    let here =
    ap (λ q. datum_nodes q.0 + datum_nodes q.1) (get_or_from_slice_get ps i (seen_pair p) (seen_pair p) is) in
    omega (arith, nodes_at ps i (seen_pair p) (slice_get_within ps i (seen_pair p) is), here, deep_le-nodes p.key)

pub value_fewer : (ps : List (Datum × Datum)) (i : ℕ) (p : Pair) → slice_get ps i ≡ Some (seen_pair p)
    → deep-Value p.value ≤ pairs_nodes ps
value_fewer ps i p is =
    let here =
    ap (λ q. datum_nodes q.0 + datum_nodes q.1) (get_or_from_slice_get ps i (seen_pair p) (seen_pair p) is) in
    omega (arith, nodes_at ps i (seen_pair p) (slice_get_within ps i (seen_pair p) is), here, deep_le-nodes p.value)

-- the front with what stands behind it
pub taken_more : (ps : List (Datum × Datum)) (i : ℕ) (p : Datum × Datum) → slice_get ps i ≡ Some p
    → take (i + 1) ps ≡ take i ps ++ p ∷ []
taken_more ps i p is = take_more ps i p (slice_get_within ps i p is)
    ∙ ap (λ q. take i ps ++ q ∷ []) (get_or_from_slice_get ps i p p is)

-- the copies so far with the copy of the pair behind them
pub copied_more : (all : List (Datum × Datum)) (i : ℕ) (made more : List Pair) (copy pair : Pair)
    → slice_get all i ≡ Some (seen_pair pair) → seen_pair copy ≡ seen_pair pair → more ≡ made ++ copy ∷ []
    → map seen_pair made ≡ take i all → map seen_pair more ≡ take (i + 1) all
copied_more all i made more copy pair here same is so_far =
    ap (map seen_pair) is
    ∙ map-append seen_pair made (copy ∷ [])
    ∙ (λ t. so_far t ++ same t ∷ [])
    ∙ sym (taken_more all i (seen_pair pair) here)
