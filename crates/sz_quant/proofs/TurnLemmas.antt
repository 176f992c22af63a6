-- Lists that are gone through from the front: what is left begins with the element at hand.
use Rattle.std.proofs.Common.{◌≡◌, ℕ, ◌+◌, ◌<◌, ◌≤◌, List, [], ◌∷◌, ◌++◌, length, get_or, drop, map, refl, ap, sym, ◌∙◌, append_assoc, append-nil, arith, suc, length-append}
use Rattle.std.proofs.lemmas.List.{drop_more, map-append}
use Rattle.std.proofs.lemmas.Bool.{lt-ltb}
use Rattle.std.specs.Prelude.{Option, Some, None, Result, Err}
use Rattle.std.specs.List.{position, position_or_len}
use Rattle.std.specs.Option.{is_none}
use Rattle.sz_tree.specs.declared.expr.Expr.{Expr}
use Rattle.sz_tree.specs.declared.expr.Pair.{Pair}
use Rattle.std.specs.Global.{Vec}
use Rattle.std.specs.Borrow.{Bor}
use Rattle.sz_types.specs.declared.place.Place.{Place}
use Rattle.sz_types.proofs.ForCallers.{rest_more, rest_none}
use Rattle.sz_tree.specs.declared.expr.Expr.TheVariants as exprs
use Rattle.sz_tree.specs.Names.{Ident}
use Rattle.sz_tree.specs.Expressions.{Exp, call, list, mapping, exps_of, pairs_of}
use Rattle.sz_tree.proofs.RowLemmas.{tree_of_call, tree_of_list, tree_of_map}
use Rattle.sz_tree.specs.View.{tree_of, pair_of}
use Rattle.sz_quant.specs.Parts.{parts, parts_of, parts_in}
use Rattle.sz_quant.specs.Fitting.{BoundForm, first_fit, bounds_of}
use Rattle.sz_quant.specs.Seen.{seen_ref}
use Rattle.sz_quant.specs.declared.error.BoundsError.{BoundsError}
use Rattle.sz_quant.specs.declared.error.BoundsError.TheVariants as errors

-- ---- parts that are appended

-- the parts of the expressions from a place on, and of the pairs
abbrev pub parts_from : List Expr → ℕ → List Exp
parts_from es i = parts_of (exps_of (map tree_of (drop i es)))

abbrev pub pair_parts_from : List Pair → ℕ → List Exp
pair_parts_from ps i = parts_in (pairs_of (map pair_of (drop i ps)))

pub parts_go : (made more whole : List Exp) (es : List Expr) (i : ℕ) (e : Expr) → i < length es → e ≡ get_or es i e
    → more ≡ made ++ parts (tree_of e) → made ++ parts_from es i ≡ whole → more ++ parts_from es (i + 1) ≡ whole
parts_go made more whole es i e within is now so_far =
    ap (λ (m : _). m ++ parts_from es (i + 1)) now ∙ append_assoc made (parts (tree_of e)) (parts_from es (i + 1))
    ∙ ap (λ (xs : _). made ++ parts_of (exps_of xs)) (sym (rest_more tree_of es i e within is)) ∙ so_far

pub parts_end : (made whole : List Exp) (es : List Expr) (i : ℕ) → length es ≤ i
    → made ++ parts_from es i ≡ whole → made ≡ whole
parts_end made whole es i over so_far =
    sym (append-nil made) ∙ ap (λ (xs : _). made ++ parts_of (exps_of xs)) (sym (rest_none tree_of es i over)) ∙ so_far

pub pair_parts_go : (made keyed more whole : List Exp) (ps : List Pair) (i : ℕ) (p : Pair) → i < length ps
    → p ≡ get_or ps i p → keyed ≡ made ++ parts (tree_of p.key) → more ≡ keyed ++ parts (tree_of p.value)
    → made ++ pair_parts_from ps i ≡ whole → more ++ pair_parts_from ps (i + 1) ≡ whole
pair_parts_go made keyed more whole ps i p within is key value so_far =
    let k = parts (tree_of p.key) in
    let v = parts (tree_of p.value) in
    let rest = pair_parts_from ps (i + 1) in
    ap (λ (m : _). m ++ rest) (value ∙ ap (λ (m : _). m ++ v) key ∙ append_assoc made k v)
    ∙ append_assoc made (k ++ v) rest
    ∙ ap (λ (xs : _). made ++ parts_in (pairs_of xs)) (sym (rest_more pair_of ps i p within is)) ∙ so_far

pub pair_parts_end : (made whole : List Exp) (ps : List Pair) (i : ℕ) → length ps ≤ i
    → made ++ pair_parts_from ps i ≡ whole → made ≡ whole
pair_parts_end made whole ps i over so_far =
    sym (append-nil made) ∙ ap (λ (xs : _). made ++ parts_in (pairs_of xs)) (sym (rest_none pair_of ps i over)) ∙ so_far

-- ---- nodes whose parts stand in a vector

-- such a node is made of copies of its parts
pub copied_call : (made tree : Expr) (n m : Ident) (v w : Vec Expr)
    → tree_of made ≡ call n (exps_of (map tree_of v.items)) → n ≡ m
    → map tree_of v.items ≡ map tree_of w.items → tree ≡ exprs.Call m w → tree_of made ≡ tree_of tree
copied_call made tree n m v w first name items is =
    first ∙ ap (λ (i : Ident). call i (exps_of (map tree_of v.items))) name
    ∙ ap (λ (es : List Exp). call m (exps_of es)) items ∙ sym (ap tree_of is ∙ tree_of_call m w)

pub copied_list : (made tree : Expr) (p : Place) (v w : Vec Expr)
    → tree_of made ≡ list p (exps_of (map tree_of v.items))
    → map tree_of v.items ≡ map tree_of w.items → tree ≡ exprs.List p w → tree_of made ≡ tree_of tree
copied_list made tree p v w first items is =
    first ∙ ap (λ (es : List Exp). list p (exps_of es)) items ∙ sym (ap tree_of is ∙ tree_of_list p w)

pub copied_map : (made tree : Expr) (p : Place) (v w : Vec Pair)
    → tree_of made ≡ mapping p (pairs_of (map pair_of v.items))
    → map pair_of v.items ≡ map pair_of w.items → tree ≡ exprs.Map p w → tree_of made ≡ tree_of tree
copied_map made tree p v w first items is =
    first ∙ ap (λ (ps : List (Exp × Exp)). mapping p (pairs_of ps)) items ∙ sym (ap tree_of is ∙ tree_of_map p w)

-- itself, and the parts after it, are its parts
pub added : (before pushed after inner : List Exp) (tree : Expr) (e : Exp) → pushed ≡ before ++ tree_of tree ∷ []
    → after ≡ pushed ++ inner → tree_of tree ≡ e → parts e ≡ e ∷ inner → after ≡ before ++ parts (tree_of tree)
added before pushed after inner tree e first more is all =
    more ∙ ap (λ (m : List Exp). m ++ inner) first ∙ append_assoc before (tree_of tree ∷ []) inner
    ∙ ap (λ (f : Exp). before ++ f ∷ inner) is ∙ ap (λ (es : List Exp). before ++ es) (sym all)
    ∙ ap (λ (f : Exp). before ++ parts f) (sym is)

-- one expression more is lent
pub lent : (xs ys : List (Bor Expr)) (x : Bor Expr) → ys ≡ xs ++ x ∷ []
    → map seen_ref ys ≡ map seen_ref xs ++ tree_of x.now ∷ []
lent xs ys x is = ap (map seen_ref) is ∙ map-append seen_ref xs (x ∷ [])

-- ---- bounds that are found

one_more : (n : ℕ) → 1 + n ≡ suc n
one_more n = omega arith

-- as many as are in front of the first lack
prefix_found : {A : Type 0} (xs : List A) (rest : List (Option A))
    → position_or_len is_none (map (λ x. Some x) xs ++ None ∷ rest) ≡ length xs
prefix_found [] rest = refl
prefix_found (x ∷ xs) rest = ap (λ (n : ℕ). 1 + n) (prefix_found xs rest) ∙ one_more (length xs)

longer : {A : Type 0} (xs : List A) (rest : List (Option A)) → length xs < length (map (λ x. Some x) xs ++ None ∷ rest)
longer [] rest = omega arith
longer (x ∷ xs) rest = let more = longer xs rest in omega arith

-- after those that have a bound stands the first that has none
pub first_lack : {A : Type 0} (xs : List A) (rest : List (Option A))
    → position is_none (map (λ x. Some x) xs ++ None ∷ rest) ≡ Some (length xs)
first_lack xs rest = rw (prefix_found xs rest, lt-ltb _ _ (longer xs rest)) refl

-- the bound of the variable at a place, and those of the variables after it
bounds_turn : (names : List (List ℕ)) (c : Exp) (i : ℕ) → i < length names
    → bounds_of (drop i names) c ≡ first_fit (drop i names) (parts c) ∷ bounds_of (drop (i + 1) names) c
bounds_turn names c i within =
    let e = drop_more names i [] within in
    ap (λ (vs : _). bounds_of vs c) e
    ∙ ap (λ (vs : _). first_fit vs (parts c) ∷ bounds_of (drop (i + 1) names) c) (sym e)

-- what is found so far, and what the variables that are left have, is what all have
pub record IsFoundUpTo (found : List BoundForm) (names : List (List ℕ)) (c : Exp) (i : ℕ) : Type 0 where
  pub so_far : map (λ (b : BoundForm). Some b) found ++ bounds_of (drop i names) c ≡ bounds_of names c
  pub count : length found ≡ i

pub found_more : (found more : List BoundForm) (b : BoundForm) (names : List (List ℕ)) (c : Exp) (i : ℕ)
    → i < length names → Some b ≡ first_fit (drop i names) (parts c) → more ≡ found ++ b ∷ []
    → IsFoundUpTo found names c i → IsFoundUpTo more names c (i + 1)
found_more found more b names c i within fits now h = record {
  so_far = ap (λ (bs : List BoundForm). map (λ (x : BoundForm). Some x) bs ++ bounds_of (drop (i + 1) names) c) now
      ∙ ap (λ (bs : _). bs ++ bounds_of (drop (i + 1) names) c) (map-append (λ (x : BoundForm). Some x) found (b ∷ []))
      ∙ append_assoc (map (λ (x : BoundForm). Some x) found) (Some b ∷ []) (bounds_of (drop (i + 1) names) c)
      ∙ ap
      (λ (o : Option BoundForm). map (λ (x : BoundForm). Some x) found ++ o ∷ bounds_of (drop (i + 1) names) c) fits
      ∙ ap (λ (bs : _). map (λ (x : BoundForm). Some x) found ++ bs) (sym (bounds_turn names c i within)) ∙ h.so_far;
  count = ap length now ∙ length-append found (b ∷ []) ∙ ap (λ (n : ℕ). n + 1) h.count;
}

pub found_lack : (found : List BoundForm) (names : List (List ℕ)) (c : Exp) (i n : ℕ) → i < length names
    → None ≡ first_fit (drop i names) (parts c) → n ≡ i → IsFoundUpTo found names c i
    → position is_none (bounds_of names c) ≡ Some n
found_lack found names c i n within fits same h =
    ap (position is_none) (sym h.so_far ∙ ap (λ (bs : _). map (λ (b : BoundForm). Some b) found ++ bs)
    (bounds_turn names c i within ∙ ap (λ (o : Option BoundForm). o ∷ bounds_of (drop (i + 1) names) c) (sym fits)))
    ∙ first_lack found (bounds_of (drop (i + 1) names) c) ∙ ap (λ (k : ℕ). Some k) (h.count ∙ sym same)

-- the variable that an answer names
abbrev number_of : {X : Type 0} → Result X BoundsError → ℕ
number_of (Err (errors.Unbounded n)) = n
number_of r = 0

pub same_number : {X : Type 0} (n m : ℕ)
    → ◌≡◌ {A = Result X BoundsError} (Err (errors.Unbounded n)) (Err (errors.Unbounded m)) → n ≡ m
same_number n m same = ap number_of same
