-- Operators give values of the types of their rows.
use Rattle.std.proofs.Common.{◌≡◌, ◌∙◌, ℤ, Bool, true, false, ◌&&◌, Option, Some, None, IfSome, if◌then◌else◌, ◌++◌, refl, sym, ap, subst}
use Rattle.std.specs.Option.{option_map}
use Rattle.sz_types.specs.Data.{Shape}
use Rattle.sz_types.specs.Same.{alike}
use Rattle.sz_types.proofs.ForCallers.{alike_equal}
use Rattle.sz_types.specs.declared.operator.UnOp.TheVariants.{Negate, Plus, Not, Flip}
use Rattle.sz_types.specs.declared.operator.BinOp.TheVariants.{Add, Sub, Equal, NotEqual, Less, LessEqual, Greater, GreaterEqual}
use Rattle.sz_value.specs.Data.{Datum, truth, int, time, str, bytes, array, Data, no_data, datum, data_of, parts_of}
use Rattle.std.specs.Ordering.{is_eq, is_ne, is_lt, is_le, is_gt, is_ge}
use Rattle.sz_value.specs.Order.{compare}
use Rattle.sz_builtin.specs.Operators.{sum, difference, of_numbers, on_numbers}
use Rattle.sz_types.specs.Rows.{sum_row, difference_row, unary_row, both_int, ordered}
use Rattle.sz_types.specs.Types.{has_type, all_have}
use Rattle.sz_types.proofs.TypingForCallers.{of_truth, of_int, of_time, of_str, of_bytes, of_array}
use Rattle.sz_builtin.specs.Types.{KeepsUnary, KeepsBinary}

pub some_same : {X : Type 0} (x y : X) → Some x ≡ Some y → x ≡ y
some_same x y e = cc

pub if_some : (b : Bool) (s u : Shape) → (if b then Some s else None) ≡ Some u → s ≡ u
if_some true s u e = some_same s u e
if_some false s u e = absurd cc

pub both : (a b : Bool) → (a && b) ≡ true → (a ≡ true) × (b ≡ true)
both true b h = (refl, h)
both false b h = absurd cc

pub both_in : {a b : Bool} → a ≡ true → b ≡ true → (a && b) ≡ true
both_in {a} {b} h k = ap (λ c. c && b) h ∙ k

-- the parts of two arrays have the type of both
joined_have : (ds es : Data) (e : Shape) → all_have ds e ≡ true → all_have es e ≡ true
    → all_have (data_of (parts_of ds ++ parts_of es)) e ≡ true
joined_have no_data es e h k = back es e k
  where
    back : (es : Data) (e : Shape) → all_have es e ≡ true → all_have (data_of (parts_of es)) e ≡ true
    back no_data e k = refl
    back (datum d es) e k = let p = both (has_type d e) (all_have es e) k in both_in p.0 (back es e p.1)
joined_have (datum d ds) es e h k = let p = both (has_type d e) (all_have ds e) h in
    both_in p.0 (joined_have ds es e p.1 k)

sum_keeps : (a b : Datum) (s t u : Shape) → has_type a s ≡ true → has_type b t ≡ true → sum_row s t ≡ Some u
    → IfSome (sum a b) (λ d. has_type d u ≡ true)
sum_keeps (int a) (int b) s t u h k r = subst (λ v. has_type (int a) v ≡ true)
    (some_same _ _ ((λ i. sum_row (of_int a s h i) (of_int b t k i)) ∙ r)) refl
sum_keeps (time a) (int b) s t u h k r = subst (λ v. has_type (time a) v ≡ true)
    (some_same _ _ ((λ i. sum_row (of_time a s h i) (of_int b t k i)) ∙ r)) refl
sum_keeps (str a) (str b) s t u h k r = subst (λ v. has_type (str a) v ≡ true)
    (some_same _ _ ((λ i. sum_row (of_str a s h i) (of_str b t k i)) ∙ r)) refl
sum_keeps (bytes a) (bytes b) s t u h k r = subst (λ v. has_type (bytes a) v ≡ true)
    (some_same _ _ ((λ i. sum_row (of_bytes a s h i) (of_bytes b t k i)) ∙ r)) refl
sum_keeps (array ds) (array es) s t u h k r =
    let p = of_array ds s h in
    let q = of_array es t k in
    arrays p.0 q.0 p.2 q.2 ((λ i. sum_row (p.1 i) (q.1 i)) ∙ r) (alike p.0 q.0) refl
  where
    arrays : (e f : Shape) → all_have ds e ≡ true → all_have es f ≡ true
        → (if alike e f then Some (Shape.array e) else None) ≡ Some u
        → (b : Bool) → alike e f ≡ b → has_type (array (data_of (parts_of ds ++ parts_of es))) u ≡ true
    arrays e f h k r true same =
        subst (λ v. has_type (array (data_of (parts_of ds ++ parts_of es))) v ≡ true)
        (some_same _ _ (sym (ap (λ b. if b then Some (Shape.array e) else None) same) ∙ r))
        (joined_have ds es e h (subst (λ v. all_have es v ≡ true) (sym (alike_equal e f same)) k))
    arrays e f h k r false same =
        absurd (let n = sym (ap (λ b. if b then Some (Shape.array e) else None) same) ∙ r in cc)
sum_keeps a b s t u h k r = tt

difference_keeps : (a b : Datum) (s t u : Shape) → has_type a s ≡ true → has_type b t ≡ true
    → difference_row s t ≡ Some u → IfSome (difference a b) (λ d. has_type d u ≡ true)
difference_keeps (int a) (int b) s t u h k r = subst (λ v. has_type (int a) v ≡ true)
    (some_same _ _ ((λ i. difference_row (of_int a s h i) (of_int b t k i)) ∙ r)) refl
difference_keeps (time a) (int b) s t u h k r = subst (λ v. has_type (time a) v ≡ true)
    (some_same _ _ ((λ i. difference_row (of_time a s h i) (of_int b t k i)) ∙ r)) refl
difference_keeps (time a) (time b) s t u h k r = subst (λ v. has_type (int a) v ≡ true)
    (some_same _ _ ((λ i. difference_row (of_time a s h i) (of_time b t k i)) ∙ r)) refl
difference_keeps a b s t u h k r = tt

numbers_keep : (f : ℤ → ℤ → Option ℤ) (a b : Datum) (u : Shape) → Shape.int ≡ u
    → IfSome (on_numbers f a b) (λ d. has_type d u ≡ true)
numbers_keep f (int a) (int b) u e = at (f a b)
  where
    at : (r : Option ℤ) → IfSome (option_map int r) (λ d. has_type d u ≡ true)
    at None = tt
    at (Some n) = subst (λ v. has_type (int n) v ≡ true) e refl
numbers_keep f a b u e = tt

-- a truth value has its type
pub truth_keeps : (b : Bool) (u : Shape) → Shape.truth ≡ u → has_type (truth b) u ≡ true
truth_keeps b u e = subst (λ v. has_type (truth b) v ≡ true) e refl

pub binary_keeps : KeepsBinary
binary_keeps Add a b s t u h k r = sum_keeps a b s t u h k r
binary_keeps Sub a b s t u h k r = difference_keeps a b s t u h k r
binary_keeps Equal a b s t u h k r = truth_keeps (is_eq (compare a b)) u (if_some (alike s t) Shape.truth u r)
binary_keeps NotEqual a b s t u h k r = truth_keeps (is_ne (compare a b)) u (if_some (alike s t) Shape.truth u r)
binary_keeps Less a b s t u h k r = truth_keeps (is_lt (compare a b)) u (if_some (ordered s t) Shape.truth u r)
binary_keeps LessEqual a b s t u h k r = truth_keeps (is_le (compare a b)) u (if_some (ordered s t) Shape.truth u r)
binary_keeps Greater a b s t u h k r = truth_keeps (is_gt (compare a b)) u (if_some (ordered s t) Shape.truth u r)
binary_keeps GreaterEqual a b s t u h k r = truth_keeps (is_ge (compare a b)) u (if_some (ordered s t) Shape.truth u r)
binary_keeps op a b s t u h k r = numbers_keep (of_numbers op) a b u (if_some (both_int s t) Shape.int u r)

pub unary_keeps : KeepsUnary
unary_keeps Negate (int a) s u h r =
    subst (λ v. has_type (int a) v ≡ true) (some_same _ _ (ap (unary_row Negate) (of_int a s h) ∙ r)) refl
unary_keeps Plus (int a) s u h r =
    subst (λ v. has_type (int a) v ≡ true) (some_same _ _ (ap (unary_row Plus) (of_int a s h) ∙ r)) refl
unary_keeps Flip (int a) s u h r =
    subst (λ v. has_type (int a) v ≡ true) (some_same _ _ (ap (unary_row Flip) (of_int a s h) ∙ r)) refl
unary_keeps Not (truth a) s u h r =
    subst (λ v. has_type (truth a) v ≡ true) (some_same _ _ (ap (unary_row Not) (of_truth a s h) ∙ r)) refl
unary_keeps op a s u h r = tt
