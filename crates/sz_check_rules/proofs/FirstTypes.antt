-- The types that operators, indexes and predeclared functions take first are those that have a row.
use Rattle.std.proofs.Common.{◌≡◌, ◌↔◌, Bool, true, false, true≢false, Option, Some, None, refl, sym, ap, subst}
use Rattle.std.specs.Prelude.{if◌then◌else◌}
use Rattle.sz_types.specs.Data.{Shape}
use Rattle.sz_types.specs.Same.{alike}
use Rattle.sz_types.specs.Rows.{both_int, ordered, sum_row, difference_row, binary_row, index_row, haskey_row, strfind_row}
use Rattle.sz_types.specs.declared.operator.BinOp.{BinOp}
use Rattle.sz_types.specs.declared.operator.BinOp.TheVariants as binary
use Rattle.sz_types.proofs.ForCallers.{alike_equal, alike_itself}
use Rattle.sz_check_rules.specs.Agreeing.{is_map, is_searched_for}
use Rattle.sz_check_rules.specs.JudgingParts.{has_index}
use Rattle.sz_check_rules.specs.JudgingOperators.{is_summand, is_minuend, is_ordered, takes_left}

-- there is a row with some second type
abbrev HasRow : (Shape → Option Shape) → Type 0
HasRow row = (t u : Shape) × (row t ≡ Some u)

no_row : {u : Shape} → ◌≡◌ {A = Option Shape} None (Some u) → ⊥
no_row h = cc

not_so : {X : Type 0} → false ≡ true → X
not_so h = absurd (true≢false (sym h))

-- what a test that holds gives
tested : (b : Bool) (t : Shape) → b ≡ true → (if b then Some t else None) ≡ Some t
tested b t h = ap (λ x. if x then Some t else None) h

summand_row : (s : Shape) → is_summand s ≡ true → HasRow (sum_row s)
summand_row Shape.int h = (Shape.int, Shape.int, refl)
summand_row Shape.time h = (Shape.int, Shape.time, refl)
summand_row Shape.str h = (Shape.str, Shape.str, refl)
summand_row Shape.bytes h = (Shape.bytes, Shape.bytes, refl)
summand_row (Shape.array t) h = (Shape.array t, Shape.array t, tested (alike t t) (Shape.array t) (alike_itself t))
summand_row _ h = not_so h

row_summand : (s t u : Shape) → sum_row s t ≡ Some u → is_summand s ≡ true
row_summand Shape.int t u h = refl
row_summand Shape.time t u h = refl
row_summand Shape.str t u h = refl
row_summand Shape.bytes t u h = refl
row_summand (Shape.array s) t u h = refl
row_summand _ t u h = absurd (no_row h)

minuend_row : (s : Shape) → is_minuend s ≡ true → HasRow (difference_row s)
minuend_row Shape.int h = (Shape.int, Shape.int, refl)
minuend_row Shape.time h = (Shape.int, Shape.time, refl)
minuend_row _ h = not_so h

row_minuend : (s t u : Shape) → difference_row s t ≡ Some u → is_minuend s ≡ true
row_minuend Shape.int t u h = refl
row_minuend Shape.time t u h = refl
row_minuend _ t u h = absurd (no_row h)

-- the row of an order
abbrev order_row : Shape → Shape → Option Shape
order_row s t = if ordered s t then Some Shape.truth else None

ordered_row : (s : Shape) → is_ordered s ≡ true → HasRow (order_row s)
ordered_row Shape.int h = (Shape.int, Shape.truth, refl)
ordered_row Shape.time h = (Shape.time, Shape.truth, refl)
ordered_row Shape.str h = (Shape.str, Shape.truth, refl)
ordered_row Shape.bytes h = (Shape.bytes, Shape.truth, refl)
ordered_row _ h = not_so h

row_ordered : (s t u : Shape) → order_row s t ≡ Some u → is_ordered s ≡ true
row_ordered Shape.int t u h = refl
row_ordered Shape.time t u h = refl
row_ordered Shape.str t u h = refl
row_ordered Shape.bytes t u h = refl
row_ordered _ t u h = absurd (no_row h)

-- the row of two whole numbers
abbrev number_row : Shape → Shape → Option Shape
number_row s t = if both_int s t then Some Shape.int else None

whole_row : (s : Shape) → alike s Shape.int ≡ true → HasRow (number_row s)
whole_row s h = subst (λ x. HasRow (number_row x)) (sym (alike_equal s Shape.int h)) (Shape.int, Shape.int, refl)

row_whole : (s t u : Shape) → number_row s t ≡ Some u → alike s Shape.int ≡ true
row_whole Shape.int t u h = alike_itself Shape.int
row_whole _ t u h = absurd (no_row h)

same_row : (s : Shape) → HasRow (λ t. if alike s t then Some Shape.truth else None)
same_row s = (s, Shape.truth, tested (alike s s) Shape.truth (alike_itself s))

left_row : (o : BinOp) (s : Shape) → takes_left o s ≡ true → HasRow (binary_row o s)
left_row binary.Add s h = summand_row s h
left_row binary.Sub s h = minuend_row s h
left_row binary.Equal s h = same_row s
left_row binary.NotEqual s h = same_row s
left_row binary.Less s h = ordered_row s h
left_row binary.LessEqual s h = ordered_row s h
left_row binary.Greater s h = ordered_row s h
left_row binary.GreaterEqual s h = ordered_row s h
left_row _ s h = whole_row s h

row_left : (o : BinOp) (s t u : Shape) → binary_row o s t ≡ Some u → takes_left o s ≡ true
row_left binary.Add s t u h = row_summand s t u h
row_left binary.Sub s t u h = row_minuend s t u h
row_left binary.Equal s t u h = refl
row_left binary.NotEqual s t u h = refl
row_left binary.Less s t u h = row_ordered s t u h
row_left binary.LessEqual s t u h = row_ordered s t u h
row_left binary.Greater s t u h = row_ordered s t u h
row_left binary.GreaterEqual s t u h = row_ordered s t u h
row_left _ s t u h = row_whole s t u h

-- a left type is taken exactly where it has a row
pub left_has_row : (o : BinOp) (s : Shape) → (takes_left o s ≡ true) ↔ HasRow (binary_row o s)
left_has_row o s = (left_row o s, λ h. row_left o s h.0 h.1 h.2)

indexed_row : (s : Shape) → has_index s ≡ true → HasRow (index_row s)
indexed_row Shape.str h = (Shape.int, Shape.int, refl)
indexed_row Shape.bytes h = (Shape.int, Shape.int, refl)
indexed_row (Shape.array t) h = (Shape.int, t, refl)
indexed_row (Shape.mapping k v) h = (k, v, tested (alike k k) v (alike_itself k))
indexed_row _ h = not_so h

row_indexed : (s t u : Shape) → index_row s t ≡ Some u → has_index s ≡ true
row_indexed Shape.str t u h = refl
row_indexed Shape.bytes t u h = refl
row_indexed (Shape.array s) t u h = refl
row_indexed (Shape.mapping k v) t u h = refl
row_indexed _ t u h = absurd (no_row h)

-- so is what is indexed
pub index_has_row : (s : Shape) → (has_index s ≡ true) ↔ HasRow (index_row s)
index_has_row s = (indexed_row s, λ h. row_indexed s h.0 h.1 h.2)

map_row : (s : Shape) → is_map s ≡ true → HasRow (haskey_row s)
map_row (Shape.mapping k v) h = (k, Shape.truth, tested (alike k k) Shape.truth (alike_itself k))
map_row _ h = not_so h

row_map : (s t u : Shape) → haskey_row s t ≡ Some u → is_map s ≡ true
row_map (Shape.mapping k v) t u h = refl
row_map _ t u h = absurd (no_row h)

-- and the first argument of a predeclared function of two
pub map_has_row : (s : Shape) → (is_map s ≡ true) ↔ HasRow (haskey_row s)
map_has_row s = (map_row s, λ h. row_map s h.0 h.1 h.2)

text_row : (s : Shape) → is_searched_for s ≡ true → HasRow (strfind_row s)
text_row Shape.str h = (Shape.str, Shape.int, refl)
text_row Shape.bytes h = (Shape.bytes, Shape.int, refl)
text_row _ h = not_so h

row_text : (s t u : Shape) → strfind_row s t ≡ Some u → is_searched_for s ≡ true
row_text Shape.str t u h = refl
row_text Shape.bytes t u h = refl
row_text _ t u h = absurd (no_row h)

pub text_has_row : (s : Shape) → (is_searched_for s ≡ true) ↔ HasRow (strfind_row s)
text_has_row s = (text_row s, λ h. row_text s h.0 h.1 h.2)
