-- Types that are made of well-formed types are well formed.
use Rattle.std.proofs.Common.{◌≡◌, ℕ, zero, suc, Bool, true, false, List, [], ◌∷◌, Option, Some, None, refl, sym, subst, true≢false}
use Rattle.std.specs.Prelude.{◌&&◌, if◌then◌else◌, is_some, slice_get, IfSome}
use Rattle.std.specs.Cmp.{first_so, second_so}
use Rattle.sz_types.specs.Data.{Shape, FieldShapes, no_fields, with_field, field}
use Rattle.sz_types.specs.Same.{alike}
use Rattle.sz_types.specs.Rows.{unary_row, binary_row, sum_row, difference_row, index_row, slice_row, builtin_row, len_row, keys_row, haskey_row, strfind_row}
use Rattle.sz_types.specs.declared.operator.UnOp.{UnOp}
use Rattle.sz_types.specs.declared.operator.UnOp.TheVariants as unary
use Rattle.sz_types.specs.declared.operator.BinOp.{BinOp}
use Rattle.sz_types.specs.declared.operator.BinOp.TheVariants as binary
use Rattle.sz_types.specs.declared.operator.Builtin.{Builtin}
use Rattle.sz_types.specs.declared.operator.Builtin.TheVariants.{Len, Keys, HasKey, StrFind}
use Rattle.sz_core.specs.WellFormed.{is_well_formed, are_well_formed, are_parts, are_message_fields, are_distinct_texts, are_distinct_numbers, names_of}
use Rattle.sz_core.specs.WellFormed.{numbers_of}
use Rattle.sz_core.specs.Typing.{HasFields, field_types}

-- the type is well formed, and each type is
abbrev pub IsFormed : Shape → Type 0
IsFormed t = is_well_formed t ≡ true

abbrev pub AreFormed : List Shape → Type 0
AreFormed ts = are_well_formed ts ≡ true

-- what is known of what is there
pub some_has : {A : Type 0} (P : A → Type 0) {o : Option A} {x : A} → IfSome o P → o ≡ Some x → P x
some_has P h e = subst (λ o. IfSome o P) e h

-- a type that is there by a test
if_formed : (b : Bool) (t : Shape) → IsFormed t → IfSome (if b then Some t else None) IsFormed
if_formed true t h = h
if_formed false t h = tt

-- the types that are in a well-formed one
pub element_formed : (t : Shape) → IsFormed (Shape.array t) → IsFormed t
unfolding is_well_formed
element_formed t h = h

pub array_formed : (t : Shape) → IsFormed t → IsFormed (Shape.array t)
unfolding is_well_formed
array_formed t h = h

pub key_formed : (k v : Shape) → IsFormed (Shape.mapping k v) → IsFormed k
unfolding is_well_formed
key_formed k v h = first_so _ (is_well_formed v) h

pub value_formed : (k v : Shape) → IsFormed (Shape.mapping k v) → IsFormed v
unfolding is_well_formed
value_formed k v h = second_so (is_well_formed k) _ h

part_types : (fs : FieldShapes) → are_parts fs ≡ true → AreFormed (field_types fs)
unfolding are_parts
part_types no_fields h = refl
part_types (with_field (field name t number code) fs) h =
    λ i. second_so _ (is_well_formed t) (first_so _ (are_parts fs) h) i
    && part_types fs (second_so _ (are_parts fs) h) i

message_types : (fs : FieldShapes) → are_message_fields fs ≡ true → AreFormed (field_types fs)
unfolding are_message_fields
message_types no_fields h = refl
message_types (with_field (field name t number code) fs) h =
    λ i. second_so _ (is_well_formed t) (first_so _ (are_message_fields fs) h) i
    && message_types fs (second_so _ (are_message_fields fs) h) i

-- the types of fields of a well-formed type
pub fields_formed : (t : Shape) (fs : FieldShapes) → HasFields t fs → IsFormed t → AreFormed (field_types fs)
unfolding is_well_formed
fields_formed (Shape.tuple gs) fs same h =
    subst (λ x. AreFormed (field_types x)) (sym same)
    (part_types gs (second_so (are_distinct_texts (names_of gs)) (are_parts gs) h))
fields_formed (Shape.proto gs) fs same h =
    subst (λ x. AreFormed (field_types x)) (sym same)
    (message_types gs
    (second_so (are_distinct_texts (names_of gs) && are_distinct_numbers (numbers_of gs)) (are_message_fields gs) h))
fields_formed _ fs same h = absurd same

-- a type of a list of well-formed ones
pub formed_at : (ts : List Shape) (k : ℕ) → AreFormed ts → IfSome (slice_get ts k) IsFormed
formed_at [] k h = tt
formed_at (t ∷ ts) zero h = first_so _ (are_well_formed ts) h
formed_at (t ∷ ts) (suc k) h = formed_at ts k (second_so (is_well_formed t) _ h)

-- the rows
pub sum_formed : (s t : Shape) → IsFormed s → IfSome (sum_row s t) IsFormed
unfolding is_well_formed
sum_formed Shape.int Shape.int h = refl
sum_formed Shape.time Shape.int h = refl
sum_formed Shape.str Shape.str h = refl
sum_formed Shape.bytes Shape.bytes h = refl
sum_formed (Shape.array s) (Shape.array t) h = if_formed (alike s t) (Shape.array s) h
sum_formed _ _ h = tt

pub difference_formed : (s t : Shape) → IfSome (difference_row s t) IsFormed
unfolding is_well_formed
difference_formed Shape.int Shape.int = refl
difference_formed Shape.time Shape.int = refl
difference_formed Shape.time Shape.time = refl
difference_formed _ _ = tt

-- basic types
pub truth_formed : IsFormed Shape.truth
unfolding is_well_formed
truth_formed = refl

pub int_formed : IsFormed Shape.int
unfolding is_well_formed
int_formed = refl

pub bytes_formed : IsFormed Shape.bytes
unfolding is_well_formed
bytes_formed = refl

pub unary_formed : (o : UnOp) (t : Shape) → IfSome (unary_row o t) IsFormed
unary_formed unary.Not Shape.truth = truth_formed
unary_formed unary.Negate Shape.int = int_formed
unary_formed unary.Plus Shape.int = int_formed
unary_formed unary.Flip Shape.int = int_formed
unary_formed _ _ = tt

pub binary_formed : (o : BinOp) (s t : Shape) → IsFormed s → IfSome (binary_row o s t) IsFormed
binary_formed binary.Add s t h = sum_formed s t h
binary_formed binary.Sub s t h = difference_formed s t
binary_formed binary.Equal s t h = if_formed _ _ truth_formed
binary_formed binary.NotEqual s t h = if_formed _ _ truth_formed
binary_formed binary.Less s t h = if_formed _ _ truth_formed
binary_formed binary.LessEqual s t h = if_formed _ _ truth_formed
binary_formed binary.Greater s t h = if_formed _ _ truth_formed
binary_formed binary.GreaterEqual s t h = if_formed _ _ truth_formed
binary_formed _ s t h = if_formed _ _ int_formed

pub index_formed : (s t : Shape) → IsFormed s → IfSome (index_row s t) IsFormed
index_formed (Shape.array s) Shape.int h = element_formed s h
index_formed Shape.str Shape.int h = int_formed
index_formed Shape.bytes Shape.int h = int_formed
index_formed (Shape.mapping k v) t h = if_formed (alike k t) v (value_formed k v h)
index_formed _ _ h = tt

-- a slice has the type of what it is cut from
pub slice_same : (s : Shape) → is_some (slice_row s) ≡ true → slice_row s ≡ Some s
slice_same Shape.str h = refl
slice_same Shape.bytes h = refl
slice_same (Shape.array t) h = refl
slice_same _ h = absurd (true≢false (sym h))

len_formed : (s : Shape) → IfSome (len_row s) IsFormed
len_formed Shape.str = int_formed
len_formed Shape.bytes = int_formed
len_formed (Shape.array t) = int_formed
len_formed (Shape.mapping k v) = int_formed
len_formed _ = tt

keys_formed : (s : Shape) → IsFormed s → IfSome (keys_row s) IsFormed
keys_formed (Shape.mapping k v) h = array_formed k (key_formed k v h)
keys_formed _ h = tt

haskey_formed : (s t : Shape) → IfSome (haskey_row s t) IsFormed
haskey_formed (Shape.mapping k v) t = if_formed _ _ truth_formed
haskey_formed _ t = tt

strfind_formed : (s t : Shape) → IfSome (strfind_row s t) IsFormed
strfind_formed Shape.str Shape.str = int_formed
strfind_formed Shape.bytes Shape.bytes = int_formed
strfind_formed _ _ = tt

-- what a predeclared function gives
pub builtin_formed : (b : Builtin) (ts : List Shape) → AreFormed ts → IfSome (builtin_row b ts) IsFormed
builtin_formed Len (s ∷ []) h = len_formed s
builtin_formed Keys (s ∷ []) h = keys_formed s (first_so _ true h)
builtin_formed HasKey (s ∷ t ∷ []) h = haskey_formed s t
builtin_formed StrFind (s ∷ t ∷ []) h = strfind_formed s t
builtin_formed _ _ h = tt

-- a slice's type
pub slice_formed : (s : Shape) → IsFormed s → IfSome (slice_row s) IsFormed
slice_formed Shape.str h = h
slice_formed Shape.bytes h = h
slice_formed (Shape.array t) h = h
slice_formed _ h = tt
