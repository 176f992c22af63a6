-- Elements, parts, and what predeclared functions and conversions give have the types of their rows.
use Rattle.std.proofs.Common.{◌≡◌, ◌∙◌, ℕ, zero, suc, ℤ, pos, negsuc, Bool, true, false, ◌&&◌, cond, Option, Some, None, IfSome, if◌then◌else◌, List, [], ◌∷◌, length, ◌+◌, take, drop, refl, ap, subst}
use Rattle.std.specs.Prelude.{slice_get, nat_le, is_some}
use Rattle.std.specs.Option.{option_map, option_and_then}
use Rattle.std.specs.Map.{keys_of}
use Rattle.std.specs.BTreeMap.{is_at}
use Rattle.std.specs.Str.{chars, encode_utf8_all, is_utf8}
use Rattle.sz_types.specs.Data.{Shape, FieldShapes}
use Rattle.sz_types.specs.Same.{alike}
use Rattle.sz_types.specs.Conversions.{converts_to}
use Rattle.sz_types.proofs.ForCallers.{alike_equal}
use Rattle.sz_types.specs.declared.operator.Builtin.TheVariants.{Len, Keys, HasKey, StrFind}
use Rattle.sz_value.specs.Data.{Datum, truth, int, time, str, bytes, array, mapping, Data, no_data, datum, Entries, no_entries, entry, data_of, parts_of, pairs_of}
use Rattle.sz_value.specs.Order.{compare}
use Rattle.sz_value.specs.Maps.{value_at}
use Rattle.sz_builtin.specs.Places.{at_place, code, span, cut, part}
use Rattle.sz_builtin.specs.Predeclared.{len, keys, haskey, strfind, first_place, place}
use Rattle.sz_builtin.specs.Conversions.{number_in, as_truth, as_int, as_time, as_str, as_bytes, convert}
use Rattle.sz_types.specs.Rows.{index_row, slice_row, len_row, keys_row, haskey_row, strfind_row, convert_row}
use Rattle.sz_types.specs.Types.{has_type, all_have, pairs_have}
use Rattle.sz_types.proofs.TypingForCallers.{of_int, of_str, of_bytes, of_array, of_mapping}
use Rattle.sz_builtin.specs.Types.{KeepsIndex, KeepsSlice, KeepsBuiltin, KeepsConvert}
use Rattle.sz_builtin.proofs.TypeLemmas.{some_same, if_some, both, both_in, truth_keeps}

-- what a slot holds has the type
abbrev Holds : Option Datum → Shape → Type 0
Holds slot s = IfSome slot (λ d. has_type d s ≡ true)

-- ---- elements

code_has : (found : Option ℕ) → Holds (option_map code found) Shape.int
code_has None = tt
code_has (Some c) = refl

nth_has : (ds : Data) (e : Shape) (n : ℕ) → all_have ds e ≡ true → Holds (slice_get (parts_of ds) n) e
nth_has no_data e zero h = tt
nth_has no_data e (suc n) h = tt
nth_has (datum d ds) e zero h = (both (has_type d e) (all_have ds e) h).0
nth_has (datum d ds) e (suc n) h = nth_has ds e n (both (has_type d e) (all_have ds e) h).1

element_has : (ds : Data) (e : Shape) (n : ℤ) → all_have ds e ≡ true → Holds (at_place (parts_of ds) n) e
element_has ds e (pos n) h = nth_has ds e n h
element_has ds e (negsuc n) h = tt

value_has : (key : Datum) (es : Entries) (k v : Shape) → pairs_have es k v ≡ true → Holds (value_at key (pairs_of es)) v
value_has key no_entries k v h = tt
value_has key (entry l w es) k v h =
    let p = both (has_type l k && has_type w v) (pairs_have es k v) h in
    at (is_at (compare key) l) (both (has_type l k) (has_type w v) p.0).1 (value_has key es k v p.1)
  where
    at : (here : Bool) → has_type w v ≡ true → Holds (value_at key (pairs_of es)) v
        → Holds (cond here (Some w) (value_at key (pairs_of es))) v
    at true h k = h
    at false h k = k

pub index_keeps : KeepsIndex
index_keeps (array ds) (int n) s t u h k r =
    let p = of_array ds s h in
    subst (Holds (at_place (parts_of ds) n)) (some_same _ _ ((λ i. index_row (p.1 i) (of_int n t k i)) ∙ r))
    (element_has ds p.0 n p.2)
index_keeps (str cs) (int n) s t u h k r =
    subst (Holds (option_map code (at_place (chars cs) n)))
    (some_same _ _ ((λ i. index_row (of_str cs s h i) (of_int n t k i)) ∙ r)) (code_has (at_place (chars cs) n))
index_keeps (bytes cs) (int n) s t u h k r =
    subst (Holds (option_map code (at_place cs n)))
    (some_same _ _ ((λ i. index_row (of_bytes cs s h i) (of_int n t k i)) ∙ r)) (code_has (at_place cs n))
index_keeps (mapping es) key s t u h k r =
    let p = of_mapping es s h in
    subst (Holds (value_at key (pairs_of es))) (if_some (alike p.0 t) p.1 u (ap (λ v. index_row v t) p.2 ∙ r))
    (value_has key es p.0 p.1 p.3)
index_keeps a b s t u h k r = tt

-- ---- parts

list_has : (ds : Data) (e : Shape) → all_have ds e ≡ true → all_have (data_of (parts_of ds)) e ≡ true
list_has no_data e h = refl
list_has (datum d ds) e h = let p = both (has_type d e) (all_have ds e) h in both_in p.0 (list_has ds e p.1)

front_has : (n : ℕ) (ds : List Datum) (e : Shape) → all_have (data_of ds) e ≡ true
    → all_have (data_of (take n ds)) e ≡ true
front_has zero [] e h = refl
front_has zero (d ∷ ds) e h = refl
front_has (suc n) [] e h = refl
front_has (suc n) (d ∷ ds) e h = let p = both (has_type d e) (all_have (data_of ds) e) h in
    both_in p.0 (front_has n ds e p.1)

rest_has : (n : ℕ) (ds : List Datum) (e : Shape) → all_have (data_of ds) e ≡ true
    → all_have (data_of (drop n ds)) e ≡ true
rest_has zero [] e h = refl
rest_has zero (d ∷ ds) e h = h
rest_has (suc n) [] e h = refl
rest_has (suc n) (d ∷ ds) e h = rest_has n ds e (both (has_type d e) (all_have (data_of ds) e) h).1

text_has : (part : Option (List ℕ)) → Holds (option_map (λ cs. str (encode_utf8_all cs)) part) Shape.str
text_has None = tt
text_has (Some cs) = refl

bytes_has : (part : Option (List ℕ)) → Holds (option_map bytes part) Shape.bytes
bytes_has None = tt
bytes_has (Some cs) = refl

array_has : (ds : List Datum) (e : Shape) (p : ℕ × ℕ) → all_have (data_of ds) e ≡ true
    → Holds (option_map (λ es. array (data_of es)) (cut ds p)) (Shape.array e)
array_has ds e p h = at (nat_le (p.0 + p.1) (length ds)) (front_has p.1 (drop p.0 ds) e (rest_has p.0 ds e h))
  where
    at : (fits : Bool) → all_have (data_of (take p.1 (drop p.0 ds))) e ≡ true
        → Holds (option_map (λ es. array (data_of es)) (if fits then Some (take p.1 (drop p.0 ds)) else None))
        (Shape.array e)
    at true k = k
    at false k = tt

part_has : (d : Datum) (s u : Shape) (p : ℕ × ℕ) → has_type d s ≡ true → slice_row s ≡ Some u → Holds (part d p) u
part_has (str cs) s u p h r =
    subst (Holds (part (str cs) p)) (some_same _ _ (ap slice_row (of_str cs s h) ∙ r)) (text_has (cut (chars cs) p))
part_has (bytes cs) s u p h r =
    subst (Holds (part (bytes cs) p)) (some_same _ _ (ap slice_row (of_bytes cs s h) ∙ r)) (bytes_has (cut cs p))
part_has (array ds) s u p h r =
    let q = of_array ds s h in
    subst (Holds (part (array ds) p)) (some_same _ _ (ap slice_row q.1 ∙ r))
    (array_has (parts_of ds) q.0 p (list_has ds q.0 q.2))
part_has d s u p h r = tt

pub slice_keeps : KeepsSlice
slice_keeps a from to s u h r = at (span from to)
  where
    at : (places : Option (ℕ × ℕ)) → Holds (option_and_then (part a) places) u
    at None = tt
    at (Some p) = part_has a s u p h r

-- ---- predeclared functions

len_keeps : (d : Datum) (s u : Shape) → has_type d s ≡ true → len_row s ≡ Some u → Holds (len d) u
len_keeps (str cs) s u h r = subst (Holds (len (str cs))) (some_same _ _ (ap len_row (of_str cs s h) ∙ r)) refl
len_keeps (bytes cs) s u h r = subst (Holds (len (bytes cs))) (some_same _ _ (ap len_row (of_bytes cs s h) ∙ r)) refl
len_keeps (array ds) s u h r = subst (Holds (len (array ds))) (some_same _ _ (ap len_row (of_array ds s h).1 ∙ r)) refl
len_keeps (mapping es) s u h r =
    subst (Holds (len (mapping es))) (some_same _ _ (ap len_row (of_mapping es s h).2 ∙ r)) refl
len_keeps d s u h r = tt

keys_have : (es : Entries) (k v : Shape) → pairs_have es k v ≡ true
    → all_have (data_of (keys_of (pairs_of es))) k ≡ true
keys_have no_entries k v h = refl
keys_have (entry l w es) k v h =
    let p = both (has_type l k && has_type w v) (pairs_have es k v) h in
    both_in (both (has_type l k) (has_type w v) p.0).0 (keys_have es k v p.1)

keys_keeps : (d : Datum) (s u : Shape) → has_type d s ≡ true → keys_row s ≡ Some u → Holds (keys d) u
keys_keeps (mapping es) s u h r =
    let p = of_mapping es s h in
    subst (Holds (keys (mapping es))) (some_same _ _ (ap keys_row p.2 ∙ r)) (keys_have es p.0 p.1 p.3)
keys_keeps d s u h r = tt

haskey_keeps : (d key : Datum) (s t u : Shape) → has_type d s ≡ true → haskey_row s t ≡ Some u → Holds (haskey d key) u
haskey_keeps (mapping es) key s t u h r =
    let p = of_mapping es s h in
    truth_keeps (is_some (value_at key (pairs_of es))) u
    (if_some (alike p.0 t) Shape.truth u (ap (λ v. haskey_row v t) p.2 ∙ r))
haskey_keeps d key s t u h r = tt

place_has : (found : Option ℕ) → has_type (place found) Shape.int ≡ true
place_has None = refl
place_has (Some n) = refl

strfind_keeps : (a b : Datum) (s t u : Shape) → has_type a s ≡ true → has_type b t ≡ true → strfind_row s t ≡ Some u
    → Holds (strfind a b) u
strfind_keeps (str cs) (str ds) s t u h k r =
    subst (Holds (strfind (str cs) (str ds)))
    (some_same _ _ ((λ i. strfind_row (of_str cs s h i) (of_str ds t k i)) ∙ r))
    (place_has (first_place (chars cs) (chars ds)))
strfind_keeps (bytes cs) (bytes ds) s t u h k r =
    subst (Holds (strfind (bytes cs) (bytes ds)))
    (some_same _ _ ((λ i. strfind_row (of_bytes cs s h i) (of_bytes ds t k i)) ∙ r)) (place_has (first_place cs ds))
strfind_keeps a b s t u h k r = tt

pub builtin_keeps : KeepsBuiltin
builtin_keeps Len (d ∷ []) (s ∷ []) u h r = len_keeps d s u (both (has_type d s) true h).0 r
builtin_keeps Len (d ∷ []) ss u h r = absurd cc
builtin_keeps Keys (d ∷ []) (s ∷ []) u h r = keys_keeps d s u (both (has_type d s) true h).0 r
builtin_keeps Keys (d ∷ []) ss u h r = absurd cc
builtin_keeps HasKey (d ∷ e ∷ []) (s ∷ t ∷ []) u h r =
    haskey_keeps d e s t u (both (has_type d s) (has_type e t && true) h).0 r
builtin_keeps HasKey (d ∷ e ∷ []) ss u h r = absurd cc
builtin_keeps StrFind (d ∷ e ∷ []) (s ∷ t ∷ []) u h r =
    let p = both (has_type d s) (has_type e t && true) h in
    strfind_keeps d e s t u p.0 (both (has_type e t) true p.1).0 r
builtin_keeps StrFind (d ∷ e ∷ []) ss u h r = absurd cc
builtin_keeps which ds ss u h r = tt

-- ---- conversions

truth_has : (a : Datum) → Holds (as_truth a) Shape.truth
truth_has (truth b) = refl
truth_has a = tt

spelled_has : (found : Option ℤ) → Holds (option_map int found) Shape.int
spelled_has None = tt
spelled_has (Some n) = refl

int_has : (a : Datum) → Holds (as_int a) Shape.int
int_has (truth b) = refl
int_has (int n) = refl
int_has (time n) = refl
int_has (str s) = spelled_has (number_in s)
int_has (bytes s) = spelled_has (number_in s)
int_has a = tt

time_has : (a : Datum) → Holds (as_time a) Shape.time
time_has (int n) = refl
time_has (time n) = refl
time_has a = tt

read_has : (s : List ℕ) (found : Bool) → Holds (if found then Some (str s) else None) Shape.str
read_has s true = refl
read_has s false = tt

str_has : (a : Datum) → Holds (as_str a) Shape.str
str_has (truth b) = refl
str_has (int n) = refl
str_has (str s) = refl
str_has (bytes s) = read_has s (is_utf8 s)
str_has a = tt

octets_has : (a : Datum) → Holds (as_bytes a) Shape.bytes
octets_has (str s) = refl
octets_has (bytes s) = refl
octets_has a = tt

if_true : (b : Bool) (t u : Shape) → (if b then Some t else None) ≡ Some u → b ≡ true
if_true true t u r = refl
if_true false t u r = absurd cc

-- the row gives the type that is converted to
gives : (s t u : Shape) → convert_row s t ≡ Some u → t ≡ u
gives Shape.bytes (Shape.proto fields) u r = absurd cc
gives s t u r = if_some (converts_to s t) t u r

-- only a type with parts itself converts to it
to_array : (s e u : Shape) → convert_row s (Shape.array e) ≡ Some u → alike s (Shape.array e) ≡ true
to_array (Shape.array f) e u r = if_true (alike f e) (Shape.array e) u r
to_array s e u r = absurd cc

to_mapping : (s k v u : Shape) → convert_row s (Shape.mapping k v) ≡ Some u → alike s (Shape.mapping k v) ≡ true
to_mapping (Shape.mapping l w) k v u r = if_true (alike (Shape.mapping l w) (Shape.mapping k v)) (Shape.mapping k v) u r
to_mapping s k v u r = absurd cc

to_tuple : (s : Shape) (fields : FieldShapes) (u : Shape) → convert_row s (Shape.tuple fields) ≡ Some u
    → alike s (Shape.tuple fields) ≡ true
to_tuple (Shape.tuple others) fields u r =
    if_true (alike (Shape.tuple others) (Shape.tuple fields)) (Shape.tuple fields) u r
to_tuple s fields u r = absurd cc

to_proto : (s : Shape) (fields : FieldShapes) (u : Shape) → convert_row s (Shape.proto fields) ≡ Some u
    → alike s (Shape.proto fields) ≡ true
to_proto (Shape.proto others) fields u r =
    if_true (alike (Shape.proto others) (Shape.proto fields)) (Shape.proto fields) u r
to_proto s fields u r = absurd cc

itself : (a : Datum) (s t : Shape) → has_type a s ≡ true → alike s t ≡ true → has_type a t ≡ true
itself a s t h same = subst (λ v. has_type a v ≡ true) (alike_equal s t same) h

converted_has : (a : Datum) (s t u : Shape) → has_type a s ≡ true → convert_row s t ≡ Some u → Holds (convert a t) t
converted_has a s Shape.truth u h r = truth_has a
converted_has a s Shape.int u h r = int_has a
converted_has a s Shape.time u h r = time_has a
converted_has a s Shape.str u h r = str_has a
converted_has a s Shape.bytes u h r = octets_has a
converted_has a s (Shape.array e) u h r = itself a s (Shape.array e) h (to_array s e u r)
converted_has a s (Shape.mapping k v) u h r = itself a s (Shape.mapping k v) h (to_mapping s k v u r)
converted_has a s (Shape.tuple fields) u h r = itself a s (Shape.tuple fields) h (to_tuple s fields u r)
converted_has a s (Shape.proto fields) u h r = itself a s (Shape.proto fields) h (to_proto s fields u r)

pub convert_keeps : KeepsConvert
convert_keeps a s t u h r = subst (Holds (convert a t)) (gives s t u r) (converted_has a s t u h r)
