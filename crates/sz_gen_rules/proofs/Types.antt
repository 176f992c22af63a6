-- What operators, functions and composites make of slots of their types has the type of the whole.
use Rattle.std.proofs.Common.{◌≡◌, ℕ, zero, suc, ◌*◌, List, [], ◌∷◌, length, Ordering, Less, Equal, Greater, map, true, false, ◌&&◌, Option, Some, None, IfSome, IsSome, refl, sym, subst, arith}
use Rattle.std.specs.Prelude.{slice_get}
use Rattle.std.specs.Option.{option_map, option_and_then}
use Rattle.std.specs.Ordering.{match_ordering}
use Rattle.sz_types.specs.Data.{Shape, FieldShapes, no_fields, with_field, field}
use Rattle.sz_types.specs.Rows.{unary_row, binary_row, index_row, slice_row, builtin_row, arity}
use Rattle.sz_types.specs.declared.operator.UnOp.{UnOp}
use Rattle.sz_types.specs.declared.operator.BinOp.{BinOp}
use Rattle.sz_types.specs.declared.operator.Builtin.{Builtin}
use Rattle.sz_types.specs.declared.operator.Builtin.TheVariants.{Len, Keys, HasKey, StrFind}
use Rattle.sz_value.specs.Data.{Datum, int, array, tuple, mapping, Data, no_data, datum, data_of, entries_of, parts_of}
use Rattle.sz_value.specs.Order.{compare}
use Rattle.sz_value.specs.Maps.{with_pair}
use Rattle.sz_types.specs.Types.{has_type, all_have, parts_fit, pairs_have, have_types}
use Rattle.sz_builtin.proofs.TypeLemmas.{both, both_in, unary_keeps, binary_keeps}
use Rattle.sz_builtin.proofs.PartTypeLemmas.{index_keeps, slice_keeps, builtin_keeps}
use Rattle.sz_builtin.specs.Predeclared.{builtin}
use Rattle.sz_core.specs.Typing.{HasFields, field_types, AreAll}
use Rattle.sz_world_rules.specs.Slots.{Slot, all_defined}
use Rattle.sz_world_rules.specs.Typed.{Fits, AllFit}
use Rattle.sz_instr.specs.Covering.{HasPart}
use Rattle.sz_world_rules.specs.Operations.{unary_of, binary_of, applied, element_of, slice_of, part_at, part_of, array_of, tuple_of, with_pairs, map_of}

pub unary_fits : (op : UnOp) (t u : Shape) (x : Slot) → unary_row op t ≡ Some u → Fits x t → Fits (unary_of op x) u
unary_fits op t u None r h = tt
unary_fits op t u (Some d) r h = unary_keeps op d t u h r

pub binary_fits : (op : BinOp) (s t u : Shape) (x y : Slot) → binary_row op s t ≡ Some u → Fits x s → Fits y t
    → Fits (binary_of op x y) u
binary_fits op s t u None y r h k = tt
binary_fits op s t u (Some a) None r h k = tt
binary_fits op s t u (Some a) (Some b) r h k = binary_keeps op a b s t u h k r

pub element_fits : (s t u : Shape) (x y : Slot) → index_row s t ≡ Some u → Fits x s → Fits y t → Fits (element_of x y) u
element_fits s t u None y r h k = tt
element_fits s t u (Some a) None r h k = tt
element_fits s t u (Some a) (Some b) r h k = index_keeps a b s t u h k r

pub slice_fits : (s u : Shape) (x y z : Slot) → slice_row s ≡ Some u → Fits x s → Fits (slice_of x y z) u
slice_fits s u (Some d) (Some (int i)) (Some (int j)) r h = slice_keeps d i j s u h r
slice_fits s u _ _ _ r h = tt

-- ---- parts

part_there : (ds : Data) (fs : FieldShapes) (n : ℕ) (t : Shape) → parts_fit ds fs ≡ true
    → slice_get (field_types fs) n ≡ Some t
    → (d : Datum) × (slice_get (parts_of ds) n ≡ Some d) × (has_type d t ≡ true)
part_there (datum d ds) (with_field (field name s number code) fs) zero t h r =
    let same : s ≡ t = cc in
    (d, refl, subst (λ u. has_type d u ≡ true) same (both (has_type d s) (parts_fit ds fs) h).0)
part_there (datum d ds) (with_field (field name s number code) fs) (suc n) t h r =
    part_there ds fs n t (both (has_type d s) (parts_fit ds fs) h).1 r
part_there ds no_fields n t h r = absurd cc
part_there no_data (with_field f fs) n t h r = absurd cc

-- the value has a part of this type at the place
abbrev HasPartOf : ℕ → Datum → Shape → Type 0
HasPartOf n d t = (v : Datum) × (part_at n d ≡ Some v) × (has_type v t ≡ true)

in_tuple : (d : Datum) (fs : FieldShapes) (n : ℕ) (t : Shape) → has_type d (Shape.tuple fs) ≡ true
    → slice_get (field_types fs) n ≡ Some t → HasPartOf n d t
in_tuple (tuple ds) fs n t h r = part_there ds fs n t h r
in_tuple d fs n t h r = absurd cc

in_message : (d : Datum) (fs : FieldShapes) (n : ℕ) (t : Shape) → has_type d (Shape.proto fs) ≡ true
    → slice_get (field_types fs) n ≡ Some t → HasPartOf n d t
in_message (tuple ds) fs n t h r = part_there ds fs n t h r
in_message d fs n t h r = absurd cc

part_found : (s t : Shape) (fs : FieldShapes) (n : ℕ) (d : Datum) → HasFields s fs
    → slice_get (field_types fs) n ≡ Some t → has_type d s ≡ true → HasPartOf n d t
part_found (Shape.tuple gs) t fs n d same r h =
    in_tuple d gs n t h (subst (λ g. slice_get (field_types g) n ≡ Some t) same r)
part_found (Shape.proto gs) t fs n d same r h =
    in_message d gs n t h (subst (λ g. slice_get (field_types g) n ≡ Some t) same r)
part_found s t fs n d same r h = absurd same

pub has_part : (s t : Shape) (fs : FieldShapes) (n : ℕ) (x : Slot) → HasFields s fs
    → slice_get (field_types fs) n ≡ Some t → Fits x s → HasPart n x
has_part s t fs n None same r h = tt
has_part s t fs n (Some d) same r h = let p = part_found s t fs n d same r h in subst (λ o. IsSome o) (sym p.1) refl

pub part_fits : (s t : Shape) (fs : FieldShapes) (n : ℕ) (x : Slot) → HasFields s fs
    → slice_get (field_types fs) n ≡ Some t → Fits x s → Fits (part_of n x) t
part_fits s t fs n None same r h = tt
part_fits s t fs n (Some d) same r h = let p = part_found s t fs n d same r h in subst (λ o. Fits o t) (sym p.1) p.2

-- ---- several slots

one_more : (d : Datum) (t : Shape) (ts : List Shape) (o : Option (List Datum)) → has_type d t ≡ true
    → IfSome o (λ ds. have_types ds ts ≡ true)
    → IfSome (option_map (λ ds. d ∷ ds) o) (λ ds. have_types ds (t ∷ ts) ≡ true)
one_more d t ts None h k = tt
one_more d t ts (Some ds) h k = both_in h k

-- values of slots that are all defined have the types of the slots
pub defined_have : (xs : List Slot) (ts : List Shape) → AllFit xs ts
    → IfSome (all_defined xs) (λ ds. have_types ds ts ≡ true)
defined_have [] [] h = refl
defined_have [] (t ∷ ts) h = absurd h
defined_have (x ∷ xs) [] h = absurd h
defined_have (None ∷ xs) (t ∷ ts) h = tt
defined_have (Some d ∷ xs) (t ∷ ts) h = one_more d t ts (all_defined xs) h.0 (defined_have xs ts h.1)

pub have_all_fit : (ds : List Datum) (ts : List Shape) → have_types ds ts ≡ true → AllFit (map (λ d. Some d) ds) ts
have_all_fit [] [] h = tt
have_all_fit [] (t ∷ ts) h = absurd cc
have_all_fit (d ∷ ds) [] h = absurd cc
have_all_fit (d ∷ ds) (t ∷ ts) h = let p = both (has_type d t) (have_types ds ts) h in (p.0, have_all_fit ds ts p.1)

applied_to : (b : Builtin) (ts : List Shape) (u : Shape) (o : Option (List Datum)) → builtin_row b ts ≡ Some u
    → IfSome o (λ ds. have_types ds ts ≡ true) → Fits (option_and_then (builtin b) o) u
applied_to b ts u None r h = tt
applied_to b ts u (Some ds) r h = builtin_keeps b ds ts u h r

pub applied_fits : (b : Builtin) (ts : List Shape) (u : Shape) (xs : List Slot) → builtin_row b ts ≡ Some u
    → AllFit xs ts → Fits (applied b xs) u
applied_fits b ts u xs r h = applied_to b ts u (all_defined xs) r (defined_have xs ts h)

-- there are as many arguments as the function takes
pub arity_is : (b : Builtin) (ts : List Shape) (u : Shape) → builtin_row b ts ≡ Some u → length ts ≡ arity b
arity_is Len (s ∷ []) u r = refl
arity_is Keys (s ∷ []) u r = refl
arity_is HasKey (s ∷ t ∷ []) u r = refl
arity_is StrFind (s ∷ t ∷ []) u r = refl
arity_is b ts u r = absurd cc

-- ---- composites

elements_have : (ds : List Datum) (ts : List Shape) (u : Shape) → have_types ds ts ≡ true → AreAll u ts
    → all_have (data_of ds) u ≡ true
elements_have [] [] u h all = refl
elements_have [] (t ∷ ts) u h all = absurd cc
elements_have (d ∷ ds) [] u h all = absurd cc
elements_have (d ∷ ds) (t ∷ ts) u h all =
    let p = both (has_type d t) (have_types ds ts) h in
    both_in (subst (λ s. has_type d s ≡ true) all.0 p.0) (elements_have ds ts u p.1 all.1)

array_has : (ts : List Shape) (u : Shape) (o : Option (List Datum)) → AreAll u ts
    → IfSome o (λ ds. have_types ds ts ≡ true) → Fits (option_map (λ ds. array (data_of ds)) o) (Shape.array u)
array_has ts u None all h = tt
array_has ts u (Some ds) all h = elements_have ds ts u h all

pub array_fits : (ts : List Shape) (u : Shape) (xs : List Slot) → AreAll u ts → AllFit xs ts
    → Fits (array_of xs) (Shape.array u)
array_fits ts u xs all h = array_has ts u (all_defined xs) all (defined_have xs ts h)

fields_fit : (ds : List Datum) (fs : FieldShapes) → have_types ds (field_types fs) ≡ true
    → parts_fit (data_of ds) fs ≡ true
fields_fit [] no_fields h = refl
fields_fit [] (with_field (field name t number code) fs) h = absurd cc
fields_fit (d ∷ ds) no_fields h = absurd cc
fields_fit (d ∷ ds) (with_field (field name t number code) fs) h =
    let p = both (has_type d t) (have_types ds (field_types fs)) h in both_in p.0 (fields_fit ds fs p.1)

tuple_with : (t : Shape) (fs : FieldShapes) (ds : List Datum) → HasFields t fs → have_types ds (field_types fs) ≡ true
    → has_type (tuple (data_of ds)) t ≡ true
tuple_with (Shape.tuple gs) fs ds same h = fields_fit ds gs (subst (λ g. have_types ds (field_types g) ≡ true) same h)
tuple_with (Shape.proto gs) fs ds same h = fields_fit ds gs (subst (λ g. have_types ds (field_types g) ≡ true) same h)
tuple_with t fs ds same h = absurd same

tuple_has : (t : Shape) (fs : FieldShapes) (o : Option (List Datum)) → HasFields t fs
    → IfSome o (λ ds. have_types ds (field_types fs) ≡ true) → Fits (option_map (λ ds. tuple (data_of ds)) o) t
tuple_has t fs None same h = tt
tuple_has t fs (Some ds) same h = tuple_with t fs ds same h

pub tuple_fits : (t : Shape) (fs : FieldShapes) (xs : List Slot) → HasFields t fs → AllFit xs (field_types fs)
    → Fits (tuple_of xs) t
tuple_fits t fs xs same h = tuple_has t fs (all_defined xs) same (defined_have xs (field_types fs) h)

-- ---- maps

-- the types of so many keys and values, by turns
abbrev pub pair_types : Shape → Shape → ℕ → List Shape
pair_types k v zero = []
pair_types k v (suc n) = k ∷ v ∷ pair_types k v n

pub length-pair_types : (k v : Shape) (n : ℕ) → length (pair_types k v n) ≡ 2 * n
length-pair_types k v zero = refl
length-pair_types k v (suc n) = omega (arith, length-pair_types k v n)

-- pairs of a map's types
abbrev pub PairsFit : List (Datum × Datum) → Shape → Shape → Type 0
PairsFit ps k v = pairs_have (entries_of ps) k v ≡ true

whichever : (o : Ordering) (a b c : List (Datum × Datum)) (k v : Shape) → PairsFit a k v → PairsFit b k v
    → PairsFit c k v → PairsFit (match_ordering o a b c) k v
whichever Less a b c k v ha hb hc = ha
whichever Equal a b c k v ha hb hc = hb
whichever Greater a b c k v ha hb hc = hc

pub put_fits : (ps : List (Datum × Datum)) (key value : Datum) (k v : Shape) → has_type key k ≡ true
    → has_type value v ≡ true → PairsFit ps k v → PairsFit (with_pair key value ps) k v
put_fits [] key value k v hk hv h = both_in (both_in hk hv) refl
put_fits (p ∷ ps) key value k v hk hv h =
    let q = both (has_type p.0 k && has_type p.1 v) (pairs_have (entries_of ps) k v) h in
    let here = both (has_type p.0 k) (has_type p.1 v) q.0 in
    whichever (compare key p.0) ((key, value) ∷ p ∷ ps) ((p.0, value) ∷ ps) (p ∷ with_pair key value ps) k v
    (both_in (both_in hk hv) h) (both_in (both_in here.0 hv) q.1) (both_in q.0 (put_fits ps key value k v hk hv q.1))

turns_fit : (n : ℕ) (ds : List Datum) (ps : List (Datum × Datum)) (k v : Shape)
    → have_types ds (pair_types k v n) ≡ true → PairsFit ps k v → PairsFit (with_pairs ps ds) k v
turns_fit zero [] ps k v h fit = fit
turns_fit zero (d ∷ ds) ps k v h fit = absurd cc
turns_fit (suc n) [] ps k v h fit = absurd cc
turns_fit (suc n) (d ∷ []) ps k v h fit = absurd (let p = both (has_type d k) false h in cc)
turns_fit (suc n) (d ∷ e ∷ ds) ps k v h fit =
    let p = both (has_type d k) (has_type e v && have_types ds (pair_types k v n)) h in
    let q = both (has_type e v) (have_types ds (pair_types k v n)) p.1 in
    turns_fit n ds (with_pair d e ps) k v q.1 (put_fits ps d e k v p.0 q.0 fit)

map_has : (n : ℕ) (k v : Shape) (o : Option (List Datum)) → IfSome o (λ ds. have_types ds (pair_types k v n) ≡ true)
    → Fits (option_map (λ ds. mapping (entries_of (with_pairs [] ds))) o) (Shape.mapping k v)
map_has n k v None h = tt
map_has n k v (Some ds) h = turns_fit n ds [] k v h refl

pub map_fits : (n : ℕ) (k v : Shape) (xs : List Slot) → AllFit xs (pair_types k v n)
    → Fits (map_of xs) (Shape.mapping k v)
map_fits n k v xs h = map_has n k v (all_defined xs) (defined_have xs (pair_types k v n) h)
