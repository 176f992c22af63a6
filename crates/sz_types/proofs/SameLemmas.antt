-- When types and lists of fields are alike.
use Rattle.std.proofs.Common.{◌≡◌, Box, Global, ◌≢◌, ℕ, Bool, true, false, List, [], ◌∷◌, length, drop, refl, ap, ◌∙◌, arith, ◌&&◌}
use Rattle.std.proofs.lemmas.List.{length-drop}
use Rattle.sz_types.specs.Data.{Shape, array, mapping, tuple, proto, FieldShapes}
use Rattle.sz_types.specs.FieldLists.{alike_lists}
use Rattle.sz_types.specs.Same.{alike, alike_field}
use Rattle.sz_types.specs.Seen.{seen, seen_field}
use Rattle.sz_types.specs.declared.ty.Ty.{Ty}
use Rattle.sz_types.specs.declared.ty.Ty.TheVariants.{Bool as BoolTy, Int, Time, Str, Bytes, Array, Array', Map, Map', Tuple, Proto}
use Rattle.sz_types.specs.declared.ty.Field.{Field}
use Rattle.sz_types.specs.declared.ty.Fields.{Fields}
use Rattle.sz_types.proofs.SeenLemmas.{box_of, seen_bool, seen_int, seen_time, seen_str, seen_bytes, seen_array, seen_map, seen_tuple, seen_proto}

-- lists of two lengths are not alike
pub lengths_differ : (vs ws : List Field) → length vs ≢ length ws → alike_lists vs ws ≡ false
lengths_differ [] [] differ = absurd (differ refl)
lengths_differ [] (w ∷ ws) differ = refl
lengths_differ (v ∷ vs) [] differ = refl
lengths_differ (v ∷ vs) (w ∷ ws) differ =
    ap (λ b. alike_field (seen_field v) (seen_field w) && b)
    (lengths_differ vs ws (λ same. differ (omega (arith, same))))
    ∙ never (alike_field (seen_field v) (seen_field w))
  where
    never : (b : Bool) → (b && false) ≡ false
    never true = refl
    never false = refl

-- after the last fields of two lists of one length nothing differs
pub lists_end : (vs ws : List Field) (i : ℕ) → i ≡ length vs → length vs ≡ length ws
    → alike_lists (drop i vs) (drop i ws) ≡ true
lists_end vs ws i at_end long =
    ends (drop i vs) (drop i ws) (length-drop i vs ∙ omega arith) (length-drop i ws ∙ omega arith)
  where
    ends : (xs ys : List Field) → length xs ≡ 0 → length ys ≡ 0 → alike_lists xs ys ≡ true
    ends [] [] none nor = refl
    ends [] (y ∷ ys) none nor = absurd (omega (arith, nor))
    ends (x ∷ xs) ys none nor = absurd (omega (arith, none))

-- no array is alike to a type that is none
pub only_array : (s : Shape) (t : Ty) → ((x : Box Ty Global) → t ≡ Array x → ⊥) → alike (array s) (seen t) ≡ false
only_array s BoolTy none = ap (alike (array s)) seen_bool
only_array s Int none = ap (alike (array s)) seen_int
only_array s Time none = ap (alike (array s)) seen_time
only_array s Str none = ap (alike (array s)) seen_str
only_array s Bytes none = ap (alike (array s)) seen_bytes
only_array s (Array' p e) none = absurd (none (box_of p e) refl)
only_array s (Map' p l q w) none = ap (alike (array s)) (seen_map (box_of p l) (box_of q w))
only_array s (Tuple x) none = ap (alike (array s)) (seen_tuple x)
only_array s (Proto x) none = ap (alike (array s)) (seen_proto x)

-- no map is alike to a type that is none
pub only_map : (k v : Shape) (t : Ty) → ((x y : Box Ty Global) → t ≡ Map x y → ⊥) → alike (mapping k v) (seen t) ≡ false
only_map k v BoolTy none = ap (alike (mapping k v)) seen_bool
only_map k v Int none = ap (alike (mapping k v)) seen_int
only_map k v Time none = ap (alike (mapping k v)) seen_time
only_map k v Str none = ap (alike (mapping k v)) seen_str
only_map k v Bytes none = ap (alike (mapping k v)) seen_bytes
only_map k v (Array' p e) none = ap (alike (mapping k v)) (seen_array (box_of p e))
only_map k v (Map' p l q w) none = absurd (none (box_of p l) (box_of q w) refl)
only_map k v (Tuple x) none = ap (alike (mapping k v)) (seen_tuple x)
only_map k v (Proto x) none = ap (alike (mapping k v)) (seen_proto x)

-- no tuple is alike to a type that is none
pub only_tuple : (fs : FieldShapes) (t : Ty) → ((x : Fields) → t ≡ Tuple x → ⊥) → alike (tuple fs) (seen t) ≡ false
only_tuple fs BoolTy none = ap (alike (tuple fs)) seen_bool
only_tuple fs Int none = ap (alike (tuple fs)) seen_int
only_tuple fs Time none = ap (alike (tuple fs)) seen_time
only_tuple fs Str none = ap (alike (tuple fs)) seen_str
only_tuple fs Bytes none = ap (alike (tuple fs)) seen_bytes
only_tuple fs (Array' p e) none = ap (alike (tuple fs)) (seen_array (box_of p e))
only_tuple fs (Map' p l q w) none = ap (alike (tuple fs)) (seen_map (box_of p l) (box_of q w))
only_tuple fs (Tuple x) none = absurd (none x refl)
only_tuple fs (Proto x) none = ap (alike (tuple fs)) (seen_proto x)

-- no proto type is alike to a type that is none
pub only_proto : (fs : FieldShapes) (t : Ty) → ((x : Fields) → t ≡ Proto x → ⊥) → alike (proto fs) (seen t) ≡ false
only_proto fs BoolTy none = ap (alike (proto fs)) seen_bool
only_proto fs Int none = ap (alike (proto fs)) seen_int
only_proto fs Time none = ap (alike (proto fs)) seen_time
only_proto fs Str none = ap (alike (proto fs)) seen_str
only_proto fs Bytes none = ap (alike (proto fs)) seen_bytes
only_proto fs (Array' p e) none = ap (alike (proto fs)) (seen_array (box_of p e))
only_proto fs (Map' p l q w) none = ap (alike (proto fs)) (seen_map (box_of p l) (box_of q w))
only_proto fs (Tuple x) none = ap (alike (proto fs)) (seen_tuple x)
only_proto fs (Proto x) none = absurd (none x refl)
