-- Laws of named types that are kept as they are written.
use Rattle.std.proofs.Common.{◌≡◌, ℕ, zero, suc, ◌+◌, ◌<◌, ◌≤◌, List, [], ◌∷◌, ◌++◌, length, map, take, slice_get, Some, unwrap_or, refl, sym, ap, subst}
use Rattle.std.proofs.Common.{◌∙◌, arith}
use Rattle.std.proofs.lemmas.Option.{none-some, same_Some, slice_get_past}
use Rattle.std.proofs.lemmas.List.{length_push}
use Rattle.std.specs.Global.{Vec}
use Rattle.sz_types.specs.Data.{Shape, fields_of, with_field, field}
use Rattle.sz_check_names.specs.declared.written.Written.{Written, size-Written, Row_of-WrittenField, end_of-WrittenField, more_of-WrittenField}
use Rattle.sz_check_names.specs.declared.written.Written.{items-the_row-WrittenField}
use Rattle.sz_check_names.specs.declared.written.Written.TheBlock.{hidden-the_row-WrittenField-0, items_hidden-the_row-WrittenField-0}
use Rattle.sz_check_names.specs.declared.written.Written.TheVariants as written
use Rattle.sz_check_names.specs.declared.written.WrittenField.{WrittenField}
use Rattle.sz_check_names.specs.Written.{shape_in, field_in, fields_in_row, type_at, shapes_after, shapes_of}

after_more : (types : List Shape) (ws : List Written) (w : Written)
    → shapes_after types (ws ++ w ∷ []) ≡ shapes_after types ws ++ shape_in (shapes_after types ws) w ∷ []
after_more types [] w = refl
after_more types (v ∷ ws) w = after_more (types ++ shape_in types v ∷ []) ws w

-- a type more is written with all before it
pub shapes_more : (ws : List Written) (w : Written)
    → shapes_of (ws ++ w ∷ []) ≡ shapes_of ws ++ shape_in (shapes_of ws) w ∷ []
shapes_more ws w = after_more [] ws w

length_after : (types : List Shape) (ws : List Written) → length (shapes_after types ws) ≡ length types + length ws
length_after types [] = omega arith
length_after types (w ∷ ws) =
    omega (arith, length_after (types ++ shape_in types w ∷ []) ws, length_push types (shape_in types w))

-- there are as many types as are written
pub length_shapes : (ws : List Written) → length (shapes_of ws) ≡ length ws
length_shapes ws = omega (arith, length_after [] ws)

-- a tuple and a message by the list of their fields
module _ (types : List Shape) where
  fields_in_row_is : (n : _) (row : Row_of-WrittenField n)
      → fields_in_row types row ≡ fields_of (map (field_in types) (items-the_row-WrittenField n row))
  fields_in_row_is n end_of-WrittenField = refl
  fields_in_row_is n (more_of-WrittenField m t k c fs) =
      ap (with_field (field m (shape_in types t) k c)) (fields_in_row_is _ fs)

  row_is : (v : Vec WrittenField)
      → fields_in_row types (hidden-the_row-WrittenField-0 v) ≡ fields_of (map (field_in types) v.items)
  row_is v = fields_in_row_is _ (hidden-the_row-WrittenField-0 v)
      ∙ ap (λ (fs : List WrittenField). fields_of (map (field_in types) fs)) (items_hidden-the_row-WrittenField-0 v)

  pub shape_in_tuple : (v : Vec WrittenField)
      → shape_in types (written.Tuple v) ≡ Shape.tuple (fields_of (map (field_in types) v.items))
  shape_in_tuple v = ap Shape.tuple (row_is v)

  pub shape_in_proto : (v : Vec WrittenField)
      → shape_in types (written.Proto v) ≡ Shape.proto (fields_of (map (field_in types) v.items))
  shape_in_proto v = ap Shape.proto (row_is v)

get_stays : (xs : List Shape) (y x : Shape) (i : ℕ) → slice_get xs i ≡ Some x → slice_get (xs ++ y ∷ []) i ≡ Some x
get_stays [] y x i p = absurd (none-some x p)
get_stays (z ∷ xs) y x zero p = p
get_stays (z ∷ xs) y x (suc i) p = get_stays xs y x i p

get_last : (xs : List Shape) (y : Shape) → slice_get (xs ++ y ∷ []) (length xs) ≡ Some y
get_last [] y = refl
get_last (x ∷ xs) y = get_last xs y

-- a type stays at its place
stays_after : (types : List Shape) (ws : List Written) (x : Shape) (i : ℕ) → slice_get types i ≡ Some x
    → slice_get (shapes_after types ws) i ≡ Some x
stays_after types [] x i p = p
stays_after types (w ∷ ws) x i p =
    stays_after (types ++ shape_in types w ∷ []) ws x i (get_stays types (shape_in types w) x i p)

-- a type is written with those before it
at_place : (types : List Shape) (ws : List Written) (k : ℕ) (w : Written) → slice_get ws k ≡ Some w
    → slice_get (shapes_after types ws) (length types + k) ≡ Some (shape_in (shapes_after types (take k ws)) w)
at_place types [] k w p = absurd (none-some w p)
at_place types (v ∷ ws) zero w p =
    subst (λ u. slice_get (shapes_after types (v ∷ ws)) (length types + 0) ≡ Some (shape_in types u)) (same_Some v w p)
    (subst (λ n. slice_get (shapes_after (types ++ shape_in types v ∷ []) ws) n ≡ Some (shape_in types v)) here
    (stays_after (types ++ shape_in types v ∷ []) ws (shape_in types v) (length types)
    (get_last types (shape_in types v))))
  where
    here : length types ≡ length types + 0
    here = omega arith
at_place types (v ∷ ws) (suc k) w p =
    subst (λ n. slice_get (shapes_after types (v ∷ ws)) n
    ≡ Some (shape_in (shapes_after (types ++ shape_in types v ∷ []) (take k ws)) w)) here
    (at_place (types ++ shape_in types v ∷ []) ws k w p)
  where
    here : length (types ++ shape_in types v ∷ []) + k ≡ length types + suc k
    here = omega (arith, length_push types (shape_in types v))

pub named_is : (ws : List Written) (k : ℕ) (w : Written) → slice_get ws k ≡ Some w
    → shape_in (shapes_of (take k ws)) w ≡ type_at (shapes_of ws) k
named_is ws k w p =
    sym (ap (λ o. unwrap_or o Shape.truth) (ap (slice_get (shapes_of ws)) zero_more ∙ at_place [] ws k w p))
  where
    zero_more : k ≡ 0 + k
    zero_more = omega arith

-- there is no type past all
pub named_none : (ws : List Written) (k : ℕ) → length ws ≤ k → type_at (shapes_of ws) k ≡ Shape.truth
named_none ws k over =
    ap (λ o. unwrap_or o Shape.truth) (slice_get_past (shapes_of ws) k (omega (arith, over, length_shapes ws)))

-- the work that is left: a name goes on among the types before it
abbrev pub depths : List Written → ℕ
depths [] = 0
depths (w ∷ ws) = suc (size-Written w) + depths ws

pub depths_less : (ws : List Written) (k : ℕ) (w : Written) → slice_get ws k ≡ Some w
    → size-Written w + depths (take k ws) < depths ws
depths_less [] k w p = absurd (none-some w p)
depths_less (v ∷ ws) zero w p =
    subst (λ u. size-Written u + 0 < suc (size-Written v) + depths ws) (same_Some v w p) (omega arith)
depths_less (v ∷ ws) (suc k) w p = omega (arith, depths_less ws k w p)
