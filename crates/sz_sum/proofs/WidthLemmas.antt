-- How many components values have.
use Rattle.std.proofs.Common.{◌≡◌, ◌&&◌, Bool, true, false, List, [], ◌∷◌, map, length, refl, arith}
use Rattle.sz_types.specs.Data.{Shape, FieldShape, FieldShapes, no_fields, with_field, field, fields_of}
use Rattle.sz_value.specs.Data.{Datum, int, tuple, Data, no_data, datum, parts_of}
use Rattle.sz_types.specs.Types.{has_type, parts_fit}
use Rattle.sz_tabs.specs.Rows.{number_of, components_of}
use Rattle.sz_sum.specs.Data.{width, field_count}

after : (a b : Bool) → a && b ≡ true → b ≡ true
after true b h = h
after false b h = absurd cc

parts_wide : (ds : Data) (fs : FieldShapes) → parts_fit ds fs ≡ true
    → length (map number_of (parts_of ds)) ≡ field_count fs
parts_wide no_data no_fields h = refl
parts_wide no_data (with_field f fs) h = absurd cc
parts_wide (datum d ds) no_fields h = absurd cc
parts_wide (datum d ds) (with_field (field name s number code) fs) h =
    let more = parts_wide ds fs (after (has_type d s) (parts_fit ds fs) h) in omega (arith, more)

-- a value of a type has as many components as the type says
pub components_wide : (d : Datum) (s : Shape) → has_type d s ≡ true → length (components_of d) ≡ width s
components_wide (int n) Shape.int h = refl
components_wide (tuple ds) (Shape.tuple fs) h = parts_wide ds fs h
components_wide (tuple ds) (Shape.proto fs) h = parts_wide ds fs h
components_wide (int n) s h = absurd cc
components_wide (tuple ds) s h = absurd cc
components_wide d Shape.int h = absurd cc
components_wide d (Shape.tuple fs) h = absurd cc
components_wide d (Shape.proto fs) h = absurd cc
components_wide d s h = refl

pub count_of_list : (fs : List FieldShape) → field_count (fields_of fs) ≡ length fs
count_of_list [] = refl
count_of_list (f ∷ fs) = let more = count_of_list fs in omega (arith, more)
