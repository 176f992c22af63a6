-- What fields a type makes is what the definition says of it.
use Rattle.std.proofs.Common.{◌≡◌, false, refl}
use Rattle.sz_types.specs.Data.{Shape}
use Rattle.sz_types.specs.declared.encoding.Encoding.{Encoding}
use Rattle.sz_core.specs.WellFormed.{is_field_type, takes_encoding}
use Rattle.sz_check_names.specs.Sorts.{sort_at, is_field, encodes}

pub sort_is_field : (t : Shape) → is_field (sort_at false t) ≡ is_field_type t
sort_is_field Shape.int = refl
sort_is_field Shape.time = refl
sort_is_field Shape.truth = refl
sort_is_field Shape.str = refl
sort_is_field Shape.bytes = refl
sort_is_field (Shape.proto _) = refl
sort_is_field (Shape.mapping k v) = refl
sort_is_field (Shape.tuple _) = refl
sort_is_field (Shape.array t) = of_elements t
  where
    of_elements : (t : Shape) → is_field (sort_at false (Shape.array t)) ≡ is_field_type (Shape.array t)
    of_elements Shape.int = refl
    of_elements Shape.time = refl
    of_elements Shape.truth = refl
    of_elements Shape.str = refl
    of_elements Shape.bytes = refl
    of_elements (Shape.proto _) = refl
    of_elements (Shape.mapping k v) = refl
    of_elements (Shape.tuple _) = refl
    of_elements (Shape.array t) = refl

pub sort_encodes : (code : Encoding) (t : Shape) → encodes code (sort_at false t) ≡ takes_encoding code t
sort_encodes code Shape.int = refl
sort_encodes code Shape.time = refl
sort_encodes code Shape.truth = refl
sort_encodes code Shape.str = refl
sort_encodes code Shape.bytes = refl
sort_encodes code (Shape.proto _) = refl
sort_encodes code (Shape.mapping k v) = refl
sort_encodes code (Shape.tuple _) = refl
sort_encodes code (Shape.array t) = of_elements t
  where
    of_elements : (t : Shape) → encodes code (sort_at false (Shape.array t)) ≡ takes_encoding code (Shape.array t)
    of_elements Shape.int = refl
    of_elements Shape.time = refl
    of_elements Shape.truth = refl
    of_elements Shape.str = refl
    of_elements Shape.bytes = refl
    of_elements (Shape.proto _) = refl
    of_elements (Shape.mapping k v) = refl
    of_elements (Shape.tuple _) = refl
    of_elements (Shape.array t) = refl
