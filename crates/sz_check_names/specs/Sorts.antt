-- What fields of a message a type makes.
use Rattle.std.specs.Prelude.{Bool, true, false, ◌||◌}
use Rattle.sz_types.specs.Data.{Shape}
use Rattle.sz_types.specs.declared.encoding.Encoding.{Encoding}
use Rattle.sz_core.specs.WellFormed.{is_plain}
use Rattle.sz_check_names.specs.declared.sort.Sort.{Sort}
use Rattle.sz_check_names.specs.declared.sort.Sort.TheVariants.{Number, Other, Numbers, Others, Neither}

-- as many of these as there are
abbrev pub as_many : Sort → Sort
as_many Number = Numbers
as_many Other = Others
as_many _ = Neither

-- what a field holds of a type, or of the elements of one
abbrev pub sort_at : Bool → Shape → Sort
sort_at inside Shape.int = Number
sort_at inside Shape.time = Number
sort_at inside Shape.truth = Other
sort_at inside Shape.str = Other
sort_at inside Shape.bytes = Other
sort_at inside (Shape.proto _) = Other
sort_at inside (Shape.mapping k v) = Neither
sort_at inside (Shape.tuple _) = Neither
sort_at true (Shape.array t) = Neither
sort_at false (Shape.array t) = as_many (sort_at true t)

-- whether a message may have such a field
abbrev pub is_field : Sort → Bool
is_field Neither = false
is_field _ = true

-- whether such a field holds numbers
abbrev pub has_numbers : Sort → Bool
has_numbers Number = true
has_numbers Numbers = true
has_numbers _ = false

-- whether the encoding word may stand after such a field
abbrev pub encodes : Encoding → Sort → Bool
encodes code sort = is_plain code || has_numbers sort
