-- The bytes of one field.
use Rattle.std.specs.Prelude.{ℕ, Bool, if◌then◌else◌, List, [], ◌++◌}
use Rattle.sz_types.specs.Data.{FieldShape, field}
use Rattle.sz_flat.specs.Spelling.{counted_bytes}
use Rattle.sz_save_format.specs.Types.{type_bytes, number_and_code}

-- its name and its type, and in a message its number and its encoding
abbrev pub field_bytes : Bool → FieldShape → List ℕ
field_bytes numbered (field name t number code) =
    counted_bytes name ++ (type_bytes t ++ (if numbered then number_and_code number code else []))
