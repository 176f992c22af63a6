-- Lists of fields.
use Rattle.std.specs.Prelude.{Bool, List, map}
use Rattle.sz_types.specs.Data.{fields_of}
use Rattle.sz_types.specs.Same.{alike_fields}
use Rattle.sz_types.specs.Seen.{seen_field}
use Rattle.sz_types.specs.declared.ty.Field.{Field}

-- whether the plain data of two lists of fields are alike
abbrev pub alike_lists : List Field → List Field → Bool
alike_lists vs ws = alike_fields (fields_of (map seen_field vs)) (fields_of (map seen_field ws))
