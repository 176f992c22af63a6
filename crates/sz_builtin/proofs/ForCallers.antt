-- What the crates above may cite: types to which `convert` takes values, and where lists and texts stand in others.
pub use Rattle.sz_builtin.proofs.PlaceLemmas.{Stands, IsFirstPlace, place_is}
use Rattle.std.proofs.Common.{Box, Global, subst}
use Rattle.sz_types.specs.Conversions.{IsProto}
use Rattle.sz_types.specs.Seen.{seen}
use Rattle.sz_types.specs.declared.ty.Ty.{Ty}
use Rattle.sz_types.specs.declared.ty.Ty.TheVariants.{Bool, Int, Time, Str, Bytes, Array, Map, Tuple}
use Rattle.sz_types.specs.declared.ty.Fields.{Fields}
use Rattle.sz_types.proofs.ForCallers.{seen_bool, seen_int, seen_time, seen_str, seen_bytes, seen_array, seen_map, seen_tuple}

-- none of these is a proto type
pub plain_bool : IsProto (seen Bool) → ⊥
plain_bool h = subst IsProto seen_bool h

pub plain_int : IsProto (seen Int) → ⊥
plain_int h = subst IsProto seen_int h

pub plain_time : IsProto (seen Time) → ⊥
plain_time h = subst IsProto seen_time h

pub plain_str : IsProto (seen Str) → ⊥
plain_str h = subst IsProto seen_str h

pub plain_bytes : IsProto (seen Bytes) → ⊥
plain_bytes h = subst IsProto seen_bytes h

pub plain_array : (element : Box Ty Global) → IsProto (seen (Array element)) → ⊥
plain_array element h = subst IsProto (seen_array element) h

pub plain_map : (key value : Box Ty Global) → IsProto (seen (Map key value)) → ⊥
plain_map key value h = subst IsProto (seen_map key value) h

pub plain_tuple : (fields : Fields) → IsProto (seen (Tuple fields)) → ⊥
plain_tuple fields h = subst IsProto (seen_tuple fields) h
