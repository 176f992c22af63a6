-- Types that may stand around a program.
use Rattle.std.specs.Prelude.{◌≡◌, true, List, map}
use Rattle.std.specs.List.{Contains}
use Rattle.sz_types.specs.Conversions.{IsProto}
use Rattle.sz_core.specs.WellFormed.{are_distinct_texts, is_well_formed}
use Rattle.sz_protofile.specs.Types.{TypeShape}

-- the types have different names, and each is a well formed proto type
pub record AreSound (types : List TypeShape) : Type 0 where
  pub apart : are_distinct_texts (map (λ (t : TypeShape). t.name) types) ≡ true
  pub messages : (t : TypeShape) → Contains types t → IsProto t.shape
  pub formed : (t : TypeShape) → Contains types t → is_well_formed t.shape ≡ true
