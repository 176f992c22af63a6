-- How the logic stores a type with its name.
use Rattle.std.specs.Prelude.{ℕ, List}
use Rattle.std.proofs.Common.{refl}
use Rattle.std.specs.Coded.{Coded, code_by, coded_ℕ, coded_list, coded×}
use Rattle.sz_types.specs.Code.{shape_code}
use Rattle.sz_types.specs.Data.{Shape}
use Rattle.sz_protofile.specs.Types.{TypeShape}

abbrev parts_of : TypeShape → List ℕ × Shape
parts_of t = (t.name, t.shape)

abbrev made_of : List ℕ × Shape → TypeShape
made_of p = record { name = p.0; shape = p.1 }

abbrev pub type_code : Coded TypeShape
type_code = code_by (List ℕ × Shape) (coded× (coded_list coded_ℕ) shape_code) parts_of made_of (λ t. refl)
