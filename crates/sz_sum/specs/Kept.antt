-- What a sum keeps to: its table is one of sums, there is a number for each component, and none is far from 0.
use Rattle.std.specs.Prelude.{◌≡◌, ℕ, ℤ, ◌*◌, ◌^◌, ◌≤◌, List, length}
use Rattle.sz_types.specs.Tables.{Declaration}
use Rattle.sz_types.specs.declared.table.TableKind.TheVariants.{Sum}
use Rattle.sz_tabs.specs.Bounds.{AreWithin}
use Rattle.sz_sum.specs.Data.{width}

pub record IsKept (table : Declaration) (count : ℕ) (numbers : List ℤ) : Type 0 where
  pub kind : table.kind ≡ Sum
  pub wide : length numbers ≡ width table.element
  pub few : count ≤ 2 ^ 63
  pub within : AreWithin (2 ^ 63 * count) numbers
