-- What an aggregator of extremes keeps to.
use Rattle.std.specs.Prelude.{◌≡◌, ◌⊎◌, ◌≤◌, ℕ, ℤ, true, is_some, List, length}
use Rattle.std.specs.BinaryHeap.{IsHeap}
use Rattle.sz_types.specs.Tables.{Declaration}
use Rattle.sz_types.specs.declared.table.TableKind.{TableKind}
use Rattle.sz_types.specs.declared.table.TableKind.TheVariants.{Maximum, Minimum}
use Rattle.sz_value.specs.declared.value.Value.{Value}
use Rattle.sz_extreme.specs.Ranks.{rank_order}

-- the kind is one of the two whose tables keep extremes
abbrev pub IsExtreme : TableKind → Type 0
IsExtreme kind = (kind ≡ Maximum) ⊎ (kind ≡ Minimum)

-- the table is one of extremes with weights, the pairs are a heap of no more than its limit, and there is the room
-- that was made
pub record IsKept (table : Declaration) (pairs : List (ℤ × Value)) (room capacity : ℕ) : Type 0 where
  pub kind : IsExtreme table.kind
  pub weights : is_some table.weight ≡ true
  pub few : length pairs ≤ table.limit
  pub heap : IsHeap rank_order pairs
  pub taken : room ≤ capacity
