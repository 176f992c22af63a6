-- What an aggregator of members keeps to.
use Rattle.std.specs.Prelude.{◌≡◌, ◌⊎◌, ◌≤◌, ℕ, List, length}
use Rattle.sz_types.specs.Tables.{Declaration}
use Rattle.sz_types.specs.declared.table.TableKind.{TableKind}
use Rattle.sz_types.specs.declared.table.TableKind.TheVariants.{Set, Collection}
use Rattle.sz_value.specs.declared.value.Value.{Value}
use Rattle.sz_members.specs.Repeats.{AllCame, AreFew, emits_tallied}

-- the kind is one of the two whose tables keep members
abbrev pub IsOfMembers : TableKind → Type 0
IsOfMembers kind = (kind ≡ Set) ⊎ (kind ≡ Collection)

-- the table is one of members, each value came, a set holds no more than it has to, no more came than there were
-- emits, and there is the room that was made
pub record IsKept (table : Declaration) (tally : List (Value × ℕ)) (count room capacity : ℕ) : Type 0 where
  pub kind : IsOfMembers table.kind
  pub came : AllCame tally
  pub few : AreFew table (length tally)
  pub counted : length (emits_tallied tally) ≤ count
  pub taken : room ≤ capacity
