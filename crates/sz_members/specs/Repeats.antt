-- Distinct values with how often each came, and what counting one more leaves.
use Rattle.std.specs.Prelude.{◌≡◌, ◌<◌, ◌≤◌, ◌+◌, ℕ, Bool, false, List, map, length, nat_lt, ◌++◌, IsPermutation}
use Rattle.std.specs.List.{AllByRecursion}
use Rattle.std.specs.Ordering.{on, eq_by_cmp}
use Rattle.sz_types.specs.Tables.{Declaration}
use Rattle.sz_types.specs.declared.table.TableKind.{TableKind}
use Rattle.sz_types.specs.declared.table.TableKind.TheVariants.{Set}
use Rattle.sz_value.specs.Data.{Datum}
use Rattle.sz_value.specs.Order.{compare}
use Rattle.sz_value.specs.Seen.{seen}
use Rattle.sz_value.specs.declared.value.Value.{Value}
use Rattle.sz_tabs.specs.Data.{Weighted}
use Rattle.sz_tabs.specs.Rows.{rows_of}
use Rattle.sz_members.specs.Data.{times, emits_of}

-- whether two values are equal
abbrev pub value_eq : Value → Value → Bool
value_eq = on seen (eq_by_cmp compare)

-- what contracts see of a value and its repeats
abbrev pub seen_repeated : Value × ℕ → Datum × ℕ
seen_repeated p = (seen p.0, p.1)

-- the emits that are kept
abbrev pub emits_tallied : List (Value × ℕ) → List Weighted
emits_tallied tally = emits_of (map seen_repeated tally)

-- each value came at least once
abbrev pub AllCame : List (Value × ℕ) → Type 0
AllCame = AllByRecursion (λ p. 0 < p.1)

-- whether a table of this kind and limit has as many distinct values as it keeps at most
abbrev pub full_by : TableKind → ℕ → ℕ → Bool
full_by Set limit values = nat_lt limit values
full_by _ limit values = false

-- the same of a declared table
abbrev pub is_full : Declaration → ℕ → Bool
is_full table values = full_by table.kind table.limit values

-- a set holds at most one value more than its limit
abbrev pub AreFew : Declaration → ℕ → Type 0
AreFew table values = table.kind ≡ Set → values ≤ table.limit + 1

-- the value came so many times more, and was there before
pub record CountsAgain (value : Datum) (more : ℕ) (old new : List (Value × ℕ)) : Type 0 where
  pub emits : IsPermutation (emits_tallied old ++ times more value) (emits_tallied new)
  pub came : AllCame old → AllCame new
  pub values : length new ≡ length old

-- the rows are those of the old emits and so many of the value, and what was so before still is
pub record Gains (table : Declaration) (value : Datum) (more : ℕ) (old new : List (Value × ℕ)) : Type 0 where
  pub rows : AllCame old → rows_of table (emits_tallied new) ≡ rows_of table (emits_tallied old ++ times more value)
  pub came : AllCame old → AllCame new
  pub few : AreFew table (length old) → AreFew table (length new)
  pub count : length (emits_tallied new) ≤ length (emits_tallied old) + more

-- the rows are those of the emits of both sides, and what holds of the old values holds of all
pub record GainsAll (table : Declaration) (others old new : List (Value × ℕ)) : Type 0 where
  pub rows : rows_of table (emits_tallied new) ≡ rows_of table (emits_tallied old ++ emits_tallied others)
  pub came : AllCame new
  pub few : AreFew table (length new)
  pub count : length (emits_tallied new) ≤ length (emits_tallied old) + length (emits_tallied others)
