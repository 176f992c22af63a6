-- The bytes of what a table holds: for each of its index lists the indexes, and the rows under it.
use Rattle.std.specs.Prelude.{◌≡◌, ℕ, ℤ, ◌-◌, ◌*◌, ◌/◌, ◌%◌, ◌^◌, ◌<◌, ◌≤◌, ◌⊎◌, unsigned_abs, Bool, true, false, not, ◌&&◌, ⊤, if◌then◌else◌, Option, Some, None, List, [], ◌∷◌, ◌++◌, length, flat_map}
use Rattle.std.specs.Int.{w64, w128, cast_unsigned, to_be_bytes}
use Rattle.std.specs.Int.RustNames.{FitsSigned}
use Rattle.std.specs.List.{AllByRecursion}
use Rattle.std.specs.Ordering.{is_lt, is_gt}
use Rattle.sz_types.specs.Data.{Shape}
use Rattle.sz_types.specs.Tables.{Declaration}
use Rattle.sz_types.specs.declared.table.TableKind.{TableKind}
use Rattle.sz_types.specs.declared.table.TableKind.TheVariants.{Sum, Maximum, Minimum, Set, Collection}
use Rattle.sz_value.specs.Data.{Datum}
use Rattle.sz_value.specs.Order.{compare}
use Rattle.sz_types.specs.Types.{has_type}
use Rattle.sz_flat.specs.Spelling.{length_bytes, number_bytes, spelling, IsShort, HasSpelling}
use Rattle.sz_tabs.specs.Data.{Shown, one, sums, overflow, RowDatum, Weighted}
use Rattle.sz_tabs.specs.Rows.{compare_indexes, greatest_first, least_first, overflow_row}
use Rattle.sz_total.specs.Tables.{Indexed}
use Rattle.sz_save_format.specs.Types.{field_count}

-- a count in 8 bytes, the high one first
abbrev pub count_bytes : ℕ → List ℕ
count_bytes n = to_be_bytes w64 n

-- the count can be spelled
abbrev pub IsCount : ℕ → Type 0
IsCount n = n < 2 ^ 64

-- 128 bits in 16 bytes, the high one first: the high 64 bits, and then the low ones
abbrev pub wide_bytes : ℕ → List ℕ
wide_bytes n = count_bytes (n / 2 ^ 64) ++ count_bytes (n % 2 ^ 64)

-- a sum in 16 bytes, in two's complement
abbrev pub sum_bytes : ℤ → List ℕ
sum_bytes n = wide_bytes (cast_unsigned w128 n)

-- how many bytes spell the value, and then they
abbrev pub value_bytes : Datum → List ℕ
value_bytes value = count_bytes (length (spelling value)) ++ spelling value

-- the bytes of what a row shows: a value, or the number of sums in 4 bytes and then they
abbrev pub shown_bytes : Shown → List ℕ
shown_bytes (one value) = value_bytes value
shown_bytes (sums numbers) = length_bytes (length numbers) ++ flat_map sum_bytes numbers
shown_bytes overflow = []

-- the bytes of a weight, if there is one: a number in 8 bytes
abbrev pub rank_bytes : Option ℤ → List ℕ
rank_bytes None = []
rank_bytes (Some weight) = number_bytes weight

-- the bytes of a row
abbrev pub row_bytes : RowDatum → List ℕ
row_bytes row = shown_bytes row.shown ++ rank_bytes row.weight

-- whether the row says that a set has too many values
abbrev pub is_overflow : Shown → Bool
is_overflow overflow = true
is_overflow _ = false

-- whether the first row says so
abbrev pub overflows : List RowDatum → Bool
overflows [] = false
overflows (row ∷ rows) = is_overflow row.shown

-- what stands before the rows under an index list: the number of values in 4 bytes, and of a collection in 8; before
-- it, of a set, 0, or
-- 1 alone where there are too many values; and nothing before sums
abbrev pub front_bytes : TableKind → List RowDatum → List ℕ
front_bytes Sum rows = []
front_bytes Maximum rows = length_bytes (length rows)
front_bytes Minimum rows = length_bytes (length rows)
front_bytes Set rows = if overflows rows then 1 ∷ [] else 0 ∷ length_bytes (length rows)
front_bytes Collection rows = count_bytes (length rows)

-- the bytes of an index list and the rows under it
abbrev pub entry_bytes : TableKind → Indexed → List ℕ
entry_bytes kind entry =
    flat_map value_bytes entry.indexes ++ (front_bytes kind entry.rows ++ flat_map row_bytes entry.rows)

-- the number of index lists in 8 bytes, and then they
abbrev pub entries_bytes : TableKind → List Indexed → List ℕ
entries_bytes kind entries = count_bytes (length entries) ++ flat_map (entry_bytes kind) entries

-- the value has the type and can be spelled, and so can the number of its bytes
pub record IsSavedValue (t : Shape) (value : Datum) : Type 0 where
  pub has : HasSpelling value
  pub typed : has_type value t ≡ true
  pub long : IsCount (length (spelling value))

-- each value is one of the type beside it, and there are as many types as values
abbrev pub AreSavedValues : List Shape → List Datum → Type 0
AreSavedValues [] [] = ⊤
AreSavedValues (t ∷ ts) (value ∷ values) = IsSavedValue t value × AreSavedValues ts values
AreSavedValues _ _ = ⊥

-- how many sums a table of sums has under an index list, by the type of its elements
abbrev pub components : Shape → ℕ
components (Shape.tuple fields) = field_count fields
components (Shape.proto fields) = field_count fields
components _ = 1

-- no sum of so many emits is further from 0
abbrev pub IsSavedSum : ℕ → ℤ → Type 0
IsSavedSum bound n = unsigned_abs n ≤ bound * 2 ^ 63

-- what is shown is such sums, as many as the type asks for
abbrev pub AreSavedSums : ℕ → Shape → Shown → Type 0
AreSavedSums bound element (sums numbers) =
    IsShort (length numbers) × (length numbers ≡ components element) × AllByRecursion (IsSavedSum bound) numbers
AreSavedSums bound element _ = ⊥

-- what is shown is a value of the type
abbrev pub ShowsSavedValue : Shape → Shown → Type 0
ShowsSavedValue element (one value) = IsSavedValue element value
ShowsSavedValue element _ = ⊥

-- the weight is there just where it has to be, and has 64 bits
abbrev pub IsSavedRank : Bool → Option ℤ → Type 0
IsSavedRank true (Some weight) = FitsSigned w64 weight
IsSavedRank false None = ⊤
IsSavedRank _ _ = ⊥

-- the row shows a value of the type, and has a weight just where the table has them
pub record IsSavedRow (ranked : Bool) (element : Shape) (row : RowDatum) : Type 0 where
  pub value : ShowsSavedValue element row.shown
  pub weight : IsSavedRank ranked row.weight

-- whether of two values, each with its weight, the second may stand behind the first under an index list
abbrev pub may_follow : TableKind → Weighted → Weighted → Bool
may_follow Sum earlier later = true
may_follow Maximum earlier later = not (is_gt (greatest_first earlier later))
may_follow Minimum earlier later = not (is_gt (least_first earlier later))
may_follow Set earlier later = is_lt (compare earlier.value later.value)
may_follow Collection earlier later = not (is_gt (compare earlier.value later.value))

-- whether a row of a value may stand behind another
abbrev pub shown_may_follow : TableKind → Shown → Option ℤ → Shown → Option ℤ → Bool
shown_may_follow kind (one earlier) weight (one later) other =
    may_follow kind (record { value = earlier; weight = weight }) (record { value = later; weight = other })
shown_may_follow _ _ _ _ _ = false

abbrev pub row_may_follow : TableKind → RowDatum → RowDatum → Bool
row_may_follow kind earlier later = shown_may_follow kind earlier.shown earlier.weight later.shown later.weight

-- whether each but the first may stand behind the one before it
abbrev pub in_order : {X : Type 0} → (X → X → Bool) → List X → Bool
in_order follows [] = true
in_order follows (x ∷ []) = true
in_order follows (x ∷ y ∷ ys) = follows x y && in_order follows (y ∷ ys)

-- the rows are values in the order in which they are printed, at least one, and no more than so many
pub record AreSavedRows (kind : TableKind) (ranked : Bool) (most : ℕ) (element : Shape)
    (rows : List RowDatum) : Type 0 where
  pub some : 1 ≤ length rows
  pub few : length rows ≤ most
  pub each : AllByRecursion (IsSavedRow ranked element) rows
  pub ordered : in_order (row_may_follow kind) rows ≡ true

-- there is one row of sums
pub record IsSavedSumRow (bound : ℕ) (element : Shape) (row : RowDatum) : Type 0 where
  pub sums : AreSavedSums bound element row.shown
  pub weight : IsSavedRank false row.weight

abbrev pub AreSumRows : ℕ → Shape → List RowDatum → Type 0
AreSumRows bound element (row ∷ []) = IsSavedSumRow bound element row
AreSumRows _ _ _ = ⊥

-- the rows can stand in a saved file under an index list of a table of a kind and a limit, where no more emits were
-- counted than the bound says
abbrev pub HaveRows : TableKind → ℕ → ℕ → Shape → List RowDatum → Type 0
HaveRows Sum bound limit element rows = AreSumRows bound element rows
HaveRows Maximum bound limit element rows = AreSavedRows Maximum true limit element rows
HaveRows Minimum bound limit element rows = AreSavedRows Minimum true limit element rows
HaveRows Set bound limit element rows = (rows ≡ overflow_row ∷ []) ⊎ AreSavedRows Set false limit element rows
HaveRows Collection bound limit element rows = AreSavedRows Collection false (2 ^ 64 - 1) element rows

-- the index list has the table's types, and the rows can stand under it
pub record IsSavedEntry (bound : ℕ) (table : Declaration) (entry : Indexed) : Type 0 where
  pub indexes : AreSavedValues table.indexes entry.indexes
  pub rows : HaveRows table.kind bound table.limit table.element entry.rows

-- whether an index list may stand behind another
abbrev pub entry_may_follow : Indexed → Indexed → Bool
entry_may_follow earlier later = is_lt (compare_indexes earlier.indexes later.indexes)

-- the index lists rise in value order, each with its rows, and a bound of 0 has none
pub record AreSavedEntries (bound : ℕ) (table : Declaration) (entries : List Indexed) : Type 0 where
  pub few : IsCount (length entries)
  pub none : bound ≡ 0 → entries ≡ []
  pub each : AllByRecursion (IsSavedEntry bound table) entries
  pub rising : in_order entry_may_follow entries ≡ true
