-- The tables of the tests of saving.
use Rattle.std.specs.Prelude.{ℕ, ℤ, Option, Some, None, [], ◌∷◌, codes}
use Rattle.sz_types.specs.Data.{Shape}
use Rattle.sz_types.specs.Tables.{Declaration}
use Rattle.sz_types.specs.declared.table.TableKind.{TableKind}
use Rattle.sz_types.specs.declared.table.TableKind.TheVariants.{Sum, Maximum, Minimum, Set, Collection}
use Rattle.sz_value.specs.Data.{int}
use Rattle.sz_tabs.specs.Data.{EmitDatum}

-- two values at most under an index, where the kind has a limit
abbrev pub limit_for : TableKind → ℕ
limit_for Sum = 0
limit_for Maximum = 2
limit_for Minimum = 2
limit_for Set = 2
limit_for Collection = 0

-- whole numbers as weights, where the kind has weights
abbrev pub weight_for : {A : Type 0} → TableKind → A → Option A
weight_for Maximum w = Some w
weight_for Minimum w = Some w
weight_for _ w = None

-- a table of a kind, of whole numbers under a whole number
abbrev pub numbers_table : TableKind → Declaration
numbers_table kind = record {
  name = codes "t";
  kind = kind;
  limit = limit_for kind;
  indexes = Shape.int ∷ [];
  element = Shape.int;
  weight = weight_for kind Shape.int;
}

-- the emit of a number under an index, with a weight where the kind has weights
abbrev pub number_emit : TableKind → (index number weight : ℤ) → EmitDatum
number_emit kind index number weight = record {
  table = 0;
  indexes = int index ∷ [];
  value = int number;
  weight = weight_for kind weight;
}
