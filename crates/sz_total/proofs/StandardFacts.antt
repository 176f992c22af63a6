-- Worked examples, checked by computing both sides.
use Rattle.std.proofs.Common.{◌≡◌, pos, None, [], ◌∷◌, List, refl}
use Rattle.std.specs.Prelude.{codes}
use Rattle.sz_types.specs.Data.{Shape}
use Rattle.sz_types.specs.Tables.{Declaration}
use Rattle.sz_types.specs.declared.table.TableKind.TheVariants.{Sum, Set}
use Rattle.sz_value.specs.Data.{Datum, int, str}
use Rattle.sz_tabs.specs.Data.{EmitDatum, Shown, one, sums, overflow}
use Rattle.sz_total.specs.Tables.{Indexed, table_rows}

abbrev hits : Declaration
hits = record {
  name = codes "hits";
  kind = Sum;
  limit = 0;
  indexes = Shape.str ∷ [];
  element = Shape.int;
  weight = None;
}

abbrev names : Declaration
names = record { name = codes "names"; kind = Set; limit = 2; indexes = []; element = Shape.int; weight = None }

abbrev hit : List Datum → Datum → EmitDatum
hit indexes value = record { table = 0; indexes = indexes; value = value; weight = None }

abbrev name : Datum → EmitDatum
name value = record { table = 1; indexes = []; value = value; weight = None }

abbrev under : List Datum → Shown → Indexed
under indexes shown = record { indexes = indexes; rows = record { shown = shown; weight = None } ∷ [] }

-- two index lists, of which the later stands first, and an emit to another table between them
abbrev emits : List EmitDatum
emits =
    hit (str (codes "us") ∷ []) (int (pos 1)) ∷ name (int (pos 7)) ∷ hit (str (codes "de") ∷ []) (int (pos 2))
    ∷ hit (str (codes "us") ∷ []) (int (pos 3)) ∷ name (int (pos 5)) ∷ []

indexes_rise : table_rows 0 hits emits
    ≡ under (str (codes "de") ∷ []) (sums (pos 2 ∷ [])) ∷ under (str (codes "us") ∷ []) (sums (pos 4 ∷ [])) ∷ []
indexes_rise = refl

-- a set of as many values as its limit, and of one more
just_full : table_rows 1 names emits ≡ record {
  indexes = [];
  rows = record { shown = one (int (pos 5)); weight = None } ∷ record { shown = one (int (pos 7)); weight = None } ∷ [];
} ∷ []
just_full = refl

too_full : table_rows 1 names (name (int (pos 9)) ∷ emits) ≡ under [] overflow ∷ []
too_full = refl

-- no emit, no row
none : table_rows 0 hits (name (int (pos 7)) ∷ []) ≡ []
none = refl
