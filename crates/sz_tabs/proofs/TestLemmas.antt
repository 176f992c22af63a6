-- Whole numbers fit the tables of the tests.
use Rattle.std.proofs.Common.{◌≡◌, ℤ, true, Option, is_some, refl, sym, subst}
use Rattle.sz_types.specs.Data.{Shape}
use Rattle.sz_types.specs.Tables.{Declaration}
use Rattle.sz_value.specs.Data.{int}
use Rattle.sz_types.specs.Types.{has_type}
use Rattle.sz_tabs.specs.Aggregating.{weighted}
use Rattle.sz_tabs.specs.Fitting.{Fits}

pub numbers_fit : (table : Declaration) (n : ℤ) (w : Option ℤ) → table.element ≡ Shape.int
    → is_some w ≡ is_some table.weight → Fits table (weighted (int n) w)
numbers_fit table n w element weight = record {
  element = subst (λ t. has_type (int n) t ≡ true) (sym element) refl;
  weight = weight;
}
