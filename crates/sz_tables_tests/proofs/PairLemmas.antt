-- Pairs fit tables of pairs.
use Rattle.std.proofs.Common.{◌≡◌, ℤ, true, None, is_some, refl, sym, subst}
use Rattle.sz_types.specs.Tables.{Declaration}
use Rattle.sz_types.specs.Types.{has_type}
use Rattle.sz_tabs.specs.Aggregating.{weighted}
use Rattle.sz_tabs.specs.Fitting.{Fits}
use Rattle.sz_tables_tests.specs.Pairs.{pairs, pair_of}

pub pair_fits : (table : Declaration) (a b : ℤ) → table.element ≡ pairs → table.weight ≡ None
    → Fits table (weighted (pair_of a b) None)
pair_fits table a b element weight = record {
  element = subst (λ t. has_type (pair_of a b) t ≡ true) (sym element) refl;
  weight = λ i. is_some (sym weight i);
}
