-- How the logic stores a saved state as plain data: what the model of its type has to give.
use Rattle.std.specs.Prelude.{ℕ, List, refl}
use Rattle.std.specs.Coded.{Coded, code_by, coded×, coded_ℕ, coded_list}
use Rattle.sz_types.specs.Tables.{Declaration}
use Rattle.sz_types.specs.Code.{declarations_code}
use Rattle.sz_total.specs.Code.{indexed_code}
use Rattle.sz_total.specs.Tables.{Indexed}
use Rattle.sz_save_format.specs.Saved.{SavedState}

-- how a saved state is stored
abbrev pub saved_code : Coded SavedState
saved_code =
    code_by (ℕ × (List Declaration × List (List Indexed)))
    (coded× coded_ℕ (coded× declarations_code (coded_list (coded_list indexed_code))))
    (λ s. (s.bound, (s.decls, s.tables))) (λ p. record { bound = p.0; decls = p.1.0; tables = p.1.1 }) (λ _. refl)
