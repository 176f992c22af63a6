-- How the logic stores an aggregator of members as plain data: what the model of its type has to give.
use Rattle.std.specs.Prelude.{ℕ, List, refl}
use Rattle.std.specs.Coded.{Coded, code_by, coded×, coded_list, coded_ℕ}
use Rattle.sz_types.specs.Tables.{Declaration}
use Rattle.sz_value.specs.Data.{Datum}
use Rattle.sz_value.specs.Code.{datum_code}
use Rattle.sz_tabs.specs.Code.{declaration_code}
use Rattle.sz_members.specs.Data.{Counted}

-- how an aggregator of members is stored
abbrev pub counted_code : Coded Counted
counted_code =
    code_by (Declaration × (List (Datum × ℕ) × (ℕ × ℕ)))
    (coded× declaration_code (coded× (coded_list (coded× datum_code coded_ℕ)) (coded× coded_ℕ coded_ℕ)))
    (λ m. (m.table, (m.kept, (m.count, m.room))))
    (λ p. record { table = p.0; kept = p.1.0; count = p.1.1.0; room = p.1.1.1 })
    (λ _. refl)
