-- How the logic stores a sum as plain data: what the model of its type has to give.
use Rattle.std.specs.Prelude.{ℕ, ℤ, List, refl}
use Rattle.std.specs.Coded.{Coded, code_by, coded×, coded_ℕ, coded_ℤ, coded_list}
use Rattle.sz_types.specs.Tables.{Declaration}
use Rattle.sz_tabs.specs.Code.{declaration_code}
use Rattle.sz_sum.specs.Data.{Summed}

-- how a sum is stored
abbrev pub summed_code : Coded Summed
summed_code =
    code_by (Declaration × (ℕ × List ℤ)) (coded× declaration_code (coded× coded_ℕ (coded_list coded_ℤ)))
    (λ s. (s.table, (s.count, s.numbers))) (λ p. record { table = p.0; count = p.1.0; numbers = p.1.1 }) (λ _. refl)
