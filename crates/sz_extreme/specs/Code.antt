-- How the logic stores an aggregator of extremes as plain data: what the model of its type has to give.
use Rattle.std.specs.Prelude.{ℕ, refl}
use Rattle.std.specs.Coded.{Coded, code_by, coded×, coded_ℕ}
use Rattle.sz_tabs.specs.Code.{listing_code}
use Rattle.sz_tabs.specs.Listing.{Listing}
use Rattle.sz_extreme.specs.Data.{Extremes}

-- how an aggregator of extremes is stored
abbrev pub extremes_code : Coded Extremes
extremes_code =
    code_by (Listing × (ℕ × ℕ)) (coded× listing_code (coded× coded_ℕ coded_ℕ))
    (λ e. (record { table = e.table; emits = e.kept }, (e.count, e.room)))
    (λ p. record { table = p.0.table; count = p.1.0; kept = p.0.emits; room = p.1.1 })
    (λ _. refl)
