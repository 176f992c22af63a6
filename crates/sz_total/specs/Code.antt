-- How the logic stores rows under index lists, and tables, as plain data: what the models of their types have to give.
use Rattle.std.specs.Prelude.{◌≡◌, ◌⊎◌, ℕ, List, refl}
use Rattle.std.proofs.Common.{inl, inr}
use Rattle.std.specs.Coded.{Coded, code_by, coded×, coded⊎, coded_ℕ, coded_list}
use Rattle.sz_types.specs.Tables.{Declaration}
use Rattle.sz_types.specs.Code.{declarations_code}
use Rattle.sz_value.specs.Data.{Datum}
use Rattle.sz_value.specs.Code.{parts_code}
use Rattle.sz_tabs.specs.Data.{RowDatum}
use Rattle.sz_tabs.specs.Code.{row_code, declaration_code}
use Rattle.sz_sum.specs.Data.{Summed}
use Rattle.sz_sum.specs.Code.{summed_code}
use Rattle.sz_extreme.specs.Data.{Extremes}
use Rattle.sz_extreme.specs.Code.{extremes_code}
use Rattle.sz_members.specs.Data.{Counted}
use Rattle.sz_members.specs.Code.{counted_code}
use Rattle.sz_total.specs.Tables.{Indexed}
use Rattle.sz_total.specs.States.{TotalState}
use Rattle.sz_total.specs.Entries.{Entries}
use Rattle.sz_total.specs.Parts.{PartState}
use Rattle.sz_total.specs.OneTable.{TableState}
use Rattle.sz_total.specs.declared.aggregate.Aggregate.{Aggregate}
use Rattle.sz_total.specs.declared.aggregate.Aggregate.TheVariants.{Sum, Extreme, Members}

-- how an index list with its rows is stored
abbrev pub indexed_code : Coded Indexed
indexed_code =
    code_by (List Datum × List RowDatum) (coded× parts_code (coded_list row_code))
    (λ s. (s.indexes, s.rows)) (λ p. record { indexes = p.0; rows = p.1 }) (λ _. refl)

-- the parts of an aggregator, and the aggregator of the parts
abbrev parts_of : Aggregate → Summed ⊎ (Extremes ⊎ Counted)
parts_of (Sum s) = inl s
parts_of (Extreme e) = inr (inl e)
parts_of (Members m) = inr (inr m)

abbrev of_parts : Summed ⊎ (Extremes ⊎ Counted) → Aggregate
of_parts (inl s) = Sum s
of_parts (inr (inl e)) = Extreme e
of_parts (inr (inr m)) = Members m

pub of_parts_again : (a : Aggregate) → of_parts (parts_of a) ≡ a
of_parts_again (Sum s) = refl
of_parts_again (Extreme e) = refl
of_parts_again (Members m) = refl

-- how an aggregator is stored
abbrev pub aggregate_code : Coded Aggregate
aggregate_code =
    code_by (Summed ⊎ (Extremes ⊎ Counted))
    (coded⊎ summed_code (coded⊎ extremes_code counted_code)) parts_of of_parts of_parts_again

-- how a part of a table is stored
abbrev pub part_code : Coded PartState
part_code =
    code_by (Entries × (ℕ × Entries))
    (coded× (coded_list (coded× parts_code aggregate_code))
    (coded× coded_ℕ (coded_list (coded× parts_code aggregate_code))))
    (λ s. (s.entries, (s.room, s.arriving))) (λ p. record { entries = p.0; room = p.1.0; arriving = p.1.1 }) (λ _. refl)

-- how a table is stored
abbrev pub table_code : Coded TableState
table_code =
    code_by (Declaration × (ℕ × List PartState)) (coded× declaration_code (coded× coded_ℕ (coded_list part_code)))
    (λ s. (s.table, (s.count, s.parts))) (λ p. record { table = p.0; count = p.1.0; parts = p.1.1 }) (λ _. refl)

-- how all tables are stored
abbrev pub total_code : Coded TotalState
total_code =
    code_by (List Declaration × (ℕ × List (List Indexed)))
    (coded× declarations_code (coded× coded_ℕ (coded_list (coded_list indexed_code))))
    (λ s. (s.tables, (s.count, s.rows))) (λ p. record { tables = p.0; count = p.1.0; rows = p.1.1 }) (λ _. refl)
