-- Ranks, which order what a table keeps: the least rank comes first, and of equal ranks the lesser value.
use Rattle.std.specs.Prelude.{◌≡◌, ℕ, ℤ, negsuc, ◌-ℤ◌, List, take, Some}
use Rattle.std.specs.Ordering.{int_cmp, ordering_then}
use Rattle.std.specs.declared.cmp.Ordering.{Ordering}
use Rattle.sz_types.specs.declared.table.TableKind.{TableKind}
use Rattle.sz_types.specs.declared.table.TableKind.TheVariants.{Maximum}
use Rattle.sz_value.specs.Data.{Datum}
use Rattle.sz_value.specs.Order.{compare}
use Rattle.sz_value.specs.Seen.{seen}
use Rattle.sz_value.specs.declared.value.Value.{Value}
use Rattle.sz_tabs.specs.Data.{Weighted}
use Rattle.sz_tabs.specs.Sorting.{sorted}

-- the rank of a weight, and the weight of a rank: a maximum turns the order round
abbrev pub turned : TableKind → ℤ → ℤ
turned Maximum n = negsuc 0 -ℤ n
turned _ n = n

-- a rank and a value
abbrev pub Ranked : Type 0
Ranked = ℤ × Datum

-- how two of them compare: by their ranks, and where those are equal by their values
abbrev pub by_rank : Ranked → Ranked → Ordering
by_rank r s = ordering_then (int_cmp r.0 s.0) (compare r.1 s.1)

-- the emit of which this is the rank and the value
abbrev pub emit_of : TableKind → Ranked → Weighted
emit_of kind r = record { value = r.1; weight = Some (turned kind r.0) }

-- the least of all are the least of those that are kept
abbrev pub HoldsLeast : ℕ → List Ranked → List Ranked → Type 0
HoldsLeast limit all kept = take limit (sorted by_rank kept) ≡ take limit (sorted by_rank all)

-- what contracts see of a rank and a value, and how two of them compare
abbrev pub seen_rank : ℤ × Value → Ranked
seen_rank p = (p.0, seen p.1)

abbrev pub rank_order : ℤ × Value → ℤ × Value → Ordering
rank_order p q = by_rank (seen_rank p) (seen_rank q)
