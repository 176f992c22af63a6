-- What contracts see of an emit that a plain aggregator keeps, and of one that it ranks by its weight.
use Rattle.std.specs.Prelude.{ℤ, Option}
use Rattle.std.specs.declared.cmp.Reverse.{Reverse}
use Rattle.sz_value.specs.declared.value.Value.{Value}
use Rattle.sz_value.specs.Seen.{seen}
use Rattle.sz_tabs.specs.Data.{Weighted}
use Rattle.sz_tabs.specs.declared.plain.Kept.{Kept}

-- the plain data of the value and the weight that are kept
abbrev pub seen_kept : Kept → Weighted
seen_kept kept = record { value = seen kept.value; weight = kept.weight }

-- the same of a value after its weight
abbrev pub seen_least : Option ℤ × Value → Weighted
seen_least p = record { value = seen p.1; weight = p.0 }

-- the same of a value after its weight turned round
abbrev pub seen_greatest : Reverse (Option ℤ) × Value → Weighted
seen_greatest p = record { value = seen p.1; weight = p.0.0 }
