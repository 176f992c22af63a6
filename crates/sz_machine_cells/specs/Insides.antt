-- What a part of a value in place is.
use Rattle.std.specs.Prelude.{Option}
use Rattle.sz_value.specs.Data.{Datum}
use Rattle.sz_value.specs.Seen.{seen}
use Rattle.sz_machine_cells.specs.declared.inside.Inside.{Inside}
use Rattle.sz_machine_cells.specs.Nested.{nested}

-- the part to which the places lead in the value
abbrev pub part_inside : Inside → Option Datum
part_inside part = nested part.places.items (seen part.whole.value)
