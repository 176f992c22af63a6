-- The routines that wait, whose locals and candidate lists lie one after the other.
use Rattle.std.specs.Prelude.{ℕ, ◌≤◌, List, [], ◌∷◌, length, take, drop, reverse}
use Rattle.sz_value.specs.Data.{Datum}
use Rattle.sz_world_rules.specs.Slots.{Slot}
use Rattle.sz_instr.specs.States.{Caller}
use Rattle.sz_machine_cells.specs.Calls.{Open}
use Rattle.sz_machine_cells.specs.declared.calls.Waiting.{Waiting}

-- the routines that wait, the innermost first, whose locals and candidate lists these are, those of the innermost last
abbrev pub callers_of : List Waiting → List Slot → List (List Datum) → List Caller
callers_of [] cells lists = []
callers_of (w ∷ ws) cells lists =
    record { locals = drop w.locals cells; back = w.back; lists = reverse (drop w.lists lists) }
    ∷ callers_of ws (take w.locals cells) (take w.lists lists)

-- the parts of the routines that wait, the innermost first, lie one after the other up to these places
abbrev pub AreWithin : List Waiting → ℕ → ℕ → Type 0
AreWithin [] cells lists = Unit {0}
AreWithin (w ∷ ws) cells lists = (w.locals ≤ cells) × (w.lists ≤ lists) × AreWithin ws w.locals w.lists

-- what contracts see of the open calls: of these cells and candidate lists the routine that runs has those from these
-- places on, and the routines that wait, the innermost last, have the others
abbrev pub open_calls : List Waiting → List Slot → List (List Datum) → ℕ → ℕ → Open
open_calls waiting cells lists cells_from lists_from = record {
  locals = drop cells_from cells;
  lists = reverse (drop lists_from lists);
  callers = callers_of (reverse waiting) (take cells_from cells) (take lists_from lists);
}

-- the parts of the routines lie one after the other
abbrev pub AreStacked : List Waiting → List Slot → List (List Datum) → ℕ → ℕ → Type 0
AreStacked waiting cells lists cells_from lists_from =
    AreWithin (reverse waiting) cells_from lists_from × (cells_from ≤ length cells) × (lists_from ≤ length lists)
