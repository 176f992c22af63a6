-- Emits whose parts are at hand.
use Rattle.std.specs.Prelude.{ℕ, suc, ◌+◌, List, [], ◌∷◌, drop, Option, Some, None}
use Rattle.sz_types.specs.declared.place.Place.{Place}
use Rattle.sz_value.specs.Data.{Datum}
use Rattle.sz_value.specs.Weight.{weight_of}
use Rattle.sz_tabs.specs.Data.{EmitDatum}
use Rattle.sz_world_rules.specs.World.{spend}
use Rattle.sz_world_rules.specs.Slots.{Slot, all_defined}
use Rattle.sz_world_rules.specs.Ticks.{weight_of_all}
use Rattle.sz_world_rules.specs.Emits.{emit_by_weight, emit_or_line, with_emit}
use Rattle.sz_instr.specs.States.{State, After, Goes, Stuck, popped}
use Rattle.sz_machine_rows.specs.Acting.{when_paid}

-- what the parts of an emit add, if they are all there
abbrev pub parts_weight : Option (List Datum) → Slot → Option Slot → ℕ
parts_weight (Some ds) (Some value) None = weight_of_all ds + weight_of value
parts_weight (Some ds) (Some value) (Some (Some w)) = weight_of_all ds + weight_of value + weight_of w
parts_weight _ _ _ = 0

-- this is emitted, or else the line is counted, if lines are
abbrev pub emits_made : Option ℕ → Option EmitDatum → Place → State → After
emits_made counting made place s =
    Goes (record s { at = suc s.at; world = with_emit (emit_or_line made counting place) s.world })

-- these parts are emitted, if they are all there
abbrev pub emits_paid : Option ℕ → ℕ → Option (List Datum) → Slot → Option Slot → Place → State → After
emits_paid counting table indexes value weight place s =
    emits_made counting (emit_by_weight table indexes value weight) place s

-- the same, and their weight is taken
abbrev pub emits_parts : Option ℕ → ℕ → Option (List Datum) → Slot → Option Slot → Place → State → After
emits_parts counting table indexes value weight place s =
    when_paid place (spend (parts_weight indexes value weight) s.world)
    (λ w. Goes (record s {
      at = suc s.at;
      world = with_emit (emit_or_line (emit_by_weight table indexes value weight) counting place) w;
    }))

-- the same of a value and so many indexes on the operands
abbrev pub emits_on_top : Option ℕ → ℕ → ℕ → Option Slot → Place → State → After
emits_on_top counting table indexes weight place s = by s.stack
  where
    by : List Slot → After
    by [] = Stuck
    by (x ∷ stack) = emits_parts counting table (all_defined (popped indexes stack)) x weight place
        (record s { stack = drop indexes stack })
