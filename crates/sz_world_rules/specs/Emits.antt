-- Emits: what the evaluated parts of an emit add to the emits so far, and how many ticks they take.
use Rattle.std.specs.Prelude.{ℕ, ℤ, pos, List, [], ◌∷◌, ◌++◌, Option, Some, None}
use Rattle.sz_types.specs.declared.place.Place.{Place}
use Rattle.sz_value.specs.Data.{Datum, int, time}
use Rattle.sz_tabs.specs.Data.{EmitDatum}
use Rattle.sz_world_rules.specs.World.{World}
use Rattle.sz_world_rules.specs.Slots.{Slot, all_defined}
use Rattle.sz_world_rules.specs.Ticks.{weight_of_all}

-- the evaluated parts of an emit: its indexes in order, its value, and its weight, if it has one
pub record EmitParts : Type 0 where
  pub indexes : List Slot
  pub value : Slot
  pub weight : Option Slot

-- a weight as a list, which is empty where there is none
abbrev pub listed : Option Slot → List Slot
listed None = []
listed (Some w) = w ∷ []

-- all parts, in the order in which they are evaluated
abbrev pub slots_of : EmitParts → List Slot
slots_of parts = parts.indexes ++ parts.value ∷ listed parts.weight

-- the number that a weight is: that of a whole number or of a time
abbrev pub weight_number : Slot → Option ℤ
weight_number (Some (int n)) = Some n
weight_number (Some (time n)) = Some n
weight_number _ = None

-- the emit to a table with these indexes and this value, if they are defined, and with this weight, if it has one
abbrev pub emit_with : ℕ → Option (List Datum) → Slot → Option ℤ → Option EmitDatum
emit_with table (Some indexes) (Some value) weight =
    Some (record { table = table; indexes = indexes; value = value; weight = weight })
emit_with table _ _ weight = None

-- the same where there is to be a weight: there is no emit where the weight is undefined
abbrev pub emit_weighted : ℕ → Option (List Datum) → Slot → Option ℤ → Option EmitDatum
emit_weighted table indexes value None = None
emit_weighted table indexes value (Some weight) = emit_with table indexes value (Some weight)

-- the emit of an emit's value to a table, with or without a weight
abbrev pub emit_by_weight : ℕ → Option (List Datum) → Slot → Option Slot → Option EmitDatum
emit_by_weight table indexes value None = emit_with table indexes value None
emit_by_weight table indexes value (Some w) = emit_weighted table indexes value (weight_number w)

-- the emit of these parts to a table, unless one of them is undefined
abbrev pub emit_of : ℕ → EmitParts → Option EmitDatum
emit_of table parts = emit_by_weight table (all_defined parts.indexes) parts.value parts.weight

-- what values weigh together, if they are all there
abbrev pub weight_if_all : Option (List Datum) → ℕ
weight_if_all None = 0
weight_if_all (Some ds) = weight_of_all ds

-- the ticks that the parts of an emit add: their weights, if all are defined
abbrev pub emit_weight : EmitParts → ℕ
emit_weight parts = weight_if_all (all_defined (slots_of parts))

-- the emit that counts the line of a place of the text, to a table of lines
abbrev pub line_emit : ℕ → Place → EmitDatum
line_emit table place = record {
  table = table;
  indexes = int (pos place.line) ∷ [];
  value = int (pos 1);
  weight = None;
}

-- what is emitted at a place: the emit, if there is one, else the one that counts the line, where there is a table of
-- lines
abbrev pub emit_or_line : Option EmitDatum → Option ℕ → Place → Option EmitDatum
emit_or_line (Some e) counting place = Some e
emit_or_line None None place = None
emit_or_line None (Some table) place = Some (line_emit table place)

-- the world with one emit more, if there is one
abbrev pub with_emit : Option EmitDatum → World → World
with_emit None w = w
with_emit (Some e) w = record w { emits = w.emits ++ e ∷ [] }
