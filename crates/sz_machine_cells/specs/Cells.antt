-- What contracts see of cells.
use Rattle.std.specs.Prelude.{Option, Some, None, Bool, true, take, drop}
use Rattle.sz_value.specs.Data.{Datum, truth, int, time, str, bytes}
use Rattle.sz_value.specs.Seen.{seen}
use Rattle.sz_value.specs.Texts.{is_ascii}
use Rattle.sz_machine_cells.specs.declared.cell.Form.{Form}
use Rattle.sz_machine_cells.specs.declared.cell.Form.TheVariants.{Undefined, Bool as Truth, Int, Time, Shared, Lent, Element, Inside, Buffer, Part, Text}
use Rattle.sz_machine_cells.specs.Nested.{nth}
use Rattle.sz_machine_cells.specs.Insides.{part_inside}

-- the slot that a cell of this form is
abbrev pub slot_of : Form → Option Datum
slot_of Undefined = None
slot_of (Truth b) = Some (truth b)
slot_of (Int n) = Some (int n)
slot_of (Time n) = Some (time n)
slot_of (Shared shared) = Some (seen shared.value)
slot_of (Lent value) = Some (seen value.now)
slot_of (Element place shared) = nth place (seen shared.value)
slot_of (Inside inside) = part_inside inside.value
slot_of (Buffer buffer) = Some (bytes buffer.value.items)
slot_of (Part count before buffer) = Some (bytes (take count (drop before buffer.value.items)))
slot_of (Text count before buffer) = Some (str (take count (drop before buffer.value.items)))

-- whether all bytes are ASCII that are a text in a buffer
abbrev pub has_ascii : Form → Bool
has_ascii (Text count before buffer) = is_ascii (take count (drop before buffer.value.items))
has_ascii _ = true

-- the truth value that a slot is
abbrev pub truth_of : Option Datum → Option Bool
truth_of (Some (truth b)) = Some b
truth_of _ = None
