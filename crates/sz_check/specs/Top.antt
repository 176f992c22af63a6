-- What contracts see of what is known at the top level.
use Rattle.std.specs.Prelude.{List, [], ◌∷◌, ◌++◌, map, Option, Some, None, Ok}
use Rattle.sz_core.specs.View.{signature_of, item_of}
use Rattle.std.specs.Global.{Vec}
use Rattle.sz_types.specs.Data.{Shape}
use Rattle.sz_core.specs.Programs.{Item, Core, core_of}
use Rattle.sz_core.specs.declared.program.Item.{Item as CheckedItem}
use Rattle.sz_check.specs.declared.top.Top.{Top}
use Rattle.sz_check_rules.specs.Refusals.{Judged, ◌>>=◌}
use Rattle.sz_check_rules.specs.JudgingPrograms.{TopScene, Found}
use Rattle.sz_check_names.specs.Knowledge.{scene_of}

-- what is known at the top level
abbrev pub top_of : Top → TopScene
top_of t = record {
  scene = scene_of t.known;
  tables = t.tables;
  statics = t.statics;
  functions = map signature_of t.functions.items;
}

-- the items that a statement is
abbrev pub items_in : Option CheckedItem → List Item
items_in (Some i) = item_of i ∷ []
items_in None = []

-- what is known, with the items of a statement, or with one item
abbrev pub found_with : Top → Option CheckedItem → Found
found_with t i = record { known = top_of t; items = items_in i }

abbrev pub found_one : Top → CheckedItem → Found
found_one t i = record { known = top_of t; items = item_of i ∷ [] }

abbrev pub found_all : Top → List CheckedItem → Found
found_all t is = record { known = top_of t; items = map item_of is }

-- a program by its items and the types of the record's variables
abbrev pub core_seen : Vec CheckedItem × List Shape → Core
core_seen c = core_of (map item_of c.0.items) c.1

-- items in front of what is found
abbrev pub with_items : List Item → Judged Found → Judged Found
with_items front rest = rest >>= λ found. Ok (record { known = found.known; items = front ++ found.items })
