-- What contracts see of the variables of a `when`.
use Rattle.std.specs.Prelude.{List, map}
use Rattle.sz_types.specs.Seen.{seen}
use Rattle.sz_core.specs.View.{node_of, quantified_of}
use Rattle.sz_core.specs.declared.stmt.Quantified.{Quantified as CheckedQuantified}
use Rattle.sz_check_names.specs.Knowledge.{Knowledge, blocks_of, scene_of}
use Rattle.sz_check.specs.declared.quantified.Variable.{Variable as KeptVariable}
use Rattle.sz_check.specs.declared.quantified.Front.{Front as KeptFront}
use Rattle.sz_check_rules.specs.Quantifying.{Variable, Declared, Front, Based}

-- a variable
abbrev pub variable_of : KeptVariable → Variable
variable_of v = record { name = v.name.now; quantity = v.quantity; local = v.local; type = seen v.ty }

-- the variables that are declared by now
abbrev pub declared_of : Knowledge → List KeptVariable → Declared
declared_of k vs = record { scene = scene_of k; variables = map variable_of vs }

-- the variables and the condition
abbrev pub front_of : Knowledge → KeptFront → Front
front_of k f = record {
  scene = scene_of k;
  variables = map variable_of f.variables.items;
  condition = node_of f.condition;
}

-- a variable of the checked tree, where its name is known
abbrev pub based_of : Knowledge → CheckedQuantified → Based
based_of k v = record { variable = quantified_of v; blocks = blocks_of k }
