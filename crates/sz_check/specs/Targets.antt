-- What contracts see of where a path has come to, and one step of it.
use Rattle.std.specs.Prelude.{ℕ, List, map, false}
use Rattle.sz_types.specs.Data.{Shape}
use Rattle.sz_types.specs.Seen.{seen}
use Rattle.sz_types.specs.declared.ty.Ty.{Ty}
use Rattle.sz_tree.specs.Names.{Ident}
use Rattle.sz_tree.specs.Statements.{StepForm, PathForm}
use Rattle.sz_core.specs.Nodes.{Node}
use Rattle.sz_core.specs.Statements.{at_index}
use Rattle.sz_core.specs.View.{step_of}
use Rattle.sz_check.specs.declared.target.Target.{Target as Reached}
use Rattle.sz_check_rules.specs.Agreeing.{Found}
use Rattle.sz_check_rules.specs.JudgingPaths.{Target, stepped}

-- where a path has come to
abbrev pub target_seen : Reached → Target
target_seen t = record {
  local = t.local;
  steps = map step_of t.steps.items;
  type = seen t.ty;
  assignable = t.assignable;
}

-- a path by its name and its steps
abbrev pub path_form : Ident → List StepForm → PathForm
path_form n steps = record { name = n; steps = steps }

-- a step by an index into a string
abbrev pub into_string : Target → Node → Shape → Target
into_string t n u = record (stepped t (at_index n) u) { assignable = false }

-- a step by an index from a value of one type to one of another
abbrev pub to_part : Target → Shape → Node → Shape → Target
to_part t Shape.str n u = into_string t n u
to_part t Shape.bytes n u = into_string t n u
to_part t _ n u = stepped t (at_index n) u

-- a field by its number, and its type
abbrev pub part_of : ℕ × Ty → Found
part_of f = record { place = f.0; type = seen f.1 }
