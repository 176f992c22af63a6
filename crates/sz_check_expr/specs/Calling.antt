-- What contracts see of what is called.
use Rattle.std.specs.Prelude.{Bool, Some, Ok}
use Rattle.sz_types.specs.Data.{Shape, FieldShapes}
use Rattle.sz_types.specs.Conversions.{converts_to}
use Rattle.sz_types.specs.declared.place.Place.{Place}
use Rattle.sz_types.specs.Seen.{seen}
use Rattle.sz_tree.specs.Expressions.{Exp, Exps, more, place_of}
use Rattle.sz_core.specs.Nodes.{Node, node, Nodes, no_nodes, with_node, type_of}
use Rattle.sz_core.specs.Nodes as forms
use Rattle.sz_core.specs.View.{signature_of}
use Rattle.sz_check_expr.specs.declared.call.Callee.{Callee as Called}
use Rattle.sz_check_expr.specs.declared.call.Callee.TheVariants as called
use Rattle.sz_check_rules.specs.Refusals.{Judged, ◌>>=◌, unless, wrong_type, wrong_count}
use Rattle.sz_check_rules.specs.Agreeing.{in_turn, agree, counted, field_types, fields_count}
use Rattle.sz_check_rules.specs.JudgingCalls.{Callee, declared, predeclared, conversion}
use Rattle.sz_check_rules.specs.JudgingComposites.{made_list}

-- what is called
abbrev pub callee_seen : Called → Callee
callee_seen (called.Declared n s) = declared n (signature_of s.now)
callee_seen (called.Predeclared b) = predeclared b
callee_seen (called.Conversion t) = conversion (seen t)

-- an argument that fits, or of the wrong type
abbrev pub fits : Bool → Exp → Judged Unit
fits holds e = unless holds (wrong_type (place_of e))

-- an array with elements of this type
abbrev pub made_array : Place → Shape → Exps → Nodes → Judged Node
made_array p t es ns = made_list p (Some (Shape.array t)) es ns

-- the first argument converts to the type, and is the only one
abbrev pub first_converts : Place → Shape → Exps → Nodes → Bool → Judged Unit
first_converts p t (more e es) (with_node m ms) is_single = do
  _ ← fits (converts_to (type_of m) t) e
  unless is_single (wrong_count p)
first_converts p t es ms is_single = wrong_count p

-- the first of some expressions, converted to the type
abbrev pub first_converted : Place → Shape → Nodes → Judged Node
first_converted p t (with_node m ms) = Ok (node p t (forms.convert m))
first_converted p t no_nodes = wrong_count p

-- a tuple or a message with these parts
abbrev pub tuple_of : Place → Shape → FieldShapes → Exps → Nodes → Judged Node
tuple_of p t fields es ns = do
  _ ← agree (in_turn (field_types fields)) es ns
  _ ← counted (fields_count fields) es p
  Ok (node p t (forms.tuple ns))
