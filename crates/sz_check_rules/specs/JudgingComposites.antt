-- What a composite is judged to be, by the type that its place asks for.
use Rattle.std.specs.Prelude.{Option, Some, None, Ok}
use Rattle.sz_types.specs.Data.{Shape, FieldShapes}
use Rattle.sz_types.specs.declared.place.Place.{Place}
use Rattle.sz_tree.specs.Expressions.{Exps, end, more, Pairs}
use Rattle.sz_core.specs.Nodes.{Node, node, Nodes, Pairings}
use Rattle.sz_core.specs.Nodes as forms
use Rattle.sz_check_rules.specs.Refusals.{Judged, ◌>>=◌, wrong_type, no_type}
use Rattle.sz_check_rules.specs.Agreeing.{Asks, nothing, each, in_turn, agree, pairs_agree, counted, field_types, fields_count}

-- what a composite without a colon asks of its parts; an empty one is an array
abbrev pub asks_of_list : Option Shape → Exps → Asks
asks_of_list (Some (Shape.array t)) es = each t
asks_of_list (Some (Shape.tuple fields)) (more e es) = in_turn (field_types fields)
asks_of_list (Some (Shape.proto fields)) (more e es) = in_turn (field_types fields)
asks_of_list _ es = nothing

-- a tuple or a message of this type with these fields
abbrev pub made_tuple : Place → Shape → FieldShapes → Exps → Nodes → Judged Node
made_tuple p t parts end ns = wrong_type p
made_tuple p t parts es ns = do
  _ ← agree (in_turn (field_types parts)) es ns
  _ ← counted (fields_count parts) es p
  Ok (node p t (forms.tuple ns))

-- a composite without a colon
abbrev pub made_list : Place → Option Shape → Exps → Nodes → Judged Node
made_list p None es ns = no_type p
made_list p (Some (Shape.array t)) es ns = do
  _ ← agree (each t) es ns
  Ok (node p (Shape.array t) (forms.array ns))
made_list p (Some (Shape.tuple fields)) es ns = made_tuple p (Shape.tuple fields) fields es ns
made_list p (Some (Shape.proto fields)) es ns = made_tuple p (Shape.proto fields) fields es ns
made_list p (Some _) es ns = wrong_type p

-- what a composite with colons asks of its keys, and of its values
abbrev pub asked_of_keys : Option Shape → Option Shape
asked_of_keys (Some (Shape.mapping k v)) = Some k
asked_of_keys _ = None

abbrev pub asked_of_values : Option Shape → Option Shape
asked_of_values (Some (Shape.mapping k v)) = Some v
asked_of_values _ = None

-- a composite with colons
abbrev pub made_mapping : Place → Option Shape → Pairs → Pairings → Judged Node
made_mapping p None ps ns = no_type p
made_mapping p (Some (Shape.mapping k v)) ps ns = do
  _ ← pairs_agree k v ps ns
  Ok (node p (Shape.mapping k v) (forms.mapping ns))
made_mapping p (Some _) ps ns = wrong_type p
