-- What a call is judged to be: of a declared function, of a predeclared one, or of a type by its name.
use Rattle.std.specs.Prelude.{ℕ, length, Bool, not, ◌||◌, if◌then◌else◌, Option, Some, None, Ok}
use Rattle.sz_types.specs.Data.{Shape}
use Rattle.sz_types.specs.Conversions.{converts_to}
use Rattle.sz_types.specs.Rows.{builtin_row, arity}
use Rattle.sz_types.specs.declared.place.Place.{Place}
use Rattle.sz_types.specs.declared.operator.Builtin.{Builtin}
use Rattle.sz_tree.specs.Names.{Ident}
use Rattle.sz_tree.specs.Expressions.{Exp, Exps, end, more, place_of}
use Rattle.sz_core.specs.Nodes.{Node, node, Nodes, no_nodes, with_node, type_of, types_of}
use Rattle.sz_core.specs.Nodes as forms
use Rattle.sz_core.specs.Programs.{Signature}
use Rattle.sz_check_rules.specs.Refusals.{Judged, ◌>>=◌, unless, wrong_kind, wrong_type, wrong_count, emit_here}
use Rattle.sz_check_rules.specs.Names.{Meaning}
use Rattle.sz_check_rules.specs.Names as names
use Rattle.sz_check_rules.specs.Agreeing.{Asks, nothing, in_turn, agree, counted, arguments_fit}

-- what can be called: a declared function by its number, a predeclared one, or a type by whose name a value is
-- converted
pub data Callee : Type 0 where
  declared : ℕ → Signature → Callee
  predeclared : Builtin → Callee
  conversion : Shape → Callee

abbrev pub callee_of : Ident → Meaning → Judged Callee
callee_of n (names.function k s) = Ok (declared k s)
callee_of n (names.predeclared b) = Ok (predeclared b)
callee_of n (names.type_name t) = Ok (conversion t)
callee_of n _ = wrong_kind n

-- what a callee asks of its arguments
abbrev pub asks_of_callee : Callee → Asks
asks_of_callee (declared k s) = in_turn s.parameters
asks_of_callee _ = nothing

-- a call of a declared function: the types of the arguments, their number, and then whether an emit may happen here
abbrev pub declared_call : Bool → Ident → ℕ → Signature → Exps → Nodes → Judged Node
declared_call may_emit n k s es ns = do
  _ ← agree (in_turn s.parameters) es ns
  _ ← counted (length s.parameters) es n.place
  _ ← unless (not s.emits || may_emit) (emit_here n.place)
  Ok (node n.place s.result (forms.call k ns))

-- a call of a predeclared function, which gives a type where the arguments are as it takes them
abbrev pub predeclared_call : Ident → Builtin → Exps → Nodes → Judged Node
predeclared_call n b es ns = do
  _ ← arguments_fit b es ns
  _ ← counted (arity b) es n.place
  given (builtin_row b (types_of ns))
  where
    given : Option Shape → Judged Node
    given (Some t) = Ok (node n.place t (forms.builtin b ns))
    given None = wrong_count n.place

-- a conversion at this place of an expression to a type
abbrev pub conversion_node : Place → Shape → Exp → Node → Judged Node
conversion_node p t e n =
    if converts_to (type_of n) t then Ok (node p t (forms.convert n)) else wrong_type (place_of e)

-- a conversion by the name of a type
abbrev pub conversion_call : Ident → Shape → Exps → Nodes → Judged Node
conversion_call n t (more e end) (with_node m no_nodes) = conversion_node n.place t e m
conversion_call n t (more e es) (with_node m ms) = do
  _ ← conversion_node n.place t e m
  wrong_count n.place
conversion_call n t es ms = wrong_count n.place

abbrev pub made_call : Bool → Ident → Callee → Exps → Nodes → Judged Node
made_call may_emit n (declared k s) es ns = declared_call may_emit n k s es ns
made_call may_emit n (predeclared b) es ns = predeclared_call n b es ns
made_call may_emit n (conversion t) es ns = conversion_call n t es ns
