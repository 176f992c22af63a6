-- Calls and composites, by what the code looks at first.
use Rattle.std.proofs.Common.{◌≡◌, ◌<◌, Bool, true, false, List, [], ◌∷◌, length, map, Some, None, refl, sym, nat_eq, arith}
use Rattle.std.proofs.lemmas.Bool.{ne_eqb}
use Rattle.std.specs.Prelude.{Ok, ◌&&◌, if◌then◌else◌}
use Rattle.sz_types.specs.Data.{Shape, FieldShapes, fields_of}
use Rattle.sz_types.specs.Rows.{builtin_row}
use Rattle.sz_types.specs.Conversions.{converts_to}
use Rattle.sz_types.specs.Seen.{seen_field}
use Rattle.sz_types.specs.declared.place.Place.{Place}
use Rattle.sz_types.specs.declared.ty.Field.{Field}
use Rattle.sz_types.specs.declared.operator.Builtin.{Builtin}
use Rattle.sz_types.specs.declared.operator.Builtin.TheVariants.{Len, Keys, HasKey, StrFind}
use Rattle.sz_tree.specs.Names.{Ident}
use Rattle.sz_tree.specs.declared.expr.Expr.{Expr}
use Rattle.sz_tree.specs.Expressions.{Exps, end, more, exps_of, place_of}
use Rattle.sz_tree.specs.View.{tree_of}
use Rattle.sz_core.specs.declared.expr.CoreExpr.{CoreExpr}
use Rattle.sz_core.specs.Nodes.{Node, node, Nodes, no_nodes, with_node, nodes_of, type_of, types_of}
use Rattle.sz_core.specs.Nodes as forms
use Rattle.sz_core.specs.View.{node_of}
use Rattle.sz_check_rules.specs.Refusals.{◌>>=◌, unless, wrong_type, wrong_count}
use Rattle.sz_check_rules.specs.JudgingCalls.{conversion_call}
use Rattle.sz_check_rules.specs.JudgingComposites.{asks_of_list, made_tuple}
use Rattle.sz_check_rules.specs.Agreeing.{in_turn, field_types, fields_count}
use Rattle.sz_check_expr.specs.Calling.{first_converts, first_converted, tuple_of}

-- whether there is one expression
abbrev pub is_one : Exps → Bool
is_one (more e end) = true
is_one _ = false

abbrev pub is_one_node : Nodes → Bool
is_one_node (with_node n no_nodes) = true
is_one_node _ = false

-- one argument, and one beside others
alone : (converts : Bool) (n : Node) (p q : Place)
    → (if converts then Ok n else wrong_type q)
    ≡ ((unless converts (wrong_type q) >>= λ _. unless true (wrong_count p)) >>= λ _. Ok n)
alone true n p q = refl
alone false n p q = refl

beside : (converts : Bool) (n : Node) (p q : Place)
    → ((if converts then Ok n else wrong_type q) >>= λ (_ : Node). wrong_count p)
    ≡ ((unless converts (wrong_type q) >>= λ _. unless false (wrong_count p)) >>= λ _. Ok n)
beside true n p q = refl
beside false n p q = refl

pub conversion_is : (n : Ident) (t : Shape) (es : Exps) (ns : Nodes) → conversion_call n t es ns
    ≡ (first_converts n.place t es ns (is_one es && is_one_node ns) >>= λ _. first_converted n.place t ns)
conversion_is n t end ns = refl
conversion_is n t (more e end) no_nodes = refl
conversion_is n t (more e (more f es)) no_nodes = refl
conversion_is n t (more e end) (with_node m no_nodes) =
    alone (converts_to (type_of m) t) (node n.place t (forms.convert m)) n.place (place_of e)
conversion_is n t (more e end) (with_node m (with_node o ns)) =
    beside (converts_to (type_of m) t) (node n.place t (forms.convert m)) n.place (place_of e)
conversion_is n t (more e (more f es)) (with_node m ns) =
    beside (converts_to (type_of m) t) (node n.place t (forms.convert m)) n.place (place_of e)

pub one_is : (es : List Expr) → is_one (exps_of (map tree_of es)) ≡ nat_eq (length es) 1
one_is [] = refl
one_is (e ∷ []) = refl
one_is (e ∷ f ∷ es) = sym (ne_eqb (length (e ∷ f ∷ es)) 1 (λ p. absurd (omega (arith, p))))

pub one_node_is : (ns : List CoreExpr) → is_one_node (nodes_of (map node_of ns)) ≡ nat_eq (length ns) 1
one_node_is [] = refl
one_node_is (n ∷ []) = refl
one_node_is (n ∷ m ∷ ns) = sym (ne_eqb (length (n ∷ m ∷ ns)) 1 (λ p. absurd (omega (arith, p))))

-- what a composite with parts asks, as a tuple or as a message
pub tuple_asks : (fs : FieldShapes) (es : List Expr) → 0 < length es
    → asks_of_list (Some (Shape.tuple fs)) (exps_of (map tree_of es)) ≡ in_turn (field_types fs)
tuple_asks fs [] h = absurd (omega (arith, h))
tuple_asks fs (e ∷ es) h = refl

pub proto_asks : (fs : FieldShapes) (es : List Expr) → 0 < length es
    → asks_of_list (Some (Shape.proto fs)) (exps_of (map tree_of es)) ≡ in_turn (field_types fs)
proto_asks fs [] h = absurd (omega (arith, h))
proto_asks fs (e ∷ es) h = refl

-- a tuple that has parts
pub tuple_is : (p : Place) (t : Shape) (fs : FieldShapes) (es : List Expr) (ns : Nodes) → 0 < length es
    → made_tuple p t fs (exps_of (map tree_of es)) ns ≡ tuple_of p t fs (exps_of (map tree_of es)) ns
tuple_is p t fs [] ns h = absurd (omega (arith, h))
tuple_is p t fs (e ∷ es) ns h = refl

-- as many fields as there are
pub fields_are : (fs : List Field) → fields_count (fields_of (map seen_field fs)) ≡ length fs
fields_are [] = refl
fields_are (f ∷ fs) = omega (arith, fields_are fs)

-- a predeclared function takes one argument or two
pub row_of_none : (b : Builtin) (ns : List CoreExpr) → length ns < 1
    → builtin_row b (types_of (nodes_of (map node_of ns))) ≡ None
row_of_none b (n ∷ ns) h = absurd (omega (arith, h))
row_of_none Len [] h = refl
row_of_none Keys [] h = refl
row_of_none HasKey [] h = refl
row_of_none StrFind [] h = refl

pub row_of_many : (b : Builtin) (ns : List CoreExpr) → 2 < length ns
    → builtin_row b (types_of (nodes_of (map node_of ns))) ≡ None
row_of_many b [] h = absurd (omega (arith, h))
row_of_many b (n ∷ []) h = absurd (omega (arith, h))
row_of_many b (n ∷ m ∷ []) h = absurd (omega (arith, h))
row_of_many Len (n ∷ m ∷ o ∷ ns) h = refl
row_of_many Keys (n ∷ m ∷ o ∷ ns) h = refl
row_of_many HasKey (n ∷ m ∷ o ∷ ns) h = refl
row_of_many StrFind (n ∷ m ∷ o ∷ ns) h = refl
