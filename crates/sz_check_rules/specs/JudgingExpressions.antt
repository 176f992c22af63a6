-- The checked expression that an expression's tree is, or its first refusal: the parts in the order of the text, and
-- then the rules of the expression itself.
use Rattle.std.specs.Prelude.{pos, List, Bool, Option, None, Ok}
use Rattle.sz_types.specs.Data.{Shape}
use Rattle.sz_types.specs.declared.place.Place.{Place}
use Rattle.sz_value.specs.Data.{Datum}
use Rattle.sz_tree.specs.Names.{Ident}
use Rattle.sz_tree.specs.Expressions.{Lit, number, string, bytes, character, boolean, Exp, literal, named, call, def, paren, convert, list, mapping, index}
use Rattle.sz_tree.specs.Expressions.{slice, field, Exps, end, more, Pairs, no_pairs, pair}
use Rattle.sz_tree.specs.Expressions as trees
use Rattle.sz_core.specs.Nodes.{Node, node, Nodes, no_nodes, with_node, Pairings, no_pairings, with_pairing, type_of}
use Rattle.sz_core.specs.Nodes as forms
use Rattle.sz_check_rules.specs.Refusals.{Judged, ◌>>=◌, wrong_kind}
use Rattle.sz_check_rules.specs.Names.{Block, Meaning, look_up}
use Rattle.sz_check_rules.specs.Names as names
use Rattle.sz_check_rules.specs.JudgingTypes.{shape_of}
use Rattle.sz_check_rules.specs.Agreeing.{Asks, asked_first, asked_after}
use Rattle.sz_check_rules.specs.JudgingCalls.{callee_of, asks_of_callee, conversion_node, made_call}
use Rattle.sz_check_rules.specs.JudgingComposites.{asks_of_list, made_list, asked_of_keys, asked_of_values, made_mapping}
use Rattle.sz_check_rules.specs.JudgingParts.{made_index, made_slice, made_field}
use Rattle.sz_check_rules.specs.JudgingOperators.{made_unary, operation_of, asked_of_right, made_binary}

-- a literal: a character is the number of its code
abbrev pub literal_node : Place → Lit → Node
literal_node p (number n) = node p Shape.int (forms.constant (Datum.int n))
literal_node p (string s) = node p Shape.str (forms.constant (Datum.str s))
literal_node p (bytes s) = node p Shape.bytes (forms.constant (Datum.bytes s))
literal_node p (character c) = node p Shape.int (forms.constant (Datum.int (pos c)))
literal_node p (boolean b) = node p Shape.truth (forms.constant (Datum.truth b))

-- a name as a value
abbrev pub variable_node : Ident → Meaning → Judged Node
variable_node n (names.variable k t) = Ok (node n.place t (forms.local k))
variable_node n (names.quantified k t) = Ok (node n.place t (forms.local k))
variable_node n (names.static k t) = Ok (node n.place t (forms.static k))
variable_node n names.input = Ok (node n.place Shape.bytes forms.input)
variable_node n _ = wrong_kind n

-- what is seen where an expression stands, and whether a function that emits may be called there
module _ (blocks : List Block) (may_emit : Bool) where
  unfoldable mutual
    -- the expression, where its place asks for a type or for none; only composites take that type
    pub judge_exp : Option Shape → Exp → Judged Node
    judge_exp asked (literal p l) = Ok (literal_node p l)
    judge_exp asked (named n) = do
      m ← look_up n blocks
      variable_node n m
    judge_exp asked (call n es) = do
      m ← look_up n blocks
      callee ← callee_of n m
      ns ← judge_exps (asks_of_callee callee) es
      made_call may_emit n callee es ns
    judge_exp asked (def p e) = do
      n ← judge_exp None e
      Ok (node p Shape.truth (forms.def n))
    judge_exp asked (paren p e) = judge_exp asked e
    judge_exp asked (convert p b e) = do
      n ← judge_exp None e
      conversion_node p (shape_of b) e n
    judge_exp asked (list p es) = do
      ns ← judge_exps (asks_of_list asked es) es
      made_list p asked es ns
    judge_exp asked (mapping p ps) = do
      ns ← judge_pairs (asked_of_keys asked) (asked_of_values asked) ps
      made_mapping p asked ps ns
    judge_exp asked (index p e i) = do
      n ← judge_exp None e
      m ← judge_exp None i
      made_index p e i n m
    judge_exp asked (slice p e i j) = do
      n ← judge_exp None e
      m ← judge_exp None i
      o ← judge_exp None j
      made_slice p e i j n m o
    judge_exp asked (field p e f) = do
      n ← judge_exp None e
      made_field p e n f
    judge_exp asked (trees.unary p o e) = do
      n ← judge_exp None e
      made_unary p o e n
    judge_exp asked (trees.binary p o l r) = do
      n ← judge_exp None l
      m ← judge_exp (asked_of_right (operation_of o) (type_of n)) r
      made_binary p (operation_of o) l r n m

    -- expressions in order, of which these types are asked
    pub judge_exps : Asks → Exps → Judged Nodes
    judge_exps asks end = Ok no_nodes
    judge_exps asks (more e es) = do
      n ← judge_exp (asked_first asks) e
      ns ← judge_exps (asked_after asks) es
      Ok (with_node n ns)

    -- keys and values in order, of which these two types are asked
    pub judge_pairs : Option Shape → Option Shape → Pairs → Judged Pairings
    judge_pairs k v no_pairs = Ok no_pairings
    judge_pairs k v (pair a b ps) = do
      n ← judge_exp k a
      m ← judge_exp v b
      ns ← judge_pairs k v ps
      Ok (with_pairing n m ns)
