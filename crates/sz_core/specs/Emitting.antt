-- Whether a statement emits, itself or through a function that it calls. The text decides, whether or not it is
-- reached.
use Rattle.std.specs.Prelude.{List, [], ◌∷◌, Bool, true, false, ◌||◌, Option, Some, None, slice_get}
use Rattle.sz_core.specs.Nodes.{Node, node, Form, constant, local, static, input, call, builtin, def, convert, array, tuple, mapping, index, slice, field}
use Rattle.sz_core.specs.Nodes.{unary, binary, both, either, Nodes, no_nodes, with_node, Pairings, no_pairings, with_pairing}
use Rattle.sz_core.specs.Statements.{Step, at_index, at_field, Stm, block, clear, keep, store, evaluate, branch, while, do_while, for_loop, break, continue}
use Rattle.sz_core.specs.Statements.{return_value, end_record, emit, when, Stms, no_stms, with_stm}
use Rattle.sz_core.specs.Programs.{Signature}

-- whether the function is known to emit; one that isn't among them doesn't
abbrev pub is_emitting : Option Signature → Bool
is_emitting None = false
is_emitting (Some s) = s.emits

module _ (functions : List Signature) where
  unfoldable mutual
    -- whether evaluating the expression can emit
    pub node_emits : Node → Bool
    node_emits (node p t f) = form_emits f

    pub form_emits : Form → Bool
    form_emits (constant d) = false
    form_emits (local n) = false
    form_emits (static n) = false
    form_emits input = false
    form_emits (call f es) = is_emitting (slice_get functions f) || nodes_emit es
    form_emits (builtin b es) = nodes_emit es
    form_emits (def e) = node_emits e
    form_emits (convert e) = node_emits e
    form_emits (array es) = nodes_emit es
    form_emits (tuple es) = nodes_emit es
    form_emits (mapping ps) = pairings_emit ps
    form_emits (index e i) = node_emits e || node_emits i
    form_emits (slice e i j) = node_emits e || node_emits i || node_emits j
    form_emits (field e n) = node_emits e
    form_emits (unary o e) = node_emits e
    form_emits (binary o a b) = node_emits a || node_emits b
    form_emits (both a b) = node_emits a || node_emits b
    form_emits (either a b) = node_emits a || node_emits b

    pub nodes_emit : Nodes → Bool
    nodes_emit no_nodes = false
    nodes_emit (with_node e es) = node_emits e || nodes_emit es

    pub pairings_emit : Pairings → Bool
    pairings_emit no_pairings = false
    pairings_emit (with_pairing k v ps) = node_emits k || node_emits v || pairings_emit ps

  -- whether an index among the steps can emit
  unfoldable pub steps_emit : List Step → Bool
  steps_emit [] = false
  steps_emit (at_index e ∷ steps) = node_emits e || steps_emit steps
  steps_emit (at_field n ∷ steps) = steps_emit steps

  -- whether the test can emit, where there is one
  abbrev pub test_emits : Option Node → Bool
  test_emits None = false
  test_emits (Some e) = node_emits e

  unfoldable mutual
    -- whether the statement can emit
    pub stm_emits : Stm → Bool
    stm_emits (block ss) = stms_emit ss
    stm_emits (clear n) = false
    stm_emits (keep p n e) = node_emits e
    stm_emits (store p n steps e) = steps_emit steps || node_emits e
    stm_emits (evaluate p e) = node_emits e
    stm_emits (branch p c s t) = node_emits c || stm_emits s || stm_emits t
    stm_emits (while p c s) = node_emits c || stm_emits s
    stm_emits (do_while p s c) = stm_emits s || node_emits c
    stm_emits (for_loop p c t s) = test_emits c || stm_emits t || stm_emits s
    stm_emits break = false
    stm_emits continue = false
    stm_emits (return_value p e) = node_emits e
    stm_emits (end_record p) = false
    stm_emits (emit p n es e w) = true
    -- what the candidates are made of are parts of the condition
    stm_emits (when p vs c s) = node_emits c || stm_emits s

    pub stms_emit : Stms → Bool
    stms_emit no_stms = false
    stms_emit (with_stm s ss) = stm_emits s || stms_emit ss

-- whether a function with these statements emits, where these functions are declared before it: a call of itself adds
-- nothing
abbrev pub body_emits : List Signature → Stms → Bool
body_emits functions body = stms_emit functions body
