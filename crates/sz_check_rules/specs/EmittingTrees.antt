-- Whether a statement emits, by its tree: it does, or it calls by a name what emits. A name that is hidden by a
-- variable calls nothing.
use Rattle.std.specs.Prelude.{ℕ, List, [], ◌∷◌, ◌++◌, map, Bool, true, false, ◌&&◌, ◌||◌, not, if◌then◌else◌, Option, Some, None}
use Rattle.sz_tree.specs.declared.stmt.Quantity.{Quantity}
use Rattle.sz_tree.specs.declared.stmt.Quantity.TheVariants as quantities
use Rattle.sz_tree.specs.Names.{Ident}
use Rattle.sz_tree.specs.Expressions.{Exp, literal, named, call, def, paren, convert, list, mapping, index, slice, field, unary, binary, Exps, end, more, Pairs}
use Rattle.sz_tree.specs.Expressions.{no_pairs, pair}
use Rattle.sz_tree.specs.Statements.{StepForm, at_index, at_field, SimpleForm, assign, increment, decrement, call_of, FirstForm, first_declare, first_define}
use Rattle.sz_tree.specs.Statements.{first_simple, QuantifierForm, Stm, block, declare, define, simple, if_only, if_else, while, do_while, for_loop, return}
use Rattle.sz_tree.specs.Statements.{emit}
use Rattle.sz_tree.specs.Statements.{when, Stms, no_stms, stm}
use Rattle.sz_check_rules.specs.Refusals.{has_name}
use Rattle.sz_check_rules.specs.Names.{Block, Meaning, meaning_of}
use Rattle.sz_check_rules.specs.Names as names

-- whether a name calls what emits, by what it stands for
abbrev pub means_emitting : Option Meaning → Bool
means_emitting (Some (names.function n s)) = s.emits
means_emitting _ = false

-- whether a name calls what emits, where these blocks are known
abbrev pub emits_by : List Block → List ℕ → Bool
emits_by blocks name = means_emitting (meaning_of name blocks)

-- whether the variable is one that the statement inside a `when` sees
abbrev pub is_seen_inside : Quantity → Bool
is_seen_inside quantities.All = false
is_seen_inside _ = true

-- the names of identifiers
abbrev pub texts_of : List Ident → List (List ℕ)
texts_of = map (λ (n : Ident). n.text)

-- the names that quantifiers hide: all in the condition, and inside those that the statement inside sees
abbrev pub quantified_names : (inside : Bool) → List QuantifierForm → List (List ℕ)
quantified_names inside [] = []
quantified_names inside (q ∷ qs) =
    (if not inside || is_seen_inside q.quantity then texts_of q.names else []) ++ quantified_names inside qs

-- the names that are hidden after the first part of a `for`
abbrev pub hidden_after_first : List (List ℕ) → Option FirstForm → List (List ℕ)
hidden_after_first h (Some (first_declare n t e)) = h ++ n.text ∷ []
hidden_after_first h (Some (first_define n e)) = h ++ n.text ∷ []
hidden_after_first h _ = h

-- the names that are hidden after a statement
abbrev pub hidden_after : List (List ℕ) → Stm → List (List ℕ)
hidden_after h (declare n t e) = h ++ n.text ∷ []
hidden_after h (define n e) = h ++ n.text ∷ []
hidden_after h _ = h

-- which names call what emits
module _ (emits : List ℕ → Bool) where
  -- whether the name calls what emits, where variables have these names
  abbrev pub calls : List (List ℕ) → List ℕ → Bool
  calls hidden name = emits name && not (has_name name hidden)

  unfoldable mutual
    -- whether evaluating the expression can emit
    pub exp_emits : List (List ℕ) → Exp → Bool
    exp_emits h (literal p l) = false
    exp_emits h (named n) = false
    exp_emits h (call n es) = calls h n.text || exps_emit h es
    exp_emits h (def p e) = exp_emits h e
    exp_emits h (paren p e) = exp_emits h e
    exp_emits h (convert p b e) = exp_emits h e
    exp_emits h (list p es) = exps_emit h es
    exp_emits h (mapping p ps) = pairs_emit h ps
    exp_emits h (index p e i) = exp_emits h e || exp_emits h i
    exp_emits h (slice p e i j) = exp_emits h e || exp_emits h i || exp_emits h j
    exp_emits h (field p e n) = exp_emits h e
    exp_emits h (unary p o e) = exp_emits h e
    exp_emits h (binary p o l r) = exp_emits h l || exp_emits h r

    pub exps_emit : List (List ℕ) → Exps → Bool
    exps_emit h end = false
    exps_emit h (more e es) = exp_emits h e || exps_emit h es

    pub pairs_emit : List (List ℕ) → Pairs → Bool
    pairs_emit h no_pairs = false
    pairs_emit h (pair k v ps) = exp_emits h k || exp_emits h v || pairs_emit h ps

  -- whether an expression that may be missing can emit
  abbrev pub part_emits : List (List ℕ) → Option Exp → Bool
  part_emits h None = false
  part_emits h (Some e) = exp_emits h e

  -- whether an index among the steps can emit
  unfoldable pub steps_emit : List (List ℕ) → List StepForm → Bool
  steps_emit h [] = false
  steps_emit h (at_index e ∷ steps) = exp_emits h e || steps_emit h steps
  steps_emit h (at_field n ∷ steps) = steps_emit h steps

  -- whether an assignment or a call can emit
  abbrev pub simple_emits : List (List ℕ) → SimpleForm → Bool
  simple_emits h (assign path e) = steps_emit h path.steps || exp_emits h e
  simple_emits h (increment n) = false
  simple_emits h (decrement n) = false
  simple_emits h (call_of n es) = calls h n.text || exps_emit h es

  abbrev pub between_emits : List (List ℕ) → Option SimpleForm → Bool
  between_emits h None = false
  between_emits h (Some s) = simple_emits h s

  -- whether the first part of a `for` can emit
  abbrev pub first_emits : List (List ℕ) → Option FirstForm → Bool
  first_emits h None = false
  first_emits h (Some (first_declare n t e)) = exp_emits h e
  first_emits h (Some (first_define n e)) = exp_emits h e
  first_emits h (Some (first_simple s)) = simple_emits h s

  -- whether the turns of a `for` can emit: by its test, by what is done between them, or by what is done in them
  abbrev pub turns_emit : List (List ℕ) → Option Exp → Option SimpleForm → Bool → Bool
  turns_emit h c between body = part_emits h c || between_emits h between || body

  unfoldable mutual
    -- whether the statement can emit; what may not stand where other statements are emits nothing
    pub stm_emits : List (List ℕ) → Stm → Bool
    stm_emits h (block p ss) = stms_emit h ss
    stm_emits h (declare n t e) = part_emits h e
    stm_emits h (define n e) = exp_emits h e
    stm_emits h (simple s) = simple_emits h s
    stm_emits h (if_only p c s) = exp_emits h c || stm_emits h s
    stm_emits h (if_else p c s t) = exp_emits h c || stm_emits h s || stm_emits h t
    stm_emits h (while p c s) = exp_emits h c || stm_emits h s
    stm_emits h (do_while p s c) = stm_emits h s || exp_emits h c
    stm_emits h (for_loop p f c between s) =
        first_emits h f || turns_emit (hidden_after_first h f) c between (stm_emits (hidden_after_first h f) s)
    stm_emits h (return p e) = part_emits h e
    stm_emits h (emit p n es e w) = true
    stm_emits h (when p qs c s) =
        exp_emits (h ++ quantified_names false qs) c || stm_emits (h ++ quantified_names true qs) s
    stm_emits h _ = false

    pub stms_emit : List (List ℕ) → Stms → Bool
    stms_emit h no_stms = false
    stms_emit h (stm s ss) = stm_emits h s || stms_emit (hidden_after h s) ss

  -- a `for`, and a `when`
  abbrev pub for_emits : List (List ℕ) → Option FirstForm → Option Exp → Option SimpleForm → Stm → Bool
  for_emits h f c between s =
      first_emits h f || turns_emit (hidden_after_first h f) c between (stm_emits (hidden_after_first h f) s)

  abbrev pub when_emits : List (List ℕ) → List QuantifierForm → Exp → Stm → Bool
  when_emits h qs c s = exp_emits (h ++ quantified_names false qs) c || stm_emits (h ++ quantified_names true qs) s
