-- An expression is read as it is spelled.
use Rattle.std.proofs.Common.{◌≡◌, ◌⊎◌, ℕ, zero, suc, ◌+◌, ◌≤◌, ◌<◌, true, false, List, ◌∷◌, Some, None}
use Rattle.std.proofs.Common.{refl, ◌∙◌, arith, inl, inr}
use Rattle.std.proofs.lemmas.Bool.{le-leb, cases_lt}
use Rattle.sz_types.specs.declared.place.Place.{Place}
use Rattle.sz_lex.specs.declared.token.Token.{Token}
use Rattle.sz_lex.specs.declared.sign.Sign.TheVariants as signs
use Rattle.sz_tree.specs.declared.operator.BinaryOp.{BinaryOp}
use Rattle.sz_tree.specs.Expressions.{Lit, number, string, bytes, character, boolean, Exp, literal, named, call, def, paren, convert, list}
use Rattle.sz_tree.specs.Expressions.{mapping, index, slice, field, unary, binary}
use Rattle.sz_tree.specs.Expressions.{place_of, loose_of, left_loose, loose, height, IsPostfix}
use Rattle.sz_parse_expr.specs.Tokens.{Spelling, IsSign, IsLiteral}
use Rattle.sz_parse_expr.specs.Expressions.{sign_of, Reads}
use Rattle.sz_parse_expr.specs.ReadingExpressions.{Sub, unary_of}
use Rattle.sz_parse_expr.specs.ReadingExpressions.{part_step, tail_at}
use Rattle.sz_parse_expr.specs.ReadingExpressions.{unary_at, postfix_at, prefix_at, chain_at, level_at, expr_at}
use Rattle.sz_parse_expr.proofs.Steps.{bind_step, choose_some, choose_none, guard_step}
use Rattle.sz_parse_expr.proofs.PostfixSound.{IsSound, height_positive}
use Rattle.sz_parse_expr.proofs.ExpressionSound.{expr_sound}
use Rattle.sz_parse_expr.proofs.OperatorLemmas.{grip, grip_is, no_grip, looseness, unary_of_sign, operator_is, operator_none}
use Rattle.sz_parse_expr.proofs.PostfixComplete.{IsComplete, postfix_complete}

-- ---- levels

-- such an expression begins with no sign of a unary operator
literal_first : (text : Spelling) (l : Lit) (t : Token) → IsLiteral text l t → unary_of t.kind ≡ None
literal_first text (number n) t h = rw h refl
literal_first text (string v) t h = rw h.0 refl
literal_first text (bytes v) t h = rw h.0 refl
literal_first text (character c) t h = rw h refl
literal_first text (boolean true) t h = rw h refl
literal_first text (boolean false) t h = rw h refl

postfix_first : (text : Spelling) (e : Exp) (ts rest : List Token) → IsPostfix e → Reads text e ts rest
    → (t : Token) × (more : List Token) × (ts ≡ t ∷ more) × (unary_of t.kind ≡ None)
unfolding Reads
postfix_first text (literal p l) ts rest post h = (h.here, _, h.is, literal_first text l h.here h.means)
postfix_first text (named n) ts rest post h = (_, _, h.is, refl)
postfix_first text (call n es) ts rest post h = (_, _, h.3.is, refl)
postfix_first text (def p e) ts rest post h = (_, _, h.3.is, refl)
postfix_first text (paren p e) ts rest post h = (_, _, h.2.is, refl)
postfix_first text (convert p t e) ts rest post h = (_, _, h.4.is, refl)
postfix_first text (list p es) ts rest post h = (_, _, h.2.is, refl)
postfix_first text (mapping p ps) ts rest post h = (_, _, h.2.is, refl)
postfix_first text (unary p o e) ts rest post h = absurd post
postfix_first text (binary p o l r) ts rest post h = absurd post
postfix_first text (index p e i) ts rest post h = postfix_first text e ts _ h.4 h.5
postfix_first text (slice p e i j) ts rest post h = postfix_first text e ts _ h.6 h.7
postfix_first text (field p e n) ts rest post h = postfix_first text e ts _ h.3 h.4

no_part : (text : Spelling) (sub : Sub) (e : Exp) (ts : List Token) → 0 < grip ts → part_step text sub e ts ≡ None
unfolding part_step
no_part text sub e ts g =
    choose_none _ _ _ _ (no_grip signs.OpenBracket ts refl g) (choose_none _ _ _ _ (no_grip signs.Dot ts refl g) refl)

-- the left operand and what follows it
pub record Chained (text : Spelling) (sub : Sub) (d l : ℕ) (ts rest : List Token) (e : Exp) : Type 0 where
  pub turns : ℕ
  pub enough : suc d ≤ turns + height e
  pub reached : level_at text sub d (suc l) ts ≡ chain_at sub d l turns e rest

-- what a level reads completely
abbrev IsLevel : Spelling → Sub → ℕ → ℕ → Type 0
IsLevel text sub d l =
    (e : Exp) (ts rest : List Token) → Reads text e ts rest → height e ≤ suc d → loose e ≤ l → l < grip rest
    → level_at text sub d l ts ≡ Some (e, rest)

module _ (text : Spelling) (sub : Sub) (d : ℕ) (s : IsSound text sub d) (h : IsComplete text sub d) where
  prefix_postfix : (e : Exp) (ts rest : List Token) → IsPostfix e → Reads text e ts rest
      → height e ≤ suc d → 0 < grip rest → prefix_at text sub d ts ≡ Some (e, rest)
  unfolding prefix_at tail_at
  prefix_postfix e ts rest post re low g =
      let first = postfix_first text e ts rest post re in
      let r = postfix_complete text sub d s h e ts rest post re low (no_grip signs.OpenParen rest refl g) in
      let is : prefix_at text sub d ts ≡ postfix_at text sub d ts = rw first.2 (choose_none _ _ _ _ first.3 refl) in
      is ∙ r.reached ∙ stops r.turns
    where
      stops : (k : ℕ) → tail_at text sub d k e rest ≡ Some (e, rest)
      stops zero = refl
      stops (suc k) = choose_none _ _ _ _ (no_part text sub e rest g) refl

  prefix_complete : (e : Exp) (ts rest : List Token) → Reads text e ts rest → height e ≤ suc d
      → loose e ≤ 0 → 0 < grip rest → prefix_at text sub d ts ≡ Some (e, rest)
  unfolding Reads height prefix_at unary_at
  prefix_complete (unary p o e) ts rest re low tight g =
      rw re.1.is
      (choose_some _ _ _ _ _ (unary_of_sign o) (bind_step _ _ _ _ (h 0 e re.0 rest re.3 (omega arith) re.2 g) refl))
  prefix_complete (binary p o l r) ts rest re low tight g = absurd (omega (arith, (looseness o).least, tight))
  prefix_complete (literal p l) ts rest re low tight g = prefix_postfix (literal p l) ts rest tt re low g
  prefix_complete (named n) ts rest re low tight g = prefix_postfix (named n) ts rest tt re low g
  prefix_complete (call n es) ts rest re low tight g = prefix_postfix (call n es) ts rest tt re low g
  prefix_complete (def p e) ts rest re low tight g = prefix_postfix (def p e) ts rest tt re low g
  prefix_complete (paren p e) ts rest re low tight g = prefix_postfix (paren p e) ts rest tt re low g
  prefix_complete (convert p t e) ts rest re low tight g = prefix_postfix (convert p t e) ts rest tt re low g
  prefix_complete (list p es) ts rest re low tight g = prefix_postfix (list p es) ts rest tt re low g
  prefix_complete (mapping p ps) ts rest re low tight g = prefix_postfix (mapping p ps) ts rest tt re low g
  prefix_complete (index p e i) ts rest re low tight g = prefix_postfix (index p e i) ts rest tt re low g
  prefix_complete (slice p e i j) ts rest re low tight g = prefix_postfix (slice p e i j) ts rest tt re low g
  prefix_complete (field p e n) ts rest re low tight g = prefix_postfix (field p e n) ts rest tt re low g

  one_operator : (l : ℕ) (p : Place) (o : BinaryOp) (e r : Exp) (ts a b rest : List Token)
      → Chained text sub d l ts a e → loose_of o ≡ suc l → p ≡ place_of e → loose e ≤ left_loose o → height e ≤ d
      → IsSign (sign_of o) a b → loose r < loose_of o → height r ≤ d → Reads text r b rest
      → l < grip rest → Chained text sub d l ts rest (binary p o e r)
  unfolding chain_at height
  one_operator l p o e r ts a b rest c level place left low sign right lowr re g = go c.turns c.enough c.reached
    where
      go : (k : ℕ) → suc d ≤ k + height e → level_at text sub d (suc l) ts ≡ chain_at sub d l k e a
          → Chained text sub d l ts rest (binary p o e r)
      go zero enough reached = absurd (omega arith)
      go (suc k) enough reached = record {
        turns = k;
        enough = omega arith;
        reached = rw place (reached
            ∙ choose_some _ _ _ _ _ (operator_is o (suc l) a b sign level)
            (guard_step _ _ _ (le-leb _ _ left)
            (guard_step _ _ _ (le-leb _ _ low) (bind_step _ _ _ _ (h l r b rest re lowr (omega arith) g) refl))));
      }

  level_step : (l : ℕ) (e : Exp) (ts rest : List Token) → level_at text sub d l ts ≡ Some (e, rest)
      → Chained text sub d l ts rest e
  unfolding level_at
  level_step l e ts rest h = record { turns = suc d; enough = omega arith; reached = bind_step _ _ _ _ h refl }

  chain_stops : (l k : ℕ) (e : Exp) (rest : List Token) → suc l < grip rest → chain_at sub d l k e rest ≡ Some (e, rest)
  unfolding chain_at
  chain_stops l zero e rest g = refl
  chain_stops l (suc k) e rest g = choose_none _ _ _ _ (operator_none (suc l) rest g) refl

  chosen_level : (l : ℕ) → IsLevel text sub d l
      → (p : Place) (o : BinaryOp) (e r : Exp) (ts rest : List Token) (re : Reads text (binary p o e r) ts rest)
      → height (binary p o e r) ≤ suc d → loose_of o ≤ suc l → l < grip rest
      → (l < loose_of o → Chained text sub d l ts (unfold Reads in re.0) e) → (l < loose_of o) ⊎ (loose_of o ≤ l)
      → Chained text sub d l ts rest (binary p o e r)
  unfolding Reads height
  chosen_level l below p o e r ts rest re low tight g c (inr le) =
      level_step l _ ts rest (below (binary p o e r) ts rest re low le g)
  chosen_level l below p o e r ts rest re low tight g c (inl lt) =
      one_operator l p o e r ts re.0 re.1 rest (c lt)
      (omega arith) re.2 re.3 (omega arith) re.5 re.6 (omega arith) re.7 g

  chain_complete : (l : ℕ) → IsLevel text sub d l → (e : Exp) (ts rest : List Token) → Reads text e ts rest
      → height e ≤ suc d → loose e ≤ suc l → l < grip rest → Chained text sub d l ts rest e
  unfolding Reads height
  chain_complete l below (binary p o e r) ts rest re low tight g =
      chosen_level l below p o e r ts rest re low tight g
      (λ lt. chain_complete l below e ts re.0 re.4 (omega arith) (omega (arith, re.3, (looseness o).left))
      (omega (arith, grip_is (sign_of o) re.0 re.1 re.5, (looseness o).grips)))
      (cases_lt l (loose_of o))
  chain_complete l below (literal p m) ts rest re low tight g =
      level_step l _ ts rest (below (literal p m) ts rest re low (omega arith) g)
  chain_complete l below (named n) ts rest re low tight g =
      level_step l _ ts rest (below (named n) ts rest re low (omega arith) g)
  chain_complete l below (call n es) ts rest re low tight g =
      level_step l _ ts rest (below (call n es) ts rest re low (omega arith) g)
  chain_complete l below (def p e) ts rest re low tight g =
      level_step l _ ts rest (below (def p e) ts rest re low (omega arith) g)
  chain_complete l below (paren p e) ts rest re low tight g =
      level_step l _ ts rest (below (paren p e) ts rest re low (omega arith) g)
  chain_complete l below (convert p t e) ts rest re low tight g =
      level_step l _ ts rest (below (convert p t e) ts rest re low (omega arith) g)
  chain_complete l below (list p es) ts rest re low tight g =
      level_step l _ ts rest (below (list p es) ts rest re low (omega arith) g)
  chain_complete l below (mapping p ps) ts rest re low tight g =
      level_step l _ ts rest (below (mapping p ps) ts rest re low (omega arith) g)
  chain_complete l below (unary p o e) ts rest re low tight g =
      level_step l _ ts rest (below (unary p o e) ts rest re low (omega arith) g)
  chain_complete l below (index p e i) ts rest re low tight g =
      level_step l _ ts rest (below (index p e i) ts rest re low (omega arith) g)
  chain_complete l below (slice p e i j) ts rest re low tight g =
      level_step l _ ts rest (below (slice p e i j) ts rest re low (omega arith) g)
  chain_complete l below (field p e n) ts rest re low tight g =
      level_step l _ ts rest (below (field p e n) ts rest re low (omega arith) g)

  level_complete : (l : ℕ) → IsLevel text sub d l
  unfolding level_at
  level_complete zero e ts rest re low tight g = prefix_complete e ts rest re low tight g
  level_complete (suc l) e ts rest re low tight g =
      let c = chain_complete l (level_complete l) e ts rest re low tight (omega arith) in
      c.reached ∙ chain_stops l c.turns e rest g

pub expr_complete : (text : Spelling) (d : ℕ) → IsComplete text (expr_at text d) d
unfolding expr_at
expr_complete text zero l e ts rest re low tight g = absurd (omega (arith, height_positive e))
expr_complete text (suc d) l e ts rest re low tight g =
    level_complete text (expr_at text d) d (expr_sound text d) (expr_complete text d) l e ts rest re low tight g
