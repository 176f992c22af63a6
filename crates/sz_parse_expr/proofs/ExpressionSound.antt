-- What is read as an expression is spelled so.
use Rattle.std.proofs.Common.{◌≡◌, ℕ, zero, suc, ◌≤◌, ◌<◌, List, [], ◌∷◌, Option, Some, None, refl}
use Rattle.std.proofs.Common.{ap, arith}
use Rattle.std.proofs.lemmas.Bool.{leb-true, eqb-true}
use Rattle.sz_types.specs.declared.place.Place.{Place}
use Rattle.sz_lex.specs.declared.token.Token.{Token}
use Rattle.sz_lex.specs.declared.token.Kind.{Kind}
use Rattle.sz_lex.specs.declared.token.Kind.TheVariants as kinds
use Rattle.sz_lex.specs.declared.sign.Sign.{Sign}
use Rattle.sz_lex.specs.declared.sign.Sign.TheVariants as signs
use Rattle.sz_tree.specs.declared.operator.UnaryOp.{UnaryOp}
use Rattle.sz_tree.specs.declared.operator.BinaryOp.{BinaryOp}
use Rattle.sz_tree.specs.Expressions.{Exp}
use Rattle.sz_tree.specs.Expressions.{binary, place_of, loose_of, left_loose}
use Rattle.sz_tree.specs.Expressions.{loose, height}
use Rattle.sz_parse_expr.specs.Tokens.{Spelling, token, At, IsSign}
use Rattle.sz_parse_expr.specs.Expressions.{sign_of, unary_sign, Reads}
use Rattle.sz_parse_expr.specs.ReadingExpressions.{Sub, sign_unary, unary_of, sign_binary, binary_of, operator_here, operator_at}
use Rattle.sz_parse_expr.specs.ReadingExpressions.{unary_at, postfix_at, prefix_at, chain_at, level_at, expr_at}
use Rattle.sz_parse_expr.proofs.Holds.{Holds, some_holds, none_holds, bind_holds, choose_holds, guard_holds, if_holds, weaker}
use Rattle.sz_parse_expr.proofs.PostfixSound.{Parsed, IsSound, ParsedTight, primary_sound, tight_of, tail_sound}

-- ---- operators

sign_unary_sound : (s : Sign) → Holds (sign_unary s) (λ o. s ≡ unary_sign o)
sign_unary_sound signs.Minus = some_holds _ _ refl
sign_unary_sound signs.Plus = some_holds _ _ refl
sign_unary_sound signs.Not = some_holds _ _ refl
sign_unary_sound signs.Tilde = some_holds _ _ refl
sign_unary_sound _ = none_holds _

unary_of_sound : (k : Kind) → Holds (unary_of k) (λ o. k ≡ kinds.Sign (unary_sign o))
unary_of_sound (kinds.Sign s) = weaker (sign_unary_sound s) (λ o e. ap kinds.Sign e)
unary_of_sound _ = none_holds _

pub sign_binary_sound : (s : Sign) → Holds (sign_binary s) (λ o. s ≡ sign_of o)
sign_binary_sound signs.OrOr = some_holds _ _ refl
sign_binary_sound signs.AndAnd = some_holds _ _ refl
sign_binary_sound signs.EqualEqual = some_holds _ _ refl
sign_binary_sound signs.NotEqual = some_holds _ _ refl
sign_binary_sound signs.Less = some_holds _ _ refl
sign_binary_sound signs.LessEqual = some_holds _ _ refl
sign_binary_sound signs.Greater = some_holds _ _ refl
sign_binary_sound signs.GreaterEqual = some_holds _ _ refl
sign_binary_sound signs.Plus = some_holds _ _ refl
sign_binary_sound signs.Minus = some_holds _ _ refl
sign_binary_sound signs.Or = some_holds _ _ refl
sign_binary_sound signs.Caret = some_holds _ _ refl
sign_binary_sound signs.Star = some_holds _ _ refl
sign_binary_sound signs.Slash = some_holds _ _ refl
sign_binary_sound signs.Percent = some_holds _ _ refl
sign_binary_sound signs.ShiftLeft = some_holds _ _ refl
sign_binary_sound signs.ShiftRight = some_holds _ _ refl
sign_binary_sound signs.And = some_holds _ _ refl
sign_binary_sound _ = none_holds _

binary_of_sound : (k : Kind) → Holds (binary_of k) (λ o. k ≡ kinds.Sign (sign_of o))
binary_of_sound (kinds.Sign s) = weaker (sign_binary_sound s) (λ o e. ap kinds.Sign e)
binary_of_sound _ = none_holds _

-- an operator of this level and what follows it
pub record ParsedOperator (l : ℕ) (ts : List Token) (o : BinaryOp × List Token) : Type 0 where
  pub sign : IsSign (sign_of o.0) ts o.1
  pub level : loose_of o.0 ≡ l

operator_here_sound : (l : ℕ) (m : Option BinaryOp) (t : Token) (ts : List Token)
    → Holds m (λ o. t.kind ≡ kinds.Sign (sign_of o)) → Holds (operator_here l m ts) (ParsedOperator l (t ∷ ts))
operator_here_sound l (Some o) t ts h = if_holds _ _ _ (λ q. record {
  sign = record {
    place = t.place;
    start = t.start;
    len = t.len;
    is = ap (λ (k : Kind). token k t.place t.start t.len ∷ ts) (h.holds o refl);
  };
  level = eqb-true _ _ q;
})
operator_here_sound l None t ts h = none_holds _

pub operator_sound : (l : ℕ) (ts : List Token) → Holds (operator_at l ts) (ParsedOperator l ts)
unfolding operator_at
operator_sound l [] = none_holds _
operator_sound l (t ∷ ts) = operator_here_sound l (binary_of t.kind) t ts (binary_of_sound t.kind)

parsed_of : (text : Spelling) (d : ℕ) (ts : List Token) (x : Exp × List Token) → ParsedTight text d ts x
    → Parsed text d 0 ts x
parsed_of text d ts x g = record { reads = g.reads; low = g.low; tight = tight_of x.0 g.postfix }

module _ (text : Spelling) (sub : Sub) (d : ℕ) (h : IsSound text sub d) where
  unary_sound : (ts0 : List Token) (p : Place) (o : UnaryOp) (ts : List Token) → At p (kinds.Sign (unary_sign o)) ts0 ts
      → Holds (unary_at sub p o ts) (Parsed text (suc d) 0 ts0)
  unfolding unary_at Reads height
  unary_sound ts0 p o ts at =
      bind_holds (h 0 ts) (λ x g.
      some_holds _ _ (record { reads = (ts, at, g.tight, g.reads); low = omega (arith, g.low); tight = omega arith }))

  prefix_sound : (ts : List Token) → Holds (prefix_at text sub d ts) (Parsed text (suc d) 0 ts)
  unfolding prefix_at postfix_at
  prefix_sound [] = none_holds _
  prefix_sound (t ∷ ts) =
      choose_holds (unary_of_sound t.kind)
      (bind_holds (primary_sound text sub d h t ts)
      (λ x g. weaker (tail_sound text sub d h (suc d) x.0 (t ∷ ts) x.1 g) (parsed_of text (suc d) (t ∷ ts))))
      (λ o e. unary_sound (t ∷ ts) t.place o ts
      (record { start = t.start; len = t.len; is = ap (λ (k : Kind). token k t.place t.start t.len ∷ ts) e }))

  chain_sound : (l k : ℕ) (e : Exp) (ts0 ts : List Token) → Parsed text (suc d) (suc l) ts0 (e, ts)
      → Holds (chain_at sub d l k e ts) (Parsed text (suc d) (suc l) ts0)
  unfolding chain_at Reads height
  chain_sound l zero e ts0 ts g = some_holds _ _ g
  chain_sound l (suc k) e ts0 ts g =
      choose_holds (operator_sound (suc l) ts) (some_holds _ _ g)
      (λ o go. guard_holds (λ t. guard_holds (λ u. bind_holds (h l o.1) (λ x gx.
      let left : loose e ≤ left_loose o.0 = leb-true _ _ t in
      let low : height e ≤ d = leb-true _ _ u in
      let right : loose x.0 < loose_of o.0 = omega (arith, gx.tight, go.level) in
      chain_sound l k (binary (place_of e) o.0 e x.0) ts0 x.1
      (record {
        reads = (ts, o.1, refl, left, g.reads, go.sign, right, gx.reads);
        low = omega (arith, gx.low);
        tight = omega (arith, go.level);
      })))))

  level_sound : (l : ℕ) (ts : List Token) → Holds (level_at text sub d l ts) (Parsed text (suc d) l ts)
  unfolding level_at
  level_sound zero ts = prefix_sound ts
  level_sound (suc l) ts =
      bind_holds (level_sound l ts) (λ x g.
      chain_sound l (suc d) x.0 ts x.1 (record { reads = g.reads; low = g.low; tight = omega (arith, g.tight) }))

pub expr_sound : (text : Spelling) (d : ℕ) → IsSound text (expr_at text d) d
unfolding expr_at
expr_sound text zero l ts = none_holds _
expr_sound text (suc d) l ts = level_sound text (expr_at text d) d (expr_sound text d) l ts
