-- The loops of the expressions, turn by turn.
use Rattle.std.proofs.Common.{◌≡◌, ◌⊎◌, ℕ, zero, suc, ◌+◌, ◌-◌, ◌≤◌, ◌<◌, add-one, nat_le, Bool, true, false, List, [], Option}
use Rattle.std.proofs.Common.{Some, None, refl, sym, ◌∙◌, arith, inl, inr}
use Rattle.std.proofs.lemmas.Bool.{le-leb, lt-leb}
use Rattle.sz_lex.specs.declared.token.Token.{Token}
use Rattle.sz_lex.specs.declared.sign.Sign.TheVariants as signs
use Rattle.sz_tree.specs.declared.operator.BinaryOp.{BinaryOp}
use Rattle.sz_tree.specs.Expressions.{Exp, binary, place_of, left_loose, loose, height}
use Rattle.sz_parse_expr.specs.Tokens.{Spelling}
use Rattle.sz_parse_expr.specs.declared.failed.Failed.{Failed}
use Rattle.sz_parse_expr.specs.Reading.{Read, bind, choose, guard, after_sign}
use Rattle.sz_parse_expr.specs.ReadingExpressions.{Sub, operator_at, chain_at, part_step, part_at, tail_at, comma_step, pair_at, pair_step}
use Rattle.sz_parse_expr.specs.Outcome.{Fails}
use Rattle.sz_parse_expr.proofs.Steps.{bind_step, choose_some, choose_none, guard_step, guard_false, true_or_false}
use Rattle.sz_parse_expr.proofs.Loops.{fails_bind, fails_same}

-- a turn at an operator
chain_turn : (sub : Sub) (d l i n : ℕ) (e : Exp) (ts after : List Token) (o : BinaryOp) (r : Read Exp) → i < n
    → operator_at (l + 1) ts ≡ Some (o, after) → loose e ≤ left_loose o → height e ≤ d
    → bind (sub l after) (λ x. chain_at sub d l (n - (i + 1)) (binary (place_of e) o e x.0) x.1) ≡ r
    → chain_at sub d l (n - i) e ts ≡ r
unfolding chain_at
chain_turn sub d l i n e ts after o r lt op left low h =
    let k : n - i ≡ suc (n - (i + 1)) = omega arith in
    let op' : operator_at (suc l) ts ≡ Some (o, after) = rw (← add-one l) op in
    rw k (choose_some _ _ _ _ _ op' (guard_step _ _ _ (le-leb _ _ left) (guard_step _ _ _ (le-leb _ _ low) h)))

pub chain_goes_on : (sub : Sub) (d l i n : ℕ) (e x : Exp) (ts after rest : List Token) (o : BinaryOp) (r : Read Exp)
    → i < n → operator_at (l + 1) ts ≡ Some (o, after) → loose e ≤ left_loose o → height e ≤ d
    → sub l after ≡ Some (x, rest) → chain_at sub d l (n - i) e ts ≡ r
    → chain_at sub d l (n - (i + 1)) (binary (place_of e) o e x) rest ≡ r
chain_goes_on sub d l i n e x ts after rest o r lt op left low h so_far =
    sym (chain_turn sub d l i n e ts after o _ lt op left low (bind_step _ _ _ _ h refl)) ∙ so_far

pub chain_fails : (f : Failed) (sub : Sub) (d l i n : ℕ) (e : Exp) (ts after : List Token) (o : BinaryOp)
    (r : Read Exp) → i < n → operator_at (l + 1) ts ≡ Some (o, after) → loose e ≤ left_loose o → height e ≤ d
    → Fails f (sub l after) → chain_at sub d l (n - i) e ts ≡ r → Fails f r
chain_fails f sub d l i n e ts after o r lt op left low h so_far =
    fails_same f _ _ (sym (chain_turn sub d l i n e ts after o _ lt op left low refl) ∙ so_far)
    (fails_bind f (sub l after) _ h)

pub chain_refused : (sub : Sub) (d l i n : ℕ) (e : Exp) (ts after : List Token) (o : BinaryOp) (r : Read Exp) → i < n
    → operator_at (l + 1) ts ≡ Some (o, after) → (left_loose o < loose e) ⊎ (d < height e)
    → chain_at sub d l (n - i) e ts ≡ r → r ≡ None
unfolding chain_at
chain_refused sub d l i n e ts after o r lt op high so_far =
    sym so_far ∙ rw k (choose_some _ _ _ _ _ op' (refused _ high))
  where
    k : n - i ≡ suc (n - (i + 1))
    k = omega arith

    op' : operator_at (suc l) ts ≡ Some (o, after)
    op' = rw (← add-one l) op

    refused : (y : Read Exp) → (left_loose o < loose e) ⊎ (d < height e)
        → guard (nat_le (loose e) (left_loose o)) (guard (nat_le (height e) d) y) ≡ None
    refused y (inl far) = guard_false _ _ (lt-leb _ _ far)
    refused y (inr high) =
        elim (true_or_false (nat_le (loose e) (left_loose o))) [
          | inl t ↦ guard_step _ _ _ t (guard_false _ _ (lt-leb _ _ high))
          | inr f ↦ guard_false _ _ f
        ]

-- where no operator is left
pub chain_ends : (sub : Sub) (d l k : ℕ) (e : Exp) (ts : List Token) → operator_at (l + 1) ts ≡ None
    → chain_at sub d l k e ts ≡ Some (e, ts)
unfolding chain_at
chain_ends sub d l zero e ts none = refl
chain_ends sub d l (suc k) e ts none = choose_none _ _ _ _ (rw (← add-one l) none) refl

-- where no turn is left
pub chain_over : (sub : Sub) (d l i n : ℕ) (e : Exp) (ts : List Token) → n ≤ i
    → chain_at sub d l (n - i) e ts ≡ Some (e, ts)
unfolding chain_at
chain_over sub d l i n e ts le = let k : n - i ≡ 0 = omega arith in rw k refl

-- ---- indices, slices and fields

-- what a turn gives: another part, or the end
after_part : (text : Spelling) (sub : Sub) (d k : ℕ) → (Exp × Bool) × List Token → Read Exp
after_part text sub d k ((x, true), rest) = tail_at text sub d k x rest
after_part text sub d k ((x, false), rest) = Some (x, rest)

tail_turn : (text : Spelling) (sub : Sub) (d k : ℕ) (e : Exp) (ts : List Token)
    → tail_at text sub d (suc k) e ts ≡ bind (part_at text sub d e ts) (after_part text sub d k)
unfolding tail_at part_at bind after_part guard choose
tail_turn text sub d k e ts = go (part_step text sub e ts) (nat_le (height e) d)
  where
    inside : (r : Read Exp) (b : Bool)
        → guard b (bind r (λ x. tail_at text sub d k x.0 x.1))
        ≡ bind (guard b (bind r (λ x. Some ((x.0, true), x.1)))) (after_part text sub d k)
    inside (Some x) true = refl
    inside None true = refl
    inside r false = refl

    go : (o : Option (Read Exp)) (b : Bool)
        → choose o (Some (e, ts)) (λ r. guard b (bind r (λ x. tail_at text sub d k x.0 x.1))) ≡ bind
        (choose o (Some ((e, false), ts)) (λ r. guard b (bind r (λ x. Some ((x.0, true), x.1)))))
        (after_part text sub d k)
    go (Some r) b = inside r b
    go None b = refl

pub tail_goes_on : (text : Spelling) (sub : Sub) (d i n : ℕ) (e x : Exp) (b : Bool) (ts rest : List Token)
    (r : Read Exp) → i < n → b ≡ true → part_at text sub d e ts ≡ Some ((x, b), rest)
    → tail_at text sub d (n - i) e ts ≡ r → tail_at text sub d (n - (i + 1)) x rest ≡ r
unfolding after_part
tail_goes_on text sub d i n e x false ts rest r lt is h so_far = absurd cc
tail_goes_on text sub d i n e x true ts rest r lt is h so_far =
    let k : n - i ≡ suc (n - (i + 1)) = omega arith in
    let here : tail_at text sub d (suc (n - (i + 1))) e ts ≡ r = rw (← k) so_far in
    sym (bind_step _ _ _ _ h refl) ∙ sym (tail_turn text sub d (n - (i + 1)) e ts) ∙ here

pub tail_stops : (text : Spelling) (sub : Sub) (d i n : ℕ) (e x : Exp) (b : Bool) (ts rest : List Token)
    (r : Read Exp) → i < n → b ≡ false → part_at text sub d e ts ≡ Some ((x, b), rest)
    → tail_at text sub d (n - i) e ts ≡ r → r ≡ Some (x, rest)
unfolding after_part
tail_stops text sub d i n e x true ts rest r lt is h so_far = absurd cc
tail_stops text sub d i n e x false ts rest r lt is h so_far =
    let k : n - i ≡ suc (n - (i + 1)) = omega arith in
    let here : tail_at text sub d (suc (n - (i + 1))) e ts ≡ r = rw (← k) so_far in
    sym here ∙ tail_turn text sub d (n - (i + 1)) e ts ∙ bind_step _ _ _ _ h refl

pub tail_fails : (f : Failed) (text : Spelling) (sub : Sub) (d i n : ℕ) (e : Exp) (ts : List Token) (r : Read Exp)
    → i < n → Fails f (part_at text sub d e ts) → tail_at text sub d (n - i) e ts ≡ r → Fails f r
tail_fails f text sub d i n e ts r lt h so_far =
    let k : n - i ≡ suc (n - (i + 1)) = omega arith in
    let here : tail_at text sub d (suc (n - (i + 1))) e ts ≡ r = rw (← k) so_far in
    fails_same f _ _ (sym (tail_turn text sub d (n - (i + 1)) e ts) ∙ here) (fails_bind f _ _ h)

pub tail_over : (text : Spelling) (sub : Sub) (d i n : ℕ) (e : Exp) (ts : List Token) → n ≤ i
    → tail_at text sub d (n - i) e ts ≡ Some (e, ts)
unfolding tail_at
tail_over text sub d i n e ts le = let k : n - i ≡ 0 = omega arith in rw k refl

-- ---- items with a comma before each

pub comma_here : (sub : Sub) (ts after : List Token) → after_sign signs.Comma ts ≡ Some after
    → comma_step sub ts ≡ Some (sub 5 after)
unfolding comma_step
comma_here sub ts after c = choose_some _ _ _ _ _ c refl

pub comma_gone : (sub : Sub) (ts : List Token) → after_sign signs.Comma ts ≡ None → comma_step sub ts ≡ None
unfolding comma_step
comma_gone sub ts c = choose_none _ _ _ _ c refl

pub pair_here : (sub : Sub) (ts after : List Token) → after_sign signs.Comma ts ≡ Some after
    → pair_step sub ts ≡ Some (pair_at sub after)
unfolding pair_step
pair_here sub ts after c = choose_some _ _ _ _ _ c refl

pub pair_gone : (sub : Sub) (ts : List Token) → after_sign signs.Comma ts ≡ None → pair_step sub ts ≡ None
unfolding pair_step
pair_gone sub ts c = choose_none _ _ _ _ c refl

pub no_comma_at_end : (sub : Sub) → comma_step sub [] ≡ None
unfolding comma_step after_sign choose
no_comma_at_end sub = refl

pub no_pair_at_end : (sub : Sub) → pair_step sub [] ≡ None
unfolding pair_step after_sign choose
no_pair_at_end sub = refl
