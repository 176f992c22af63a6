-- The loops over digits, and over what is passed over.
use Rattle.std.proofs.Common.{◌≡◌, ℕ, ◌<◌, ◌≤◌, ◌+◌, ◌-◌, Bool, List, [], ◌∷◌, ◌++◌, length, take, drop, get_or, Option, Some, None, refl, sym, ap, ◌∙◌, arith}
use Rattle.std.proofs.lemmas.List.{drop_all, take_all, length-drop, at_drop_more}
use Rattle.sz_protofile_lex.specs.declared.token.Token.{Token}
use Rattle.sz_protofile.specs.declared.brackets.Turn.{Turn}
use Rattle.sz_protofile.specs.declared.brackets.Turn.TheVariants as turns
use Rattle.sz_protofile.specs.Reading.{digits_from, push_digit, bind}
use Rattle.sz_protofile.specs.Brackets.{innermost, outer, at_end, turn_of, taken, past}

-- ---- digits

module _ (base n : ℕ) (run : List ℕ) (i : ℕ) (r : Option ℕ) (so_far : digits_from base n (drop i run) ≡ r) where
  pub digit_fails : i < length run → push_digit base n (get_or run i 0) ≡ None → None ≡ r
  unfolding digits_from bind
  digit_fails lt none =
      let e : digits_from base n (get_or run i 0 ∷ drop (i + 1) run) ≡ None = rw none refl in
      sym e ∙ sym (at_drop_more (digits_from base n) run i 0 lt) ∙ so_far

  pub digit_goes_on : (m : ℕ) → i < length run → push_digit base n (get_or run i 0) ≡ Some m
      → digits_from base m (drop (i + 1) run) ≡ r
  unfolding digits_from bind
  digit_goes_on m lt some =
      let e : digits_from base n (get_or run i 0 ∷ drop (i + 1) run) ≡ digits_from base m (drop (i + 1) run) =
      rw some refl in
      sym e ∙ sym (at_drop_more (digits_from base n) run i 0 lt) ∙ so_far

  pub digits_end : length run ≤ i → Some n ≡ r
  unfolding digits_from
  digits_end le = sym (ap (digits_from base n) (drop_all i run le)) ∙ so_far

-- ---- what is passed over

-- the tokens from i on
pub part_is : (tokens : List Token) (i : ℕ) → take (length tokens - i) (drop i tokens) ≡ drop i tokens
part_is tokens i = take_all (length tokens - i) (drop i tokens) (omega (arith, length-drop i tokens))

module _ (ends : Bool) (tokens : List Token) (i : ℕ) (due : List ℕ) (r : Option (List Token))
    (so_far : past ends due (drop i tokens) ≡ r) where
  -- what the next token does
  turned : (d : Token) (top : Option ℕ) (turn : Turn) → i < length tokens → top ≡ innermost due
      → turn ≡ turn_of ends top (get_or tokens i d).kind
      → taken turn due (get_or tokens i d) (drop (i + 1) tokens) (λ ds. past ends ds (drop (i + 1) tokens)) ≡ r
  unfolding past
  turned d top turn lt is e =
      ap
      (λ (x : Turn). taken x due (get_or tokens i d) (drop (i + 1) tokens) (λ ds. past ends ds (drop (i + 1) tokens)))
      (e ∙ ap (λ (o : Option ℕ). turn_of ends o (get_or tokens i d).kind) is)
      ∙ sym (at_drop_more (past ends due) tokens i d lt)
      ∙ so_far

  pub stops : (d : Token) (top : Option ℕ) → i < length tokens → top ≡ innermost due
      → turns.Stop ≡ turn_of ends top (get_or tokens i d).kind → r ≡ Some (drop i tokens)
  stops d top lt is e = sym (turned d top turns.Stop lt is e)
      ∙ sym (at_drop_more (λ (ts : List Token). Some ts) tokens i d lt)

  pub fails : (d : Token) (top : Option ℕ) → i < length tokens → top ≡ innermost due
      → turns.Fail ≡ turn_of ends top (get_or tokens i d).kind → r ≡ None
  fails d top lt is e = sym (turned d top turns.Fail lt is e)

  pub passes : (d : Token) (top : Option ℕ) → i < length tokens → top ≡ innermost due
      → turns.Pass ≡ turn_of ends top (get_or tokens i d).kind → past ends due (drop (i + 1) tokens) ≡ r
  passes d top lt is e = turned d top turns.Pass lt is e

  pub opens : (d : Token) (top : Option ℕ) (b : ℕ) → i < length tokens → top ≡ innermost due
      → turns.Open b ≡ turn_of ends top (get_or tokens i d).kind → past ends (due ++ b ∷ []) (drop (i + 1) tokens) ≡ r
  opens d top b lt is e = turned d top (turns.Open b) lt is e

  pub closes : (d : Token) (top : Option ℕ) → i < length tokens → top ≡ innermost due
      → turns.Close ≡ turn_of ends top (get_or tokens i d).kind → past ends (outer due) (drop (i + 1) tokens) ≡ r
  closes d top lt is e = turned d top turns.Close lt is e

  pub ended : length tokens ≤ i → r ≡ at_end due
  unfolding past
  ended le = sym (sym (ap (past ends due) (drop_all i tokens le)) ∙ so_far)
