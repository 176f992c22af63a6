-- A line that is given another target.
use Rattle.std.proofs.Common.{◌≡◌, ◌∙◌, ℕ, zero, suc, ◌+◌, List, [], ◌∷◌, ◌++◌, length, Some, None, refl, sym, ap, arith, append_assoc, length-append}
use Rattle.std.specs.Prelude.{Option, unwrap_or, slice_get, slice_set}
use Rattle.sz_instr.specs.declared.instr.Instr.{Instr}
use Rattle.sz_instr.specs.declared.line.Line.{Line}
use Rattle.sz_types.specs.declared.place.Place.{Place}
use Rattle.sz_instr.specs.declared.instr.Instr.TheVariants.{Tick}
use Rattle.sz_gen_rules.specs.ExpressionCode.{decided}
use Rattle.sz_gen_rules.specs.Tables.{line}
use Rattle.sz_gen_expr.specs.Building.{with_target, aimed, with_instr, changed, patched}

module _ (change : Instr → ℕ → Option Instr) where
  pub changed_set : (lines : List Line) (at to : ℕ) (l : Line) (i : Instr) → slice_get lines at ≡ Some l
      → change l.instr to ≡ Some i → slice_set lines at (line i l.charge l.place) ≡ changed change lines at to
  changed_set [] at to l i found is = absurd cc
  changed_set (k ∷ lines) zero to l i found is =
      let same : k ≡ l = cc in
      sym (ap (λ (m : Line). with_instr (change m.instr to) m ∷ lines) same ∙ ap (λ o. with_instr o l ∷ lines) is)
  changed_set (k ∷ lines) (suc at) to l i found is = ap (λ ls. k ∷ ls) (changed_set lines at to l i found is)

  pub changed_none : (lines : List Line) (at to : ℕ) (l : Line) → slice_get lines at ≡ Some l → change l.instr to ≡ None
      → changed change lines at to ≡ lines
  changed_none [] at to l found is = absurd cc
  changed_none (k ∷ lines) zero to l found is =
      let same : k ≡ l = cc in
      ap (λ (m : Line). with_instr (change m.instr to) m ∷ lines) same ∙ ap (λ o. with_instr o l ∷ lines) is
      ∙ ap (λ m. m ∷ lines) (sym same)
  changed_none (k ∷ lines) (suc at) to l found is = ap (λ ls. k ∷ ls) (changed_none lines at to l found is)

  -- the line after others
  pub changed_after : (a b : List Line) (to : ℕ) → changed change (a ++ b) (length a) to ≡ a ++ changed change b 0 to
  changed_after [] b to = refl
  changed_after (l ∷ a) b to = ap (λ ls. l ∷ ls) (changed_after a b to)

aimed_line : (i : Instr) (to charge : ℕ) (place : Place)
    → with_instr (with_target i to) (line i charge place) ≡ line (aimed i to) charge place
aimed_line i to charge place = by (with_target i to)
  where
    by : (o : Option Instr) → with_instr o (line i charge place) ≡ line (unwrap_or o i) charge place
    by None = refl
    by (Some j) = refl

-- the test in front of the right operand is given the line of the tick
pub decided_lines : (l0 l1 l2 l3 l4 : List Line) (right : ℕ → List Line) (test : Instr) (place : Place) (at : ℕ)
    → at ≡ length l0 → l1 ≡ l0 ++ line test 0 place ∷ [] → l2 ≡ l1 ++ right (length l1)
    → l3 ≡ patched l2 at (length l2) → l4 ≡ l3 ++ line Tick 1 place ∷ []
    → l4 ≡ l0 ++ decided (aimed test) place right (length l0)
decided_lines l0 l1 l2 l3 l4 right test place at is_at e1 e2 e3 e4 =
    let start = suc (length l0) in
    let code = right start in
    let front = line test 0 place in
    let n1 : length l1 ≡ start = omega (arith, ap length e1, length-append l0 (front ∷ [])) in
    let f2 : l2 ≡ l0 ++ (front ∷ code) = e2 ∙ (λ j. e1 j ++ right (n1 j)) ∙ append_assoc l0 (front ∷ []) code in
    let n2 : length l2 ≡ start + length code = omega (arith, ap length f2, length-append l0 (front ∷ code)) in
    let tested = line (aimed test (start + length code)) 0 place in
    let f3 : l3 ≡ l0 ++ (tested ∷ code) =
    e3 ∙ (λ j. patched (f2 j) (is_at j) (n2 j)) ∙ changed_after with_target l0 (front ∷ code) (start + length code)
    ∙ ap (λ l. l0 ++ (l ∷ code)) (aimed_line test (start + length code) 0 place) in
    e4 ∙ ap (λ l. l ++ line Tick 1 place ∷ []) f3 ∙ append_assoc l0 (tested ∷ code) (line Tick 1 place ∷ [])
