-- Lines that are given their targets in the code of branches and loops.
use Rattle.std.proofs.Common.{◌≡◌, ◌∙◌, ℕ, zero, suc, ◌+◌, List, [], ◌∷◌, ◌++◌, length, refl, ap, arith, append_assoc, length-append, add_assoc}
use Rattle.std.specs.Prelude.{Option}
use Rattle.sz_instr.specs.declared.instr.Instr.{Instr}
use Rattle.sz_instr.specs.declared.instr.Instr.TheVariants.{Test, Tick}
use Rattle.sz_instr.specs.declared.line.Line.{Line}
use Rattle.sz_types.specs.declared.place.Place.{Place}
use Rattle.sz_gen_rules.specs.Tables.{line}
use Rattle.sz_gen_expr.specs.Building.{with_target, with_past, changed, patched}
use Rattle.sz_gen_expr.proofs.Patches.{changed_after}
use Rattle.sz_gen_rules.specs.FreeLines.{goes}
use Rattle.sz_gen_rules.specs.StatementCode.{branch_code, loop_code, loop_after_code}

module _ (change : Instr → ℕ → Option Instr) where
  pub length-changed : (lines : List Line) (at to : ℕ) → length (changed change lines at to) ≡ length lines
  length-changed [] at to = refl
  length-changed (l ∷ lines) zero to = refl
  length-changed (l ∷ lines) (suc at) to = ap suc (length-changed lines at to)

  pub changed-append : (a b : List Line) (n to : ℕ)
      → changed change (a ++ b) (length a + n) to ≡ a ++ changed change b n to
  changed-append [] b n to = let e : 0 + n ≡ n = omega arith in ap (λ k. changed change b k to) e
  changed-append (x ∷ a) b n to =
      let e : length (x ∷ a) + n ≡ suc (length a + n) = omega arith in
      ap (λ k. changed change (x ∷ (a ++ b)) k to) e ∙ ap (λ k. x ∷ k) (changed-append a b n to)

  -- a line after the first
  pub changed_later : (l : Line) (lines : List Line) (at to : ℕ)
      → changed change (l ∷ lines) (suc at) to ≡ l ∷ changed change lines at to
  changed_later l lines at to = refl

pub one_add : (n : ℕ) → 1 + n ≡ suc n
one_add n = omega arith

pub two_add : (n : ℕ) → 2 + n ≡ suc (suc n)
two_add n = omega arith

pub three_add : (n : ℕ) → 3 + n ≡ suc (suc (suc n))
three_add n = omega arith

pub suc_plus : (m n : ℕ) → suc m + n ≡ suc (m + n)
suc_plus m n = omega arith

-- what brings code in the making and its definition to one form
pub ruleset patches = (
  append_assoc,
  length-append,
  add_assoc,
  changed-append,
  changed_after,
  one_add,
  two_add,
  three_add,
  suc_plus,
  length-changed,
)

pub branch_lines : (base ce : List Line) (ca cb : ℕ → List Line) (c1 c2 c3 c4 c5 c6 c7 c8 : List Line)
    (p : Place) (skip over : ℕ) → c1 ≡ base ++ ce → skip ≡ length c1 → c2 ≡ c1 ++ line (Test 0 0) 1 p ∷ []
    → c3 ≡ c2 ++ ca (length c2) → over ≡ length c3 → c4 ≡ c3 ++ goes 0 ∷ []
    → c5 ≡ patched c4 skip (length c4) → c6 ≡ c5 ++ cb (length c5) → c7 ≡ patched c6 over (length c6)
    → c8 ≡ changed with_past c7 skip (length c7) → c8 ≡ base ++ branch_code p ce ca cb (length base)
branch_lines base ce ca cb c1 c2 c3 c4 c5 c6 c7 c8 p skip over e1 m1 e2 e3 m2 e4 e5 e6 e7 e8 =
    let n : ℕ = length base in
    let start : ℕ = n + length ce + 1 in
    let one = ca start in
    let away : ℕ = start + length one + 1 in
    let other = cb away in
    let rest = one ++ goes (away + length other) ∷ other in
    let test = line (Test away 0) 1 p in
    let before : c7 ≡ base ++ (ce ++ test ∷ rest) = simp (e7, e6, e5, e4, m2, e3, e2, m1, e1, changed_later, patches) in
    let at : skip ≡ n + length ce = omega (arith, m1, ap length e1, length-append base ce) in
    let end : length (base ++ (ce ++ test ∷ rest)) ≡ away + length other = omega (
      arith,
      length-append base (ce ++ test ∷ rest),
      length-append ce (test ∷ rest),
      length-append one (goes (away + length other) ∷ other),
    ) in
    e8 ∙ ap (λ l. changed with_past l skip (length l)) before
    ∙ ap (λ k. changed with_past (base ++ (ce ++ test ∷ rest)) k (length (base ++ (ce ++ test ∷ rest)))) at
    ∙ changed-append with_past base (ce ++ test ∷ rest) (length ce) (length (base ++ (ce ++ test ∷ rest)))
    ∙ ap (λ l. base ++ l) (changed_after with_past ce (test ∷ rest) (length (base ++ (ce ++ test ∷ rest))))
    ∙ ap (λ k. base ++ (ce ++ line (Test away k) 1 p ∷ rest)) end

pub loop_lines : (base : List Line) (cn : ℕ → List Line) (ce : ℕ → ℕ → List Line) (cs : ℕ → ℕ → ℕ → List Line)
    (c1 c2 c3 c4 c5 c6 c7 c8 c9 : List Line) (p : Place) (to_test past again : ℕ)
    → to_test ≡ length base → c1 ≡ base ++ goes 0 ∷ [] → past ≡ length c1 → c2 ≡ c1 ++ goes 0 ∷ [] → again ≡ length c2
    → c3 ≡ c2 ++ cn (length c2) → c4 ≡ c3 ++ line Tick 1 p ∷ [] → c5 ≡ patched c4 to_test (length c4)
    → c6 ≡ c5 ++ ce past (length c5) → c7 ≡ c6 ++ cs past again (length c6)
    → c8 ≡ c7 ++ goes again ∷ [] → c9 ≡ patched c8 past (length c8)
    → c9 ≡ base ++ loop_code p cn (ce (length base + 1)) (cs (length base + 1) (length base + 2)) (length base)
loop_lines base cn ce cs c1 c2 c3 c4 c5 c6 c7 c8 c9 p to_test past again m0 e1 m1 e2 m2 e3 e4 e5 e6 e7 e8 e9 =
    simp (e9, e8, e7, e6, e5, e4, e3, m2, e2, m1, e1, m0, patches)

pub loop_after_lines : (base : List Line) (ce : ℕ → ℕ → List Line) (cs : ℕ → ℕ → ℕ → List Line)
    (c1 c2 c3 c4 c5 c6 c7 c8 c9 c10 : List Line) (p : Place) (to_body past to_test again : ℕ)
    → to_body ≡ length base → c1 ≡ base ++ goes 0 ∷ [] → past ≡ length c1 → c2 ≡ c1 ++ goes 0 ∷ []
    → to_test ≡ length c2 → c3 ≡ c2 ++ goes 0 ∷ [] → again ≡ length c3 → c4 ≡ patched c3 to_body (length c3)
    → c5 ≡ c4 ++ cs past to_test (length c4) → c6 ≡ patched c5 to_test (length c5)
    → c7 ≡ c6 ++ ce past (length c6) → c8 ≡ c7 ++ line Tick 1 p ∷ [] → c9 ≡ c8 ++ goes again ∷ []
    → c10 ≡ patched c9 past (length c9)
    → c10 ≡ base ++ loop_after_code p (cs (length base + 1) (length base + 2)) (ce (length base + 1)) (length base)
loop_after_lines base ce cs c1 c2 c3 c4 c5 c6 c7 c8 c9 c10 p to_body past to_test again m0 e1 m1 e2 m2 e3 m3 e4 e5
    e6 e7 e8 e9 e10 =
    let n1 : past ≡ length base + 1 = omega (arith, m1, ap length e1, length-append base (goes 0 ∷ [])) in
    let n2 : to_test ≡ length base + 2 = omega (arith, m2, ap length e2, length-append c1 (goes 0 ∷ []), m1, n1) in
    let n3 : again ≡ length base + 3 = omega (arith, m3, ap length e3, length-append c2 (goes 0 ∷ []), m2, n2) in
    let n : ℕ = length base in
    let turn = cs (n + 1) (n + 2) (n + 3) in
    let asked = ce (n + 1) (n + 3 + length turn) in
    let last : List Line = line Tick 1 p ∷ goes (n + 3) ∷ [] in
    let tail = goes (n + 3 + length turn) ∷ (turn ++ (asked ++ last)) in
    let before : c9 ≡ base ++ (goes (n + 3) ∷ goes 0 ∷ tail) =
    simp (e9, e8, e7, e6, e5, e4, n3, e3, n2, e2, n1, e1, m0, patches) in
    let end : length (base ++ (goes (n + 3) ∷ goes 0 ∷ tail)) ≡ n + 3 + length turn + length asked + 2 =
    omega (
      arith,
      length-append base (goes (n + 3) ∷ goes 0 ∷ tail),
      length-append turn (asked ++ last),
      length-append asked last,
    ) in
    e10 ∙ ap (λ l. patched l past (length l)) before
    ∙ ap (λ k. patched (base ++ (goes (n + 3) ∷ goes 0 ∷ tail)) k (length (base ++ (goes (n + 3) ∷ goes 0 ∷ tail)))) n1
    ∙ changed-append with_target base (goes (n + 3) ∷ goes 0 ∷ tail) 1 (length (base ++ (goes (n + 3) ∷ goes 0 ∷ tail)))
    ∙ ap (λ k. base ++ (goes (n + 3) ∷ goes k ∷ tail)) end
