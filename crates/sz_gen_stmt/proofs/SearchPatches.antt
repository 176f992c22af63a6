-- Lines that are given their targets in the code of `when`.
use Rattle.std.proofs.Common.{◌≡◌, ◌∙◌, ℕ, suc, ◌+◌, List, [], ◌∷◌, ◌++◌, length, true, false, arith, ap, append_assoc, length-append}
use Rattle.sz_instr.specs.declared.instr.Instr.TheVariants.{Enter, Next, Leave, Meets, Discard}
use Rattle.sz_instr.specs.declared.line.Line.{Line}
use Rattle.sz_types.specs.declared.place.Place.{Place}
use Rattle.sz_gen_rules.specs.Tables.{Tables, line}
use Rattle.sz_gen_expr.specs.Building.{with_target, patched}
use Rattle.sz_gen_rules.specs.FreeLines.{free, goes}
use Rattle.sz_gen_rules.specs.SearchCode.{VariableCode, flag, some_code, each_code, all_code}
use Rattle.sz_gen_expr.proofs.Patches.{changed_after}
use Rattle.sz_gen_stmt.proofs.Patches.{patches}

pub some_lines : (base : List Line) (v : VariableCode) (cr : ℕ → ℕ → List Line) (c2 c3 c4 c5 : List Line)
    (p : Place) (top fail : ℕ) → c2 ≡ base ++ (v.base (length base) ++ free (Enter v.slice) ∷ []) → top ≡ length c2
    → c3 ≡ c2 ++ line (Next v.local fail) 1 p ∷ [] → c4 ≡ c3 ++ cr top (length c3) → c5 ≡ c4 ++ free Leave ∷ []
    → c5 ≡ base ++ some_code p v cr fail (length base)
some_lines base v cr c2 c3 c4 c5 p top fail e2 m e3 e4 e5 =
    let vb = v.base (length base) in
    let enter = free (Enter v.slice) in
    let next = line (Next v.local fail) 1 p in
    let t : ℕ = length base + length vb + 1 in
    let n : top ≡ t =
    omega (arith, m, ap length e2, length-append base (vb ++ enter ∷ []), length-append vb (enter ∷ [])) in
    let k : length c3 ≡ suc t = omega (arith, n, m, ap length e3, length-append c2 (next ∷ [])) in
    let f4 : c4 ≡ c3 ++ cr t (suc t) = e4 ∙ (λ j. c3 ++ cr (n j) (k j)) in
    simp (e5, f4, e3, e2, append_assoc)

pub each_lines : (tables : Tables) (base : List Line) (v : VariableCode) (cr : ℕ → ℕ → List Line)
    (c2 c3 c4 c5 c6 c7 c8 c9 c10 : List Line) (p : Place) (top fail : ℕ)
    → c2 ≡ base ++ (v.base (length base) ++ free (Enter v.slice) ∷ []) → c3 ≡ c2 ++ flag tables false ∷ []
    → top ≡ length c3 → c4 ≡ c3 ++ line (Next v.local 0) 1 p ∷ [] → c5 ≡ c4 ++ cr top (length c4)
    → c6 ≡ c5 ++ free Discard ∷ [] → c7 ≡ c6 ++ flag tables true ∷ []
    → c8 ≡ c7 ++ goes top ∷ [] → c9 ≡ patched c8 top (length c8) → c10 ≡ c9 ++ free (Meets fail) ∷ []
    → c10 ≡ base ++ each_code p tables v cr fail (length base)
each_lines tables base v cr c2 c3 c4 c5 c6 c7 c8 c9 c10 p top fail e2 e3 m e4 e5 e6 e7 e8 e9 e10 =
    let vb = v.base (length base) in
    let enter = free (Enter v.slice) in
    let next : ℕ → Line = λ to. line (Next v.local to) 1 p in
    let t : ℕ = length base + length vb + 2 in
    let n : top ≡ t = omega (
      arith,
      m,
      ap length e3,
      length-append c2 (flag tables false ∷ []),
      ap length e2,
      length-append base (vb ++ enter ∷ []),
      length-append vb (enter ∷ []),
    ) in
    let k : length c4 ≡ suc t = omega (arith, n, m, ap length e4, length-append c3 (next 0 ∷ [])) in
    let tried = cr t (suc t) in
    let f5 : c5 ≡ c4 ++ tried = e5 ∙ (λ j. c4 ++ cr (n j) (k j)) in
    let tail : ℕ → List Line = λ to. tried ++ free Discard ∷ flag tables true ∷ goes to ∷ [] in
    let g8 : c8 ≡ c3 ++ (next 0 ∷ tail top) = simp (e8, e7, e6, f5, e4, append_assoc) in
    let end : length c8 ≡ suc t + length tried + 3 = omega (
      arith,
      n,
      m,
      ap length g8,
      length-append c3 (next 0 ∷ tail top),
      length-append tried (free Discard ∷ flag tables true ∷ goes top ∷ []),
    ) in
    let g9 : c9 ≡ c3 ++ (next (suc t + length tried + 3) ∷ tail t) =
    e9 ∙ ap (λ i. patched c8 i (length c8)) m ∙ ap (λ l. patched l (length c3) (length c8)) g8
    ∙ changed_after with_target c3 (next 0 ∷ tail top) (length c8) ∙ (λ j. c3 ++ (next (end j) ∷ tail (n j))) in
    simp (e10, g9, e3, e2, append_assoc)

pub all_lines : (base : List Line) (v : VariableCode) (cr : ℕ → ℕ → List Line)
    (c2 c3 c4 c5 c6 c7 c8 c9 c10 : List Line) (p : Place) (entry away top fail : ℕ)
    → c2 ≡ base ++ (v.base (length base) ++ free (Enter v.slice) ∷ []) → entry ≡ length c2 → c3 ≡ c2 ++ goes 0 ∷ []
    → away ≡ length c3
    → c4 ≡ c3 ++ free Leave ∷ [] → c5 ≡ c4 ++ goes fail ∷ [] → c6 ≡ patched c5 entry (length c5) → top ≡ length c6
    → c7 ≡ c6 ++ line (Next v.local 0) 1 p ∷ [] → c8 ≡ c7 ++ cr away (length c7) → c9 ≡ c8 ++ goes top ∷ []
    → c10 ≡ patched c9 top (length c9) → c10 ≡ base ++ all_code p v cr fail (length base)
all_lines base v cr c2 c3 c4 c5 c6 c7 c8 c9 c10 p entry away top fail e2 m1 e3 m2 e4 e5 e6 m3 e7 e8 e9 e10 =
    let vb = v.base (length base) in
    let enter = free (Enter v.slice) in
    let next : ℕ → Line = λ to. line (Next v.local to) 1 p in
    let a : ℕ = length base + length vb + 2 in
    let n2 : suc (length c2) ≡ a =
    omega (arith, ap length e2, length-append base (vb ++ enter ∷ []), length-append vb (enter ∷ [])) in
    let n3 : away ≡ a = omega (arith, m2, n2, ap length e3, length-append c2 (goes 0 ∷ [])) in
    let out : ℕ → List Line = λ to. goes to ∷ free Leave ∷ goes fail ∷ [] in
    let g5 : c5 ≡ c2 ++ out 0 = simp (e5, e4, e3, append_assoc) in
    let n5 : length c5 ≡ a + 2 = omega (arith, n2, ap length g5, length-append c2 (out 0)) in
    let g6 : c6 ≡ c2 ++ out (a + 2) =
    e6 ∙ ap (λ i. patched c5 i (length c5)) m1 ∙ ap (λ l. patched l (length c2) (length c5)) g5
    ∙ changed_after with_target c2 (out 0) (length c5) ∙ ap (λ i. c2 ++ out i) n5 in
    let n6 : top ≡ a + 2 = omega (arith, m3, n2, ap length g6, length-append c2 (out (a + 2))) in
    let n7 : length c7 ≡ a + 3 = omega (arith, n6, m3, ap length e7, length-append c6 (next 0 ∷ [])) in
    let tried = cr a (a + 3) in
    let f8 : c8 ≡ c7 ++ tried = e8 ∙ (λ j. c7 ++ cr (n3 j) (n7 j)) in
    let tail : ℕ → List Line = λ to. tried ++ goes to ∷ [] in
    let g9 : c9 ≡ c6 ++ (next 0 ∷ tail top) = simp (e9, f8, e7, append_assoc) in
    let n9 : length c9 ≡ a + 3 + length tried + 1 = omega (
      arith,
      n6,
      m3,
      ap length g9,
      length-append c6 (next 0 ∷ tail top),
      length-append tried (goes top ∷ []),
    ) in
    let g10 : c10 ≡ c6 ++ (next (a + 3 + length tried + 1) ∷ tail (a + 2)) =
    e10 ∙ ap (λ i. patched c9 i (length c9)) m3 ∙ ap (λ l. patched l (length c6) (length c9)) g9
    ∙ changed_after with_target c6 (next 0 ∷ tail top) (length c9) ∙ (λ j. c6 ++ (next (n9 j) ∷ tail (n6 j))) in
    simp (g10, g6, e2, append_assoc)

pub when_lines : (base : List Line) (cs : ℕ → ℕ → List Line) (c1 c2 c3 c4 c5 : List Line) (entry past : ℕ)
    → entry ≡ length base → c1 ≡ base ++ goes 0 ∷ [] → past ≡ length c1 → c2 ≡ c1 ++ goes 0 ∷ []
    → c3 ≡ patched c2 entry (length c2) → c4 ≡ c3 ++ cs past (length c3) → c5 ≡ patched c4 past (length c4)
    → c5 ≡ base ++ (goes (length base + 2) ∷ goes (length base + 2 + length (cs (length base + 1) (length base + 2)))
    ∷ cs (length base + 1) (length base + 2))
when_lines base cs c1 c2 c3 c4 c5 entry past m0 e1 m1 e2 e3 e4 e5 = simp (e5, e4, e3, e2, m1, e1, m0, patches)
