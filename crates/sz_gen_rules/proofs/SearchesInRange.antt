-- Each number in the code of `when` is that of something that the code has, if those of its parts are.
use Rattle.std.proofs.Common.{◌≡◌, ℕ, suc, ◌+◌, ◌<◌, ◌≤◌, List, [], ◌∷◌, ◌++◌, length, map, Bool, true, false, refl, arith, length-append}
use Rattle.std.proofs.lemmas.Bool.{lt-ltb}
use Rattle.std.proofs.lemmas.Option.{slice_get_within}
use Rattle.sz_types.specs.declared.place.Place.{Place}
use Rattle.sz_value.specs.Data.{truth}
use Rattle.sz_builtin.proofs.TypeLemmas.{both_in}
use Rattle.sz_core.specs.Statements.{Quantity, some, each, all, Quantified}
use Rattle.sz_instr.specs.WellFormed.{most_locals, is_in_range}
use Rattle.sz_instr.specs.declared.instr.Instr.TheVariants.{Enter, Next, Leave, Meets, Fails, Discard}
use Rattle.sz_instr.specs.declared.line.Line.{Line}
use Rattle.sz_instr.specs.declared.code.Code.{Code}
use Rattle.sz_gen_rules.specs.Tables.{tables_in, constant_number, HasConstant, line}
use Rattle.sz_gen_rules.specs.FreeLines.{free, goes}
use Rattle.sz_gen_rules.specs.StatementCode.{variable_code_of}
use Rattle.sz_gen_rules.specs.SearchCode.{VariableCode, flag, holds_code, some_code, each_code, variable_code, search_code, when_code}
use Rattle.sz_gen_rules.specs.NamedStatements.{QuantityHasNames, FlagsHaveNames}
use Rattle.sz_gen_rules.proofs.ExpressionsInRange.{AreInRange, both_in_range}

-- code that ends within the lines is in range, wherever it begins
abbrev pub EndsInRange : Code → (ℕ → List Line) → Type 0
EndsInRange code lines = (at : ℕ) → at + length (lines at) ≤ length code.lines → AreInRange code (lines at)

-- the same of a part of a search, which goes to a line where it fails, and of which a line is after
abbrev pub FailsInRange : Code → (ℕ → ℕ → List Line) → Type 0
FailsInRange code lines =
    (fail at : ℕ) → fail < length code.lines → at + length (lines fail at) < length code.lines
    → AreInRange code (lines fail at)

-- so it is with the bases of variables, and their locals are those of some routine
abbrev pub AllInRange : Code → List Quantified → Type 0
AllInRange code [] = Unit {0}
AllInRange code (v ∷ vs) =
    EndsInRange code (variable_code_of (tables_in code) v).base × (v.local < most_locals code) × AllInRange code vs

module _ (code : Code) (place : Place) (condition : ℕ → List Line) (body : ℕ → ℕ → List Line)
    (condition_in : EndsInRange code condition)
    (body_in : (flags at : ℕ) → at + length (body flags at) < length code.lines → AreInRange code (body flags at)) where
  next_in_range : (n to : ℕ) → n < most_locals code → to < length code.lines → is_in_range code (Next n to) ≡ true
  next_in_range n to l few = both_in (lt-ltb n (most_locals code) l) (lt-ltb to (length code.lines) few)

  flag_in_range : (b : Bool) → HasConstant (tables_in code) (truth b)
      → is_in_range code (flag (tables_in code) b).instr ≡ true
  flag_in_range b has =
      let n = constant_number (tables_in code) (truth b) in
      lt-ltb n (length code.constants) (slice_get_within code.constants n (truth b) has)

  holds_in_range : (vs : List Quantified) → AllInRange code vs
      → FailsInRange code (holds_code place condition (map (variable_code_of (tables_in code)) vs))
  holds_in_range [] known fail at few fits =
      let asked = condition at in
      let last = free (Fails fail) in
      both_in_range code asked (last ∷ []) (condition_in at (omega (arith, fits, length-append asked (last ∷ []))))
      (lt-ltb fail (length code.lines) few, tt)
  holds_in_range (v ∷ vs) known fail at few fits =
      let base = (variable_code_of (tables_in code) v).base at in
      let away = at + length base + 2 in
      let rest = holds_code place condition (map (variable_code_of (tables_in code)) vs) away (away + 3) in
      let back = goes (away + 2) in
      let next = line (Next v.local (away + 3 + length rest + 1)) 1 place in
      let tail = free (Enter v.slice) ∷ goes (away + 2) ∷ free Leave ∷ goes fail ∷ next ∷ (rest ++ back ∷ []) in
      let end : at + length base + length rest + 6 < length code.lines =
      omega (arith, fits, length-append base tail, length-append rest (back ∷ [])) in
      let jump : is_in_range code (back).instr ≡ true = lt-ltb (away + 2) (length code.lines) (omega (arith, end)) in
      both_in_range code base tail (known.0 at (omega (arith, end))) (
        refl,
        (
          jump,
          (
            refl,
            (
              lt-ltb fail (length code.lines) few,
              (
                next_in_range v.local (away + 3 + length rest + 1) known.1 (omega (arith, end)),
                both_in_range code rest (back ∷ [])
                    (holds_in_range vs known.2 away (away + 3) (omega (arith, end)) (omega (arith, end))) (jump, tt),
              ),
            ),
          ),
        ),
      )

  some_in_range : (v : VariableCode) (rest_code : ℕ → ℕ → List Line) → EndsInRange code v.base
      → v.local < most_locals code → FailsInRange code rest_code → FailsInRange code (some_code place v rest_code)
  some_in_range v rest_code base_in local rest_in fail at few fits =
      let base = v.base at in
      let top = at + length base + 1 in
      let rest = rest_code top (suc top) in
      let tail = free (Enter v.slice) ∷ line (Next v.local fail) 1 place ∷ (rest ++ free Leave ∷ []) in
      let end : at + length base + length rest + 3 < length code.lines =
      omega (arith, fits, length-append base tail, length-append rest (free Leave ∷ [])) in
      both_in_range code base tail (base_in at (omega (arith, end))) (
        refl,
        (
          next_in_range v.local fail local few,
          both_in_range code rest (free Leave ∷ [])
              (rest_in top (suc top) (omega (arith, end)) (omega (arith, end))) (refl, tt),
        ),
      )

  each_in_range : (v : VariableCode) (rest_code : ℕ → ℕ → List Line) → HasConstant (tables_in code) (truth false)
      → HasConstant (tables_in code) (truth true) → EndsInRange code v.base
      → v.local < most_locals code → FailsInRange code rest_code
      → FailsInRange code (each_code place (tables_in code) v rest_code)
  each_in_range v rest_code has_false has_true base_in local rest_in fail at few fits =
      let base = v.base at in
      let top = at + length base + 2 in
      let rest = rest_code top (suc top) in
      let yes = flag (tables_in code) true in
      let ends = free Discard ∷ yes ∷ goes top ∷ free (Meets fail) ∷ [] in
      let next = line (Next v.local (suc top + length rest + 3)) 1 place in
      let tail = free (Enter v.slice) ∷ flag (tables_in code) false ∷ next ∷ (rest ++ ends) in
      let end : at + length base + length rest + 7 < length code.lines =
      omega (arith, fits, length-append base tail, length-append rest ends) in
      both_in_range code base tail (base_in at (omega (arith, end))) (
        refl,
        (
          flag_in_range false has_false,
          (
            next_in_range v.local (suc top + length rest + 3) local (omega (arith, end)),
            both_in_range code rest ends (rest_in top (suc top) (omega (arith, end)) (omega (arith, end))) (
              refl,
              (
                flag_in_range true has_true,
                (lt-ltb top (length code.lines) (omega (arith, end)), (lt-ltb fail (length code.lines) few, tt)),
              ),
            ),
          ),
        ),
      )

  quantity_in_range : (q : Quantity) (v : Quantified) (vs : List Quantified) → AllInRange code (v ∷ vs)
      → QuantityHasNames (tables_in code) q (FlagsHaveNames (tables_in code) vs) → (flags : ℕ)
      → (rest_code flagged_code : ℕ → ℕ → List Line)
      → (FlagsHaveNames (tables_in code) vs → FailsInRange code rest_code)
      → (FlagsHaveNames (tables_in code) vs → FailsInRange code flagged_code)
      → FailsInRange code (variable_code (tables_in code) place condition body q
      (variable_code_of (tables_in code) v) rest_code flagged_code
      (holds_code place condition (map (variable_code_of (tables_in code)) (v ∷ vs))) flags)
  quantity_in_range some v vs known names flags rest_code flagged_code rest_in flagged_in fail at few fits =
      some_in_range (variable_code_of (tables_in code) v) rest_code known.0 known.1 (rest_in names) fail at few fits
  quantity_in_range each v vs known names flags rest_code flagged_code rest_in flagged_in fail at few fits =
      each_in_range (variable_code_of (tables_in code) v) flagged_code names.0 names.1 known.0 known.1
      (flagged_in names.2) fail at few fits
  quantity_in_range all v vs known names flags rest_code flagged_code rest_in flagged_in fail at few fits =
      let front = holds_code place condition (map (variable_code_of (tables_in code)) (v ∷ vs)) fail at in
      let inside = body flags (at + length front) in
      let end : at + length front + length inside < length code.lines =
      omega (arith, fits, length-append front inside) in
      both_in_range code front inside (holds_in_range (v ∷ vs) known fail at few (omega (arith, end)))
      (body_in flags (at + length front) end)

  search_in_range : (vs : List Quantified) → AllInRange code vs → FlagsHaveNames (tables_in code) vs → (flags : ℕ)
      → FailsInRange code
      (search_code (tables_in code) place condition body (map (variable_code_of (tables_in code)) vs) flags)
  search_in_range [] known names flags fail at few fits =
      let asked = condition at in
      let inside = body flags (at + length asked + 1) in
      let end : at + length asked + 1 + length inside < length code.lines =
      omega (arith, fits, length-append asked (free (Meets fail) ∷ inside)) in
      both_in_range code asked (free (Meets fail) ∷ inside) (condition_in at (omega (arith, end)))
      (lt-ltb fail (length code.lines) few, body_in flags (at + length asked + 1) end)
  search_in_range (v ∷ vs) known names flags fail at few fits =
      quantity_in_range v.quantity v vs known names flags _ _ (λ more. search_in_range vs known.2 more flags)
      (λ more. search_in_range vs known.2 more (suc flags)) fail at few fits

  pub when_in_range : (vs : List Quantified) → AllInRange code vs → FlagsHaveNames (tables_in code) vs → (flags at : ℕ)
      → at + length (when_code (tables_in code) place condition body
      (map (variable_code_of (tables_in code)) vs) flags at) < length code.lines
      → AreInRange code
      (when_code (tables_in code) place condition body (map (variable_code_of (tables_in code)) vs) flags at)
  when_in_range vs known names flags at fits =
      let searches = search_code (tables_in code) place condition body
      (map (variable_code_of (tables_in code)) vs) flags (at + 1) (at + 2) in
      let end : at + 2 + length searches < length code.lines = omega (arith, fits) in (
        lt-ltb (at + 2) (length code.lines) (omega (arith, end)),
        (
          lt-ltb (at + 2 + length searches) (length code.lines) end,
          search_in_range vs known names flags (at + 1) (at + 2) (omega (arith, end)) end,
        ),
      )
