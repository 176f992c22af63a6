-- The code of `when`, over the code of its bases, its condition and its statement. Where a search fails it goes to a
-- given line. The flags of variables for each candidate lie on the stack: whether the rest of the search succeeded by
-- now.
use Rattle.std.specs.Prelude.{ℕ, suc, ◌+◌, List, [], ◌∷◌, ◌++◌, length, Bool, true, false}
use Rattle.sz_types.specs.declared.place.Place.{Place}
use Rattle.sz_value.specs.Data.{Datum}
use Rattle.sz_core.specs.Statements.{Quantity, some, each, all}
use Rattle.sz_instr.specs.declared.instr.Instr.TheVariants.{Push, Discard, Enter, Next, Leave, Meets, Fails}
use Rattle.sz_instr.specs.declared.line.Line.{Line}
use Rattle.sz_gen_rules.specs.Tables.{Tables, constant_number, line}
use Rattle.sz_gen_rules.specs.FreeLines.{free, goes}

-- a quantified variable: how it is quantified, its local, whether it is a bound of a slice, and the code of its base
pub record VariableCode : Type 0 where
  pub quantity : Quantity
  pub local : ℕ
  pub slice : Bool
  pub base : ℕ → List Line

-- a truth value is pushed
abbrev pub flag : Tables → Bool → Line
flag tables b = free (Push (constant_number tables (Datum.truth b)))

-- the place of the statement
module _ (place : Place) where
  -- a variable for some candidate: the base; its list; the next candidate, the rest, and the list is dropped
  abbrev pub some_code : VariableCode → (rest : (fail : ℕ) → ℕ → List Line) → (fail : ℕ) → ℕ → List Line
  some_code v rest fail at =
      let base = v.base at in
      let top = at + length base + 1 in
      base ++ free (Enter v.slice) ∷ line (Next v.local fail) 1 place ∷ (rest top (suc top) ++ free Leave ∷ [])

  -- a variable for each candidate: the base; its list and a flag; the next candidate, the rest, the flag is set, a
  -- jump back; and at the end of the list the flag decides
  abbrev pub each_code : Tables → VariableCode → (rest : (fail : ℕ) → ℕ → List Line) → (fail : ℕ) → ℕ → List Line
  each_code tables v rest fail at =
      let base = v.base at in
      let top = at + length base + 2 in
      let tried = rest top (suc top) in
      base ++ free (Enter v.slice) ∷ flag tables false ∷ line (Next v.local (suc top + length tried + 3)) 1 place
      ∷ (tried ++ free Discard ∷ flag tables true ∷ goes top ∷ free (Meets fail) ∷ [])

  -- a variable for all candidates: the base; its list; a jump to the next candidate; the way out, which drops the
  -- list; the next candidate, the rest and a jump back
  abbrev pub all_code : VariableCode → (rest : (fail : ℕ) → ℕ → List Line) → (fail : ℕ) → ℕ → List Line
  all_code v rest fail at =
      let base = v.base at in
      let away = at + length base + 2 in
      let tried = rest away (away + 3) in
      base ++ free (Enter v.slice) ∷ goes (away + 2) ∷ free Leave ∷ goes fail
      ∷ line (Next v.local (away + 3 + length tried + 1)) 1 place ∷ (tried ++ goes (away + 2) ∷ [])

  -- whether the condition is true or undefined for all candidates of these variables, nested in order
  abbrev pub holds_code : (condition : ℕ → List Line) → List VariableCode → (fail : ℕ) → ℕ → List Line
  holds_code condition [] fail at = condition at ++ free (Fails fail) ∷ []
  holds_code condition (v ∷ vs) fail at = all_code v (holds_code condition vs) fail at

-- the place of the statement, the code of its condition, and that of the statement inside with so many flags on the
-- stack
module _ (tables : Tables) (place : Place) (condition : ℕ → List Line) (body : (flags : ℕ) → ℕ → List Line) where
  -- the code of a variable, by how it is quantified, over that of the rest with as many flags and with one more
  abbrev pub variable_code : Quantity → VariableCode → (rest flagged whole : (fail : ℕ) → ℕ → List Line)
      → (flags fail : ℕ) → ℕ → List Line
  variable_code some v rest flagged whole flags fail at = some_code place v rest fail at
  variable_code each v rest flagged whole flags fail at = each_code place tables v flagged fail at
  variable_code all v rest flagged whole flags fail at = whole fail at ++ body flags (at + length (whole fail at))

  -- the search over these variables in order: it goes on after its code, or to a line where it fails
  abbrev pub search_code : List VariableCode → (flags fail : ℕ) → ℕ → List Line
  search_code [] flags fail at =
      let asked = condition at in
      asked ++ free (Meets fail) ∷ body flags (at + length asked + 1)
  search_code (v ∷ vs) flags fail at =
      variable_code v.quantity v (search_code vs flags) (search_code vs (suc flags))
      (holds_code place condition (v ∷ vs)) flags fail at

  -- the whole statement: a jump to the search, a jump past it, to which it goes where it fails, and the search
  abbrev pub when_code : List VariableCode → (flags : ℕ) → ℕ → List Line
  when_code variables flags at =
      let search = search_code variables flags (at + 1) (at + 2) in
      goes (at + 2) ∷ goes (at + 2 + length search) ∷ search
