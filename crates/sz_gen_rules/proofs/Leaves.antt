-- Expressions without parts: their code is one line, which does what they mean.
use Rattle.std.proofs.Common.{◌≡◌, ℕ, zero, suc, ◌<◌, List, [], ◌∷◌, length, Some, IsSome, refl, sym, subst, arith}
use Rattle.std.specs.Prelude.{slice_get, true}
use Rattle.sz_types.specs.Data.{Shape}
use Rattle.sz_types.specs.declared.place.Place.{Place}
use Rattle.sz_value.specs.Data.{Datum}
use Rattle.sz_types.specs.Types.{has_type}
use Rattle.sz_core.specs.Typing.{HasLiteralType}
use Rattle.sz_instr.specs.declared.instr.Instr.{Instr}
use Rattle.sz_instr.specs.declared.instr.Instr.TheVariants.{Push, Local, Static, Input}
use Rattle.sz_instr.specs.declared.code.Code.{Code}
use Rattle.sz_world_rules.specs.Slots.{Slot, slot_at}
use Rattle.sz_world_rules.specs.Typed.{Fits}
use Rattle.sz_world_rules.specs.Ticks.{no_weight}
use Rattle.sz_mean.specs.Expressions.{results}
use Rattle.sz_instr.specs.States.{State, After, Goes}
use Rattle.sz_instr.specs.Runs.{ComesTo}
use Rattle.sz_gen_rules.specs.Tables.{tables_in, constant_number, HasConstant, line}
use Rattle.sz_gen_rules.specs.Runs.{AfterEval, HasAt}
use Rattle.sz_gen_rules.proofs.Steps.{LeavesSlot, last_line}

-- what stands in a list stands within its length
pub within : {X : Type 0} (xs : List X) (n : ℕ) (x : X) → slice_get xs n ≡ Some x → n < length xs
within [] n x found = absurd cc
within (y ∷ ys) zero x found = omega arith
within (y ∷ ys) (suc n) x found = omega (arith, within ys n x found)

-- the value of a literal has the literal's type
literal_fits : (d : Datum) (t : Shape) → HasLiteralType d t → Fits (Some d) t
literal_fits (Datum.truth b) t h = subst (λ u. has_type (Datum.truth b) u ≡ true) (sym h) refl
literal_fits (Datum.int n) t h = subst (λ u. has_type (Datum.int n) u ≡ true) (sym h) refl
literal_fits (Datum.str s) t h = subst (λ u. has_type (Datum.str s) u ≡ true) (sym h) refl
literal_fits (Datum.bytes s) t h = subst (λ u. has_type (Datum.bytes s) u ≡ true) (sym h) refl
literal_fits d t h = absurd h

module _ (code : Code) (place : Place) (t : Shape) (s : State) (end : ℕ) (x : After) (ends : suc s.at ≡ end) where
  -- one line that leaves a slot
  leaf_runs : (i : Instr) (v : Slot) → LeavesSlot code i s s.stack 0 v t → HasAt code.lines s.at (line i 1 place ∷ [])
      → AfterEval code t s end x (results place no_weight v s.world) → ComesTo code s x
  leaf_runs i v row has h =
      last_line code t s s.at s.stack s.world end x i place no_weight v has.0 row ends (omega arith) h

  -- a constant
  pub constant_runs : (d : Datum) → HasConstant (tables_in code) d → HasLiteralType d t
      → HasAt code.lines s.at (line (Push (constant_number (tables_in code) d)) 1 place ∷ [])
      → AfterEval code t s end x (results place no_weight (Some d) s.world) → ComesTo code s x
  constant_runs d found literal has h =
      let n = constant_number (tables_in code) d in
      leaf_runs (Push n) (Some d) (record {
        covered = within code.constants n d found;
        charge = refl;
        acts = λ w p. λ j. Goes (record s { at = suc s.at; stack = found j ∷ s.stack; world = w });
        typed = literal_fits d t literal;
      }) has h

  -- a local
  pub local_runs : (n : ℕ) → n < length s.locals → Fits (slot_at s.locals n) t
      → HasAt code.lines s.at (line (Local n) 1 place ∷ [])
      → AfterEval code t s end x (results place no_weight (slot_at s.locals n) s.world) → ComesTo code s x
  local_runs n inside fits has h =
      leaf_runs (Local n) (slot_at s.locals n)
      (record { covered = inside; charge = refl; acts = λ w p. refl; typed = fits }) has h

  -- a static
  pub static_runs : (n : ℕ) → n < length s.statics → Fits (slot_at s.statics n) t
      → HasAt code.lines s.at (line (Static n) 1 place ∷ [])
      → AfterEval code t s end x (results place no_weight (slot_at s.statics n) s.world) → ComesTo code s x
  static_runs n inside fits has h =
      leaf_runs (Static n) (slot_at s.statics n)
      (record { covered = inside; charge = refl; acts = λ w p. refl; typed = fits }) has h

  -- the record
  pub input_runs : IsSome s.input → Fits s.input t → HasAt code.lines s.at (line Input 1 place ∷ [])
      → AfterEval code t s end x (results place no_weight s.input s.world) → ComesTo code s x
  input_runs there fits has h =
      leaf_runs Input s.input (record { covered = there; charge = refl; acts = λ w p. refl; typed = fits }) has h
