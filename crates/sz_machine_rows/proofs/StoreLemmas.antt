-- What comes of a store, from the cell that it makes.
use Rattle.std.proofs.Common.{◌≡◌, ℕ, suc, List, Option, Some, None, slice_set, unwrap_or, ap}
use Rattle.std.specs.Option.{option_map}
use Rattle.sz_types.specs.declared.place.Place.{Place}
use Rattle.sz_value.specs.Data.{Datum}
use Rattle.sz_world_rules.specs.Slots.{Slot}
use Rattle.sz_world_rules.specs.Stores.{unless_outside}
use Rattle.sz_instr.specs.States.{State, Goes}
use Rattle.sz_instr.specs.Rows.{after_store}
use Rattle.sz_machine_cells.specs.Storing.{defined}

module _ (counting : Option ℕ) (place : Place) (n : ℕ) (s : State) (stack : List Slot) where
  -- the local holds the cell
  pub holds : (x : Option Datum) (cell : Slot) → option_map defined x ≡ Some cell
      → after_store counting (unless_outside x) place n s stack
      ≡ Goes (record s { at = suc s.at; stack = stack; locals = slice_set s.locals n cell })
  holds None cell e = absurd (cc)
  holds (Some d) cell e =
      ap (λ o. Goes (record s { at = suc s.at; stack = stack; locals = slice_set s.locals n (unwrap_or o (Some d)) })) e
