-- What contracts see of the open calls.
use Rattle.std.specs.Prelude.{ℕ, List, [], ◌∷◌, slice_set, Bool, true, false, Some, refl}
use Rattle.std.specs.Coded.{Coded, coded_list, coded×, coded_ℕ, code_by}
use Rattle.sz_value.specs.Data.{Datum}
use Rattle.sz_value.specs.Code.{slots_code, parts_code}
use Rattle.sz_world_rules.specs.Slots.{Slot}
use Rattle.sz_instr.specs.States.{Caller}

-- the locals and the candidate lists of the routine that runs, and the routines that wait, the innermost first
pub record Open : Type 0 where
  pub locals : List Slot
  pub lists : List (List Datum)
  pub callers : List Caller

-- how a routine that waits is stored
abbrev caller_code : Coded Caller
caller_code =
    code_by (List Slot × (ℕ × List (List Datum))) (coded× slots_code (coded× coded_ℕ (coded_list parts_code)))
    (λ c. (c.locals, (c.back, c.lists))) (λ p. record { locals = p.0; back = p.1.0; lists = p.1.1 }) (λ _. refl)

-- how the open calls are stored
abbrev pub open_code : Coded Open
open_code =
    code_by (List Slot × (List (List Datum) × List Caller))
    (coded× slots_code (coded× (coded_list parts_code) (coded_list caller_code)))
    (λ o. (o.locals, (o.lists, o.callers))) (λ p. record { locals = p.0; lists = p.1.0; callers = p.1.1 }) (λ _. refl)

-- the routine that runs, as one that waits and goes on at a place
abbrev pub caller : Open → ℕ → Caller
caller o back = record { locals = o.locals; back = back; lists = o.lists }

-- whether no candidate is left in the innermost list
abbrev pub is_used_up : List (List Datum) → Bool
is_used_up ([] ∷ lists) = true
is_used_up _ = false

-- the next candidate of the innermost list is in a local; or that list, which has none, is dropped
abbrev pub after_next : ℕ → Open → Open
after_next n o = by o.lists
  where
    by : List (List Datum) → Open
    by [] = o
    by ([] ∷ lists) = record o { lists = lists }
    by ((c ∷ cs) ∷ lists) = record o { locals = slice_set o.locals n (Some c); lists = cs ∷ lists }
