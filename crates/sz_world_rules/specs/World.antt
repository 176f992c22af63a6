-- What a run changes: the ticks that are left and the emits so far. It is passed from each thing that is done to the
-- next.
use Rattle.std.specs.Prelude.{ℕ, zero, suc, ◌-◌, nat_lt, if◌then◌else◌, List, [], Option, Some, None}
use Rattle.sz_types.specs.declared.place.Place.{Place}
use Rattle.sz_tabs.specs.Data.{EmitDatum}

-- the world: how many ticks are left, and the emits so far, in order
pub record World : Type 0 where
  pub left : ℕ
  pub emits : List EmitDatum

-- the world at the beginning of a run with a budget
abbrev pub new_world : ℕ → World
new_world budget = record { left = budget; emits = [] }

-- a fault: its kind, and the place in the program's text
pub record Fault : Type 0 where
  pub kind : ℕ
  pub place : Place

-- an undefined value was used
abbrev pub undefined_used : ℕ
undefined_used = 1

-- a store led outside of the value
abbrev pub store_outside : ℕ
store_outside = 2

-- a call was made while as many as possible were open
abbrev pub calls_too_deep : ℕ
calls_too_deep = 3

-- more ticks were needed than were left
abbrev pub budget_passed : ℕ
budget_passed = 4

-- how many calls can be open
abbrev pub most_open_calls : ℕ
most_open_calls = 128

-- what comes of doing something: a result and the world after it, or a fault
pub data Given (X : Type 0) : Type 0 where
  Gives : (result : X) (world : World) → Given X
  Stops : (fault : Fault) → Given X

-- something that can be done in a world, with results of this type
abbrev pub Doing : Type 0 → Type 0
Doing X = World → Given X

-- the second with the first one's result in the world after it, unless there was a fault
abbrev pub and_then : {X Y : Type 0} → Given X → (X → Doing Y) → Given Y
and_then (Gives x w) go = go x w
and_then (Stops fault) go = Stops fault

infixl 10 ◌>>=◌
-- the first and then the second, which may depend on the first one's result
abbrev pub ◌>>=◌ : {X Y : Type 0} → Doing X → (X → Doing Y) → Doing Y
first >>= second = λ w. and_then (first w) second

infixl 10 ◌>>◌
-- the first and then the second
abbrev pub ◌>>◌ : {X Y : Type 0} → Doing X → Doing Y → Doing Y
first >> second = λ w. and_then (first w) (λ _. second)

-- nothing is done, with this result
abbrev pub give : {X : Type 0} → X → Doing X
give x = λ w. Gives x w

-- the run ends in a fault
abbrev pub fails : {X : Type 0} → (kind : ℕ) → Place → Doing X
fails kind place = λ w. Stops (record { kind = kind; place = place })

-- the world with so many ticks fewer, if they are left
abbrev pub spend : ℕ → World → Option World
spend zero w = Some w
spend (suc n) w = if nat_lt n w.left then Some (record w { left = w.left - suc n }) else None

-- what comes of taking ticks: the budget is passed where they aren't left
abbrev pub paid : Place → Option World → Given (Unit {0})
paid place None = Stops (record { kind = budget_passed; place = place })
paid place (Some w) = Gives tt w

-- so many ticks are taken, at a place of the program's text
abbrev pub pay : ℕ → Place → Doing (Unit {0})
pay ticks place = λ w. paid place (spend ticks w)

-- how a run ends: with an answer, or in a fault
pub data Outcome (X : Type 0) : Type 0 where
  Done : (answer : X) → Outcome X
  Faulted : (fault : Fault) → Outcome X
