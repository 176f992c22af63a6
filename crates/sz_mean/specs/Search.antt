-- What `when` does: the search over its variables in order, and the statement that runs where the condition holds.
use Rattle.std.specs.Prelude.{ℕ, List, [], ◌∷◌, Bool, true, false, Some}
use Rattle.sz_types.specs.declared.place.Place.{Place}
use Rattle.sz_value.specs.Data.{Datum, truth}
use Rattle.sz_core.specs.Statements.{Quantity, some, each, all}
use Rattle.sz_world_rules.specs.World.{Doing, ◌>>=◌, ◌>>◌, give, pay}
use Rattle.sz_world_rules.specs.Slots.{Slot}
use Rattle.sz_world_rules.specs.Candidates.{candidates}
use Rattle.sz_mean.specs.Endings.{Ending, Normal, Breaks, Continues, Returns, Running, with_local}

-- a quantified variable: how it is quantified, its number, whether it is a bound of a slice and no index, and what
-- its base gives
pub record Variable : Type 0 where
  pub quantity : Quantity
  pub local : ℕ
  pub slice : Bool
  pub base : List Slot → Doing Slot

-- how a search ends: it succeeded or failed, with the variables as they are then, or the statement left it by `return`
pub data Finding : Type 0 where
  Succeeds : (locals : List Slot) → Finding
  Misses : (locals : List Slot) → Finding
  Leaves : (result : Slot) → Finding

-- a search with the variables as they are
abbrev pub Searching : Type 0
Searching = List Slot → Doing Finding

-- the search goes on where it failed
abbrev pub or_else : Finding → Searching → Doing Finding
or_else (Succeeds locals) next = give (Succeeds locals)
or_else (Misses locals) next = next locals
or_else (Leaves result) next = give (Leaves result)

-- the search goes on where it succeeded
abbrev pub and_also : Finding → Searching → Doing Finding
and_also (Succeeds locals) next = next locals
and_also (Misses locals) next = give (Misses locals)
and_also (Leaves result) next = give (Leaves result)

-- the search goes on in any case, with whether it succeeded by now
abbrev pub and_each : Finding → Bool → (Bool → Searching) → Doing Finding
and_each (Succeeds locals) found next = next true locals
and_each (Misses locals) found next = next found locals
and_each (Leaves result) found next = give (Leaves result)

-- whether the search succeeded for one of all candidates
abbrev pub found_one : Bool → Searching
found_one true locals = give (Succeeds locals)
found_one false locals = give (Misses locals)

-- the first where the condition is true, else the second
abbrev pub if_met : Slot → Doing Finding → Doing Finding → Doing Finding
if_met (Some (truth true)) first second = first
if_met _ first second = second

-- the first where the condition is false, else the second
abbrev pub if_refuted : Slot → Doing Finding → Doing Finding → Doing Finding
if_refuted (Some (truth false)) first second = first
if_refuted _ first second = second

-- the search succeeds with the end of the statement. A loop outside isn't reached from inside.
abbrev pub succeeded : Ending → Doing Finding
succeeded (Normal locals) = give (Succeeds locals)
succeeded (Breaks locals) = give (Succeeds locals)
succeeded (Continues locals) = give (Succeeds locals)
succeeded (Returns result) = give (Leaves result)

-- how the whole statement ends
abbrev pub ending_of : Finding → Ending
ending_of (Succeeds locals) = Normal locals
ending_of (Misses locals) = Normal locals
ending_of (Leaves result) = Returns result

-- the place of the statement, its condition, and the statement that runs where the condition holds
module _ (place : Place) (condition : List Slot → Doing Slot) (body : Running) where
  -- a candidate is tried: the variable holds it in the rest of the search, which takes a tick before
  abbrev pub tried : ℕ → Datum → Searching → Searching
  tried n candidate rest locals = do
    pay 1 place
    rest (with_local n (Some candidate) locals)

  -- candidates are tried until the rest succeeds with one
  abbrev pub any_of : ℕ → Searching → List Datum → Searching
  any_of n rest [] locals = give (Misses locals)
  any_of n rest (c ∷ cs) locals = do
    finding ← tried n c rest locals
    or_else finding (any_of n rest cs)

  -- all candidates are tried, and the search has succeeded if the rest did with one of them
  abbrev pub each_of : ℕ → Searching → List Datum → Bool → Searching
  each_of n rest [] found locals = found_one found locals
  each_of n rest (c ∷ cs) found locals = do
    finding ← tried n c rest locals
    and_each finding found (each_of n rest cs)

  -- candidates are tried until the rest fails with one
  abbrev pub all_of : ℕ → Searching → List Datum → Searching
  all_of n rest [] locals = give (Succeeds locals)
  all_of n rest (c ∷ cs) locals = do
    finding ← tried n c rest locals
    and_also finding (all_of n rest cs)

  -- whether the condition is true or undefined for all candidates of these variables, nested in order
  abbrev pub holds : List Variable → Searching
  holds [] locals = do
    x ← condition locals
    if_refuted x (give (Misses locals)) (give (Succeeds locals))
  holds (v ∷ vs) locals = do
    x ← v.base locals
    all_of v.local (holds vs) (candidates v.slice x) locals

  -- the search over a variable with these candidates: the rest of the search, and whether the condition holds for all
  -- of the rest
  abbrev pub search_by : Quantity → ℕ → List Datum → (rest others : Searching) → Searching
  search_by some n cs rest others locals = any_of n rest cs locals
  search_by each n cs rest others locals = each_of n rest cs false locals
  search_by all n cs rest others locals = do
    finding ← all_of n others cs locals
    and_also finding (λ l. do
      ending ← body l
      succeeded ending)

  -- the search over these variables in order, of which those for all candidates come last
  abbrev pub search : List Variable → Searching
  search [] locals = do
    x ← condition locals
    if_met x (body locals >>= succeeded) (give (Misses locals))
  search (v ∷ vs) locals = do
    x ← v.base locals
    search_by v.quantity v.local (candidates v.slice x) (search vs) (holds vs) locals

  -- what `when` does
  abbrev pub exec_when : List Variable → Running
  exec_when variables locals = do
    finding ← search variables locals
    give (ending_of finding)
