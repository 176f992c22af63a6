-- What is left of a candidate list in place.
use Rattle.std.specs.Prelude.{ℕ, suc, ◌+◌, ◌≤◌, ◌^◌, List, map, reverse, Bool, true, false}
use Rattle.sz_value.specs.Data.{Datum}
use Rattle.sz_value.specs.Seen.{seen}
use Rattle.sz_world_rules.specs.Candidates.{numbers_from}
use Rattle.sz_machine_cells.specs.declared.candidates.Left.{Left}
use Rattle.sz_machine_cells.specs.declared.candidates.Left.TheVariants.{Numbers, KeysOf, Keys}

-- the candidates that are left, the next one first
abbrev pub candidates_left : Left → List Datum
candidates_left (Numbers next count) = numbers_from next count
candidates_left (KeysOf keys) = keys
candidates_left (Keys keys) = reverse (map seen keys.items)

-- the numbers that are left fit a whole number of a program
abbrev pub AreNumbers : Left → Type 0
AreNumbers (Numbers next count) = next + count ≤ 2 ^ 63
AreNumbers (KeysOf keys) = Unit {0}
AreNumbers (Keys keys) = Unit {0}

-- the indexes below a length, or the bounds of slices up to it
abbrev pub numbers_of : Bool → ℕ → List Datum
numbers_of false len = numbers_from 0 len
numbers_of true len = numbers_from 0 (suc len)
