-- The calls of a device in memory that are to fail, as a list of their numbers.
use Rattle.std.specs.Prelude.{ℕ, zero, suc, ◌+◌, ◌-◌, ◌^◌, Bool, ◌&&◌, if◌then◌else◌, nat_lt, nat_eq, List}
use Rattle.std.specs.List.{list_any}

-- this call is to fail: it is listed, and the number of calls does not stand at its end
abbrev pub is_listed : List ℕ → ℕ → Bool
is_listed fails call = list_any (λ k. nat_eq k call) fails && nat_lt call (2 ^ 64 - 1)

-- how many of the calls before this one were to fail: the faults of a device that has made so many calls
abbrev pub listed_before : ℕ → List ℕ → ℕ
listed_before zero fails = 0
listed_before (suc call) fails = listed_before call fails + (if is_listed fails call then 1 else 0)
