-- What opening and reading a file do to the files of a device.
use Rattle.std.specs.Prelude.{◌≡◌, ◌≢◌, ℕ, ◌-◌, ◌^◌, ◌≤◌, ◌||◌, ◌==◌, Bool, true, false, IsTrue, List, [], ◌∷◌, ◌++◌, Option, Result, Ok, Err}
use Rattle.sz_io.specs.declared.error.OutsideError.{OutsideError}
use Rattle.sz_io.specs.declared.error.OutsideError.TheVariants.{Failed, NoMemory}

-- the names opened after a call of `open_file` with this answer: the name is added, unless memory ran out
abbrev pub names_after : List (List ℕ) → List ℕ → Result ℕ OutsideError → List (List ℕ)
names_after names name (Ok file) = names ++ name ∷ []
names_after names name (Err Failed) = names ++ name ∷ []
names_after names name (Err NoMemory) = names

-- whether a number is given after a call of `open_file` with this answer: the one answered, and those given before
abbrev pub given_after : (ℕ → Bool) → Result ℕ OutsideError → ℕ → Bool
given_after given (Ok answered) file = (file == answered) || given file
given_after given (Err error) file = given file

-- whether a call of `open_file` failed: want of memory is no failure
abbrev pub is_failed : Result ℕ OutsideError → Bool
is_failed (Err Failed) = true
is_failed result = false

-- From one moment to a later one the bytes under each name are the same, each number given stays given and has the
-- same bytes left, and the count of faults does not fall; where it stands at 2^64 - 1, it stays there.
pub record KeepsFiles {S : Type 0} (held : S → List ℕ → Option (List ℕ)) (left : S → ℕ → Option (List ℕ))
    (given : S → ℕ → Bool)
    (faults : S → ℕ) (old new : S) : Type 0 where
  pub held_same : (name : List ℕ) → held new name ≡ held old name
  pub left_same : (file : ℕ) → IsTrue (given old file) → left new file ≡ left old file
  pub given_still : (file : ℕ) → IsTrue (given old file) → IsTrue (given new file)
  pub faults_later : faults old ≤ faults new
  pub faults_stay : faults old ≡ 2 ^ 64 - 1 → faults new ≡ 2 ^ 64 - 1

-- A read of this file leaves the bytes under each name, the bytes left of every other file, the numbers given and the
-- names opened, and the count of faults does not fall; where it stands at 2^64 - 1, it stays there.
pub record KeepsOtherFiles {S : Type 0} (held : S → List ℕ → Option (List ℕ)) (left : S → ℕ → Option (List ℕ))
    (given : S → ℕ → Bool)
    (names : S → List (List ℕ)) (faults : S → ℕ) (file : ℕ) (old new : S) : Type 0 where
  pub held_same : (name : List ℕ) → held new name ≡ held old name
  pub left_same : (other : ℕ) → other ≢ file → left new other ≡ left old other
  pub given_same : (other : ℕ) → given new other ≡ given old other
  pub names_same : names new ≡ names old
  pub faults_later : faults old ≤ faults new
  pub faults_stay : faults old ≡ 2 ^ 64 - 1 → faults new ≡ 2 ^ 64 - 1
