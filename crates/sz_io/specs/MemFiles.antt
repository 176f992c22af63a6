-- Files in memory, as their callers see them.
use Rattle.std.specs.Prelude.{◌≡◌, ◌≢◌, ℕ, ◌+◌, ◌-◌, ◌^◌, ◌==◌, min, Bool, true, false, if◌then◌else◌, IsTrue, nat_lt}
use Rattle.std.specs.Prelude.{List, [], length, map, string_bytes, Result, Ok, Err, Option, Some, None, option_and_then}
use Rattle.std.specs.List.{slice_get}
use Rattle.std.specs.Option.{option_map, option_map_or}
use Rattle.sz_io.specs.Rose.{faults_after}
use Rattle.sz_io.specs.NamedFiles.{Plan, place_in, bytes_named, left_in, faults_in, plan_at, after_call, fails_next}
use Rattle.sz_io.specs.declared.error.OutsideError.{OutsideError}
use Rattle.sz_io.specs.declared.error.OutsideError.TheVariants.{Failed, NoMemory}
use Rattle.sz_io.specs.declared.mem_files.MemFiles.{MemFiles}

-- the bytes under a name
abbrev pub bytes_under : MemFiles → List ℕ → Option (List ℕ)
bytes_under files name = bytes_named files.files.items name

-- the bytes that are left of an opened file
abbrev pub left_bytes : MemFiles → ℕ → Option (List ℕ)
left_bytes files number = left_in files.files.items files.opened.items number

-- whether a file was opened under this number: they are given from 0 on
abbrev pub is_given : MemFiles → ℕ → Bool
is_given files number = nat_lt number (length files.opened.items)

-- the names opened
abbrev pub names_opened : MemFiles → List (List ℕ)
names_opened files = map string_bytes files.names.items

-- how many calls have failed: those that a list names, and those for a name that isn't there
abbrev pub files_faults : MemFiles → ℕ
files_faults files = min (files.misses + faults_in files.files.items) (2 ^ 64 - 1)

-- the file that a name stands for, by the number of files that were put before it
abbrev pub file_of : MemFiles → List ℕ → Option ℕ
file_of files name = place_in files.files.items name

-- the file that was opened under a number
abbrev pub file_after : MemFiles → ℕ → Option ℕ
file_after files number = option_map (λ place. place.file) (slice_get files.opened.items number)

-- the plan of a file, if there is one
abbrev pub plan_of : MemFiles → Option ℕ → Option Plan
plan_of files file = option_and_then (plan_at files.files.items) file

-- A call was made on this file, or on none. It failed exactly where there is no file or the file's plan says so, it is
-- counted in this plan and in no other, each name stands for the file that it stood for, and there is one fault more
-- exactly where the call failed.
pub record CallsFile (old new : MemFiles) (file : Option ℕ) (failed : Bool) : Type 0 where
  pub fails : failed ≡ option_map_or fails_next (plan_of old file) true
  pub counted : plan_of new file ≡ option_map after_call (plan_of old file)
  pub others_same : (other : ℕ) → Some other ≢ file → plan_of new (Some other) ≡ plan_of old (Some other)
  pub names_same : (name : List ℕ) → file_of new name ≡ file_of old name
  pub faults_now : files_faults new ≡ faults_after (files_faults old) failed

-- no call was made: each plan, the file of each name and the count of faults are the same
pub record CallsNone (old new : MemFiles) : Type 0 where
  pub plans_same : (file : ℕ) → plan_of new (Some file) ≡ plan_of old (Some file)
  pub names_same : (name : List ℕ) → file_of new name ≡ file_of old name
  pub faults_same : files_faults new ≡ files_faults old

-- the call that `open_file` makes is one on the file of its name, and where memory ran out it is none
abbrev pub CallsByName : MemFiles → MemFiles → List ℕ → Result ℕ OutsideError → Type 0
CallsByName old new name (Ok number) = CallsFile old new (file_of old name) false
CallsByName old new name (Err Failed) = CallsFile old new (file_of old name) true
CallsByName old new name (Err NoMemory) = CallsNone old new

-- the file under a number after a call of `open_file` on this one: the number answered has it, and the others what
-- they had
abbrev pub after_after : (ℕ → Option ℕ) → Option ℕ → Result ℕ OutsideError → ℕ → Option ℕ
after_after following file (Ok answered) number = if number == answered then file else following number
after_after following file (Err error) number = following number

-- a call of `open_file` goes by the plan of the file of its name, and the number answered stands for this file
pub record OpensByPlan (old new : MemFiles) (name : List ℕ) (result : Result ℕ OutsideError) : Type 0 where
  pub calls : CallsByName old new name result
  pub following : (number : ℕ) → file_after new number ≡ after_after (file_after old) (file_of old name) result number

-- no file is there, and none was opened
pub record IsEmpty (files : MemFiles) : Type 0 where
  pub holds_none : (name : List ℕ) → bytes_under files name ≡ None
  pub gave_none : (number : ℕ) → IsTrue (is_given files number) → ⊥
  pub opened_none : names_opened files ≡ []
  pub no_fault : files_faults files ≡ 0

-- every number stands for the same file with the same bytes left, and the names opened and the count of faults are
-- the same
pub record SameOpened (old new : MemFiles) : Type 0 where
  pub left_same : (number : ℕ) → left_bytes new number ≡ left_bytes old number
  pub after_same : (number : ℕ) → file_after new number ≡ file_after old number
  pub plans_same : (number : ℕ) → plan_of new (file_after new number) ≡ plan_of old (file_after old number)
  pub given_same : (number : ℕ) → is_given new number ≡ is_given old number
  pub names_same : names_opened new ≡ names_opened old
  pub faults_same : files_faults new ≡ files_faults old

-- every name stands for the same file and has the bytes that it had, and every plan is the same
pub record SameNames (old new : MemFiles) : Type 0 where
  pub held_same : (name : List ℕ) → bytes_under new name ≡ bytes_under old name
  pub files_same : (name : List ℕ) → file_of new name ≡ file_of old name
  pub plans_same : (file : ℕ) → plan_of new (Some file) ≡ plan_of old (Some file)

-- The name stands for a new file, which has these bytes and this list and on which no call was made. Every other name
-- stands for the file that it stood for and has the bytes that it had, and every other file has the plan that it had.
pub record PutsFile (old new : MemFiles) (name bytes fails : List ℕ) : Type 0 where
  pub file : ℕ
  pub not_before : plan_of old (Some file) ≡ None
  pub file_now : file_of new name ≡ Some file
  pub plan_now : plan_of new (Some file) ≡ Some (record { calls = 0; fails = fails })
  pub bytes_now : bytes_under new name ≡ Some bytes
  pub others_same : (other : List ℕ) → other ≢ name → bytes_under new other ≡ bytes_under old other
  pub other_files_same : (other : List ℕ) → other ≢ name → file_of new other ≡ file_of old other
  pub other_plans_same : (other : ℕ) → other ≢ file → plan_of new (Some other) ≡ plan_of old (Some other)
