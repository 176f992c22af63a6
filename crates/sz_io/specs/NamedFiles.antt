-- The files that a device in memory holds, the newest last, and the bytes that opened ones have left.
use Rattle.std.specs.Prelude.{◌≡◌, ◌≢◌, ℕ, ◌+◌, ◌-◌, ◌^◌, min, Bool, false, if◌then◌else◌}
use Rattle.std.specs.Prelude.{List, [], ◌∷◌, length, drop, string_bytes, Option, Some, None, option_and_then}
use Rattle.std.specs.List.{slice_get}
use Rattle.std.specs.Option.{option_map, option_map_or}
use Rattle.std.specs.Str.{bytes_eq}
use Rattle.sz_io.specs.Listed.{listed_before, is_listed}
use Rattle.sz_io.specs.declared.named_file.NamedFile.{NamedFile}
use Rattle.sz_io.specs.declared.named_file.Place.{Place}

-- the first of two places, if it is there, and else the second
abbrev pub or_else : Option ℕ → Option ℕ → Option ℕ
or_else (Some i) other = Some i
or_else None other = other

-- the place of the newest file under the name
abbrev pub place_in : List NamedFile → List ℕ → Option ℕ
place_in [] name = None
place_in (file ∷ files) name =
    or_else (option_map (λ i. i + 1) (place_in files name))
    (if bytes_eq (string_bytes file.name) name then Some 0 else None)

-- the bytes of the file at a place
abbrev pub bytes_at : List NamedFile → ℕ → List ℕ
bytes_at files i = option_map_or (λ file. file.bytes.items) (slice_get files i) []

-- the bytes under a name
abbrev pub bytes_named : List NamedFile → List ℕ → Option (List ℕ)
bytes_named files name = option_map (bytes_at files) (place_in files name)

-- the bytes after a place
abbrev pub rest_of : List NamedFile → Place → Option (List ℕ)
rest_of files place = Some (drop place.at (bytes_at files place.file))

-- the bytes that are left of an opened file
abbrev pub left_in : List NamedFile → List Place → ℕ → Option (List ℕ)
left_in files opened number = option_and_then (rest_of files) (slice_get opened number)

-- how many calls on the files have failed
abbrev pub faults_in : List NamedFile → ℕ
faults_in [] = 0
faults_in (file ∷ files) = listed_before file.calls file.fails.items + faults_in files

-- the number of calls made on a file, which is the number of the next one, and the numbers of those that fail
pub record Plan : Type 0 where
  pub calls : ℕ
  pub fails : List ℕ

-- the plan of a file
abbrev pub file_plan : NamedFile → Plan
file_plan file = record { calls = file.calls; fails = file.fails.items }

-- the plan of the file at a place
abbrev pub plan_at : List NamedFile → ℕ → Option Plan
plan_at files i = option_map file_plan (slice_get files i)

-- a plan after one call more
abbrev pub after_call : Plan → Plan
after_call plan = record { calls = min (plan.calls + 1) (2 ^ 64 - 1); fails = plan.fails }

-- the next call of a plan is to fail
abbrev pub fails_next : Plan → Bool
fails_next plan = is_listed plan.fails plan.calls

-- whether the next call on the file at a place is to fail
abbrev pub is_next_listed : List NamedFile → ℕ → Bool
is_next_listed files i = option_map_or fails_next (plan_at files i) false

-- A call on the file at a place was counted: the names and bytes of all files and the plans of the others are the same,
-- and there is one fault more exactly where the call was to fail.
pub record CallsOneFile (old new : List NamedFile) (i : ℕ) : Type 0 where
  pub same_length : length new ≡ length old
  pub same_places : (name : List ℕ) → place_in new name ≡ place_in old name
  pub same_bytes : (k : ℕ) → bytes_at new k ≡ bytes_at old k
  pub counted : plan_at new i ≡ option_map after_call (plan_at old i)
  pub others_same : (k : ℕ) → k ≢ i → plan_at new k ≡ plan_at old k
  pub faults_now : faults_in new ≡ faults_in old + (if is_next_listed old i then 1 else 0)
