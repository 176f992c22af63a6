-- Files in memory of which no call fails, as their callers see them.
use Rattle.std.specs.Prelude.{◌≡◌, ◌≢◌, ℕ, Bool, IsTrue, nat_lt, List, [], length, map, drop, string_bytes, Option, Some, option_and_then, unwrap_or}
use Rattle.std.specs.List.{slice_get}
use Rattle.sz_io.specs.NamedFiles.{bytes_named}
use Rattle.sz_io.specs.declared.sure_files.OpenedCopy.{OpenedCopy}
use Rattle.sz_io.specs.declared.sure_files.SureFiles.{SureFiles}

-- the bytes that are left of an opened file
abbrev pub copy_left : OpenedCopy → Option (List ℕ)
copy_left file = Some (drop file.at file.bytes.items)

-- the name under which it was opened
abbrev pub copy_name : OpenedCopy → List ℕ
copy_name file = string_bytes file.name

-- the bytes under a name: those put last, or none where it was never put
abbrev pub sure_bytes : SureFiles → List ℕ → List ℕ
sure_bytes files name = unwrap_or (bytes_named files.files.items name) []

-- the bytes that are left of the file that was opened under a number
abbrev pub sure_left : SureFiles → ℕ → Option (List ℕ)
sure_left files number = option_and_then copy_left (slice_get files.opened.items number)

-- whether a file was opened under this number: they are given from 0 on
abbrev pub is_copied : SureFiles → ℕ → Bool
is_copied files number = nat_lt number (length files.opened.items)

-- the names opened
abbrev pub sure_names : SureFiles → List (List ℕ)
sure_names files = map copy_name files.opened.items

-- no name has bytes, and no file was opened
pub record AreUntouched (files : SureFiles) : Type 0 where
  pub holds_none : (name : List ℕ) → sure_bytes files name ≡ []
  pub gave_none : (number : ℕ) → IsTrue (is_copied files number) → ⊥
  pub opened_none : sure_names files ≡ []

-- the name has these bytes, and every other one has those that it had
pub record HoldsToo (old new : SureFiles) (name bytes : List ℕ) : Type 0 where
  pub bytes_now : sure_bytes new name ≡ bytes
  pub others_same : (other : List ℕ) → other ≢ name → sure_bytes new other ≡ sure_bytes old other

-- every name has the bytes that it had
abbrev pub HoldsSame : SureFiles → SureFiles → Type 0
HoldsSame old new = (name : List ℕ) → sure_bytes new name ≡ sure_bytes old name

-- the same files were opened, with the same bytes left
pub record SameCopies (old new : SureFiles) : Type 0 where
  pub left_same : (number : ℕ) → sure_left new number ≡ sure_left old number
  pub given_same : (number : ℕ) → is_copied new number ≡ is_copied old number
  pub names_same : sure_names new ≡ sure_names old
