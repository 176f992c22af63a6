-- Where the opened files of a device in memory stand.
use Rattle.std.specs.Prelude.{◌≡◌, ℕ, ◌<◌, ◌≤◌, List, length, Some}
use Rattle.std.specs.List.{slice_get}
use Rattle.sz_io.specs.NamedFiles.{bytes_at}
use Rattle.sz_io.specs.declared.named_file.NamedFile.{NamedFile}
use Rattle.sz_io.specs.declared.named_file.Place.{Place}

-- a place is that of a file, and no further in it than its bytes go
pub record IsPlaced (files : List NamedFile) (place : Place) : Type 0 where
  pub known : place.file < length files
  pub within : place.at ≤ length (bytes_at files place.file)

-- each opened file is placed
abbrev pub ArePlaced : List NamedFile → List Place → Type 0
ArePlaced files opened = (number : ℕ) (place : Place) → slice_get opened number ≡ Some place → IsPlaced files place
