-- The files of the system, as their callers see them.
use Rattle.std.specs.Prelude.{ℕ, Bool, nat_lt, List, length, map, string_bytes, Option, None}
use Rattle.std.specs.declared.io.traits.Read as Reading
use Rattle.std.specs.declared.io.traits.Write as Writing
use Rattle.std.specs.declared.io.traits.Seek as Seeking
use Rattle.std.specs.declared.io.traits.BufRead as Buffering
use Rattle.sz_io.specs.declared.os_files.OsFiles.{OsFiles}

-- over a runtime of type R, with its types of files, folders and input, and what these tell of themselves
module _ {R File Folder Input : Type 0} {reads : Reading.Ghosts File} {writes : Writing.Ghosts File}
    {seeks : Seeking.Ghosts File}
    {lists : Reading.Ghosts Folder} {buffers : Buffering.Ghosts Input} {enters : Reading.Ghosts Input} where
  -- the names opened
  abbrev pub system_names : OsFiles R File Folder Input reads writes seeks lists buffers enters → List (List ℕ)
  system_names files = map string_bytes files.names.items

  -- how many calls have failed
  abbrev pub system_faults : OsFiles R File Folder Input reads writes seeks lists buffers enters → ℕ
  system_faults files = files.faults.count

  -- whether a file was opened under this number: they are given from 0 on
  abbrev pub is_opened : OsFiles R File Folder Input reads writes seeks lists buffers enters → ℕ → Bool
  is_opened files number = nat_lt number (length files.opened.items)

  -- the bytes under a name are not told
  abbrev pub told_bytes : OsFiles R File Folder Input reads writes seeks lists buffers enters → List ℕ → Option (List ℕ)
  told_bytes files name = None

  -- nor are the bytes that are left of an opened file
  abbrev pub told_left : OsFiles R File Folder Input reads writes seeks lists buffers enters → ℕ → Option (List ℕ)
  told_left files number = None
