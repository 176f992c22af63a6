-- How far the search from the newest file has come.
use Rattle.std.proofs.Common.{◌≡◌, None, drop}
use Rattle.sz_io.specs.NamedFiles.{place_in}
use Rattle.sz_io.proofs.named_file.find.Given as goal

-- No file from here on has the name.
abbrev pub invariant-loop-i : goal.invariant-loop-i
invariant-loop-i l = place_in (drop l.i l.files) l.name ≡ None
