-- No file was opened.
use Rattle.std.proofs.Common.{◌≡◌, []}
use Rattle.sz_io.specs.MemFiles.{names_opened}
use Rattle.szl_tests.proofs.saving.files_of.Given as goal

abbrev pub invariant-loop-file : goal.invariant-loop-file
invariant-loop-file l = names_opened l.files ≡ []
