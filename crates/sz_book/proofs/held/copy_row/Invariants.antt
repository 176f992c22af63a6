use Rattle.std.proofs.Common.{◌≡◌, ◌<◌, ℕ, length}
use Rattle.std.specs.Prelude.{slice_index}
use Rattle.sz_book.proofs.held.copy_row.Given as goal

-- the front is that of the row
abbrev pub invariant-loop-i : goal.invariant-loop-i
invariant-loop-i l = (length l.into.items ≡ length l.initial.into.items)
    × ((s : ℕ) → s < l.i → slice_index l.into.items s ≡ slice_index l.row s)
