use Rattle.std.proofs.Common.{◌≡◌, ◌+◌, ◌*◌, ◌<◌, ℕ, length}
use Rattle.std.specs.Prelude.{slice_index}
use Rattle.std.specs.Mem.Slots.{slots_items}
use mathlib.Core.Option.{some}
use lib.ListN.{get_elem?}
use Rattle.sz_claims.proofs.words.copy_words.Given as goal

abbrev pub invariant-loop-i : goal.invariant-loop-i
invariant-loop-i g l = (length l.words.items ≡ length l.initial.words.items)
    × ((k : ℕ) → k < l.i → get_elem? (slots_items l.closed.words) (3 * k + l.first) ≡ some (slice_index l.words.items k))
