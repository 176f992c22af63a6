-- Pieces that are read until a round is full, each of which is wanted.
use Rattle.std.proofs.Common.{◌≡◌, ◌⊎◌, ℕ, List, Option, inl, inr}
use Rattle.sz_stream.specs.declared.intake.Intake.{Intake}
use Rattle.sz_stream.specs.Intakes.{WantsPiece, Closes}
use Rattle.sz_stream.specs.InputRuns.{Fills, ReadsPiece, ReadsNoMore}
use Rattle.sz_stream.proofs.ReachLemmas.{fills_closed}

-- a piece was read
pub fills_more : (room : ℕ) (first old new : Intake) (start left after : Option (List ℕ)) → Fills first old start left
    → ReadsPiece room old new left after → Fills first new start after
fills_more room first old new start left after fills reads = λ done job frame most emits from r.
    reads.fills done job frame most emits from (fills done job frame most emits from r)

-- a piece was read that was wanted
pub reads_no_more : (room : ℕ) (first old new : Intake) (start left after : Option (List ℕ))
    → Fills first old start left → old.first ≡ first.first
    → WantsPiece old → ReadsPiece room old new left after → ReadsNoMore room first new start after
reads_no_more room first old new start left after fills same wants reads =
    record {
      last = old;
      left = left;
      fills = fills;
      first = same;
      wants = wants;
      piece = reads.piece;
      then_fills = reads.fills;
    }

-- shards were closed, or nothing was read
pub no_more_closed : {S : Type 0} (files now : S) (room : ℕ) (first old new : Intake) (start left : Option (List ℕ))
    → Closes old new → (now ≡ files) ⊎ ReadsNoMore room first old start left
    → (now ≡ files) ⊎ ReadsNoMore room first new start left
no_more_closed files now room first old new start left c (inl same) = inl same
no_more_closed files now room first old new start left c (inr reads) = inr (record {
  last = reads.last;
  left = reads.left;
  fills = reads.fills;
  first = reads.first;
  wants = reads.wants;
  piece = reads.piece;
  then_fills = fills_closed reads.last old new reads.left left c reads.then_fills;
})
