-- Each turn adds the length of one piece.
use Rattle.std.proofs.Common.{◌-◌, ◌^◌}
use Rattle.sz_print.proofs.PiecesLemmas.{length_more}
use Rattle.sz_print.proofs.pieces.length_of_all.Goals as goal

pub loop-piece-preserved : goal.loop-piece-preserved
loop-piece-preserved c =
    length_more c.args.pieces.now c.loop-piece.piece-index (2 ^ 64 - 1)
    c.loop-piece.bytes c.saturating_add-bytes.result c.piece-item.result
    c.as_slice.result.now c.loop-piece-test.true c.piece-item.is c.as_slice.ensures.value c.loop-piece.invariant
    c.saturating_add-bytes.ensures
