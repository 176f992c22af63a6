use Rattle.std.proofs.Common.{IsTrue, sym, ◌∙◌, subst}
use Rattle.sz_stream.proofs.ReachLemmas.{keeps_on}
use Rattle.sz_resume.proofs.SkipLemmas.{drops_more}
use Rattle.sz_resume.proofs.skip.skip.Goals as goal

-- a piece was dropped
pub loop-left-preserved : goal.loop-left-preserved
loop-left-preserved g c =
    let files = g.F.Files in
    let file = c.args.file in
    let before = c.loop-left.invariant in
    let piece = c.in_ok-dropped.ensures in
    record {
      given = subst IsTrue (sym (c.skip_piece.ensures.kept.given_same file)) before.given;
      room = c.skip_piece.ensures.room ∙ before.room;
      has = drops_more (files.left c.args.files.now file) (files.left c.loop-left.files file) (files.left c.skip_piece.new.files file) c.args.bytes
          c.loop-left.left c.in_ok-dropped.dropped piece.value.0 before.has piece.value.1 piece.value.2 piece.within;
      kept = keeps_on files.held files.left files.given files.names files.faults file c.args.files.now c.loop-left.files c.skip_piece.new.files
          before.kept c.skip_piece.ensures.kept;
    }
