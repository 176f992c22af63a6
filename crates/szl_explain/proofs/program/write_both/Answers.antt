-- A front of both texts was written.
use Rattle.szl_explain.proofs.AnswerLemmas.{part_of_first, part_of_second, on_err}
use Rattle.szl_explain.proofs.program.write_both.Goals as goal

-- of the first, or of the second behind the first
pub returns-in_err-write_whole-clause-part : goal.returns-in_err-write_whole-clause-part
returns-in_err-write_whole-clause-part g c =
    on_err c.from_residual.result (part_of_first (g.O.Sink.taken c.args.out.now)
    (g.O.Sink.taken c.write_whole.new.sink) c.args.line.now c.args.more.now
    c.in_err-write_whole.field-0.0 c.in_err-write_whole.ensures.prefix c.in_err-write_whole.ensures.within)

pub returns-clause-part : goal.returns-clause-part
returns-clause-part g c =
    part_of_second (g.O.Sink.taken c.args.out.now) (g.O.Sink.taken c.write_whole.new.sink)
    (g.O.Sink.taken c.write_whole-2.new.sink) c.args.line.now c.args.more.now c.write_whole-2.result
    c.in_ok-write_whole.ensures.whole c.write_whole-2.ensures.prefix c.write_whole-2.ensures.within
