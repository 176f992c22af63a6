-- The line was written, or a prefix of it where a count rose.
use Rattle.sz_io.proofs.LineLemmas.{line_told}
use Rattle.sz_io.proofs.writing.write_line.Goals as goal

pub returns-clause-line : goal.returns-clause-line
returns-clause-line g c =
    line_told
    g.S.Sink c.args.sink.now c.write_whole.new.sink c.args.line.now c.write_whole.result c.write_whole.ensures.whole
    c.write_whole.ensures.prefix c.write_whole.ensures.failed c.write_whole.ensures.refused
