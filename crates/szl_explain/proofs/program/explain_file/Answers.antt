-- The line was written, or a prefix of it where a count rose.
use Rattle.std.proofs.Common.{subst}
use Rattle.sz_io.specs.Calls.{GainsLine}
use Rattle.szl_explain.proofs.program.explain_file.Goals as goal

pub returns-clause-line : goal.returns-clause-line
returns-clause-line g c =
    subst (GainsLine g.E.Sink c.args.err.now c.write_line.new.sink) c.line.ensures.value c.write_line.ensures.line
