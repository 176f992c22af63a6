-- The run before ends there.
use Rattle.std.proofs.Common.{arith}
use Rattle.sz_value.proofs.EndLemmas.{end_before}
use Rattle.sz_value.proofs.runs.count_before.Goals as goal

pub returns : goal.returns
returns c = record {
  value = end_before c.args.runs.now c.args.at c.index-runs-at.result (omega (arith, c.if-at-eq0.false))
      c.requires.within c.requires.ends;
}
