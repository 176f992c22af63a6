-- Their number stays.
use Rattle.std.proofs.Common.{arith}
use Rattle.sz_value.proofs.value.Pairs.replace.Goals as goal

pub invariant_of-self : goal.invariant_of-self
invariant_of-self c = record {
  runs = c.replace.ensures.runs;
  ends = c.replace.ensures.ends;
  count = omega (arith, c.self.invariant.count, c.replace.ensures.count);
  small = c.self.invariant.small;
}
