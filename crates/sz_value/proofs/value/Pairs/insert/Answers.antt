-- Where there is no memory they stay as they were.
use Rattle.std.proofs.Common.{◌∙◌, sym, ap, length}
use Rattle.sz_value.proofs.value.Pairs.insert.Goals as goal

pub invariant_of-self : goal.invariant_of-self
invariant_of-self c = record {
  runs = c.in_err-added.ensures.runs;
  ends = c.in_err-added.ensures.ends;
  count = c.self.invariant.count ∙ sym (ap length c.in_err-added.ensures.err);
  small = c.self.invariant.small;
}
