use Rattle.std.proofs.Common.{drop, ◌+◌, sym, ap, ◌∙◌}
use Rattle.sz_protofile.specs.Names.{spelled}
use Rattle.sz_protofile.specs.Faults.{Before, first_fault}
use Rattle.sz_protofile_names.specs.Seen.{seen_before}
use Rattle.sz_protofile_names.proofs.LoopLemmas.{fault_here, fault_step, fault_end}
use Rattle.sz_protofile_names.proofs.fault.first_fault.Goals as goal

pub returns-in-Some : goal.returns-in-Some
returns-in-Some c = record {
  value = sym (fault_here (spelled c.args.bytes.now) c.args.lines.now c.loop-line.line-index _
      c.loop-line-test.true c.args.known.now (seen_before c.loop-line.before)
      c.in-Some.fault (sym c.in_ok-fault.ensures.fault ∙ c.in-Some.is)) ∙ c.loop-line.invariant;
}

pub loop-line-preserved : goal.loop-line-preserved
loop-line-preserved c =
    ap (λ (b : Before). first_fault (spelled c.args.bytes.now) c.args.known.now b
    (drop (c.loop-line.line-index + 1) c.args.lines.now)) (c.in_ok-fault.ensures.taken c.in_default.is)
    ∙ sym (fault_step (spelled c.args.bytes.now) c.args.lines.now c.loop-line.line-index _
    c.loop-line-test.true c.args.known.now (seen_before c.loop-line.before)
    (sym c.in_ok-fault.ensures.fault ∙ c.in_default.is))
    ∙ c.loop-line.invariant

pub returns : goal.returns
returns c = record {
  value = sym (fault_end (spelled c.args.bytes.now) c.args.lines.now c.loop-line.line-index c.loop-line-test.false
      c.args.known.now (seen_before c.loop-line.before)) ∙ c.loop-line.invariant;
}
