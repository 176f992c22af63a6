use Rattle.std.proofs.Common.{◌+◌, arith, drop, length-drop}
use Rattle.sz_records.specs.Steps.{IsPassed}
use Rattle.sz_records.proofs.CutLemmas.{begins, passes_on, has_grown, err_always}
use Rattle.sz_records.proofs.ScanLemmas.{none_scanned}
use Rattle.sz_records.proofs.cutter.Cutter.cut.Goals as goal

pub loop-size-preserved : goal.loop-size-preserved
loop-size-preserved c =
    let at_rest : IsPassed
    c.loop-size.self c.step.new.self c.rest.result.now c.loop-size.into c.step.new.into c.in-Passed.size =
    rw c.in-Passed.is at c.in_ok-size.ensures.step in
    let p : IsPassed c.loop-size.self c.step.new.self
    (drop c.loop-size.at c.args.bytes.now) c.loop-size.into c.step.new.into c.in-Passed.size =
    rw c.rest.ensures at at_rest in (
      passes_on c.loop-size.at c.in-Passed.size c.loop-size.invariant.0 p,
      omega
          (arith, p.within, c.loop-size.invariant.1, length-drop c.loop-size.at c.args.bytes.now),
      none_scanned c.step.new.self.frame (drop (c.loop-size.at + c.in-Passed.size) c.args.bytes.now),
    )

-- nothing was cut off so far
pub loop-size-init : goal.loop-size-init
loop-size-init c = (begins c.args.self.now c.args.bytes.now c.args.into.now, omega arith, c.requires.scanned)

-- a step that fails leaves the records as they had grown before it
pub returns-in_err-size-clause-err : goal.returns-in_err-size-clause-err
returns-in_err-size-clause-err c =
    err_always c.from_residual.result (has_grown c.loop-size.invariant.0 c.in_err-size.ensures.err)
