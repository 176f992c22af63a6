use Rattle.std.proofs.Common.{subst, arith}
use Rattle.sz_workers.specs.Ends.{IsEndOf}
use Rattle.sz_workers.proofs.RestLemmas.{bad_ends, part_ends, lost_there}
use Rattle.sz_workers.proofs.round_end.run_shard.Goals as goal

pub returns-in-Bad : goal.returns-in-Bad
returns-in-Bad g c =
    let job = c.args.job.now in
    let round = c.args.round.now in
    let end =
    subst (IsEndOf job round c.args.place c.loop-number.number) c.in-Bad.is c.in_ok-run_attempt.ensures.value in
    record {
      value = bad_ends job round c.args.place c.loop-number.number c.in-Bad.faults
          (omega (arith, c.loop-number-test.true)) end;
    }

pub returns-in-Part : goal.returns-in-Part
returns-in-Part g c =
    let job = c.args.job.now in
    let round = c.args.round.now in
    let end =
    subst (IsEndOf job round c.args.place c.loop-number.number) c.in-Part.is c.in_ok-run_attempt.ensures.value in
    record {
      value = part_ends job round c.args.place c.loop-number.number c.in-Part.total c.in-Part.faults
          (omega (arith, c.loop-number-test.true)) end;
    }

-- all attempts died
pub returns : goal.returns
returns g c = record {
  value = lost_there c.args.job.now c.args.round.now c.args.place c.loop-number.number c.requires.within
      (omega (arith, c.loop-number-test.false)) c.loop-number.invariant;
}
