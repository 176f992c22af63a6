use Rattle.std.proofs.Common.{◌<◌, ◌^◌, arith, rules, subst}
use Rattle.sz_workers.specs.Rounds.{EndsRound, shards_of}
use Rattle.sz_stream.proofs.PassedLemmas.{few_passed}
use Rattle.sz_stream.proofs.input_run.run_at_hand.Goals as goal

-- no more records are passed over than may be
pub returns-in-Tables-clause-fits : goal.returns-in-Tables-clause-fits
returns-in-Tables-clause-fits g c =
    let job = c.args.job.now in
    let round = c.args.intake.now.round in
    let gives = subst (EndsRound job.compiled _) c.in-Tables.is c.in_ok-part.ensures.value in
    let low = few_passed job round.passed (shards_of round) gives.0 c.in-Tables.passed c.requires.passed gives.1 in
    let few : c.args.job.now.skip < 2 ^ 32 = search rules in
    omega (arith, low, few)
