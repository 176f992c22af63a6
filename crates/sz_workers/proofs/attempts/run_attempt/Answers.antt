use Rattle.std.proofs.Common.{◌+◌, ap, subst}
use Rattle.std.proofs.lemmas.Result.{IfOk-weaker}
use Rattle.sz_attempt.specs.Shards.{shard_at}
use Rattle.sz_attempt.specs.Attempts.{end_of}
use Rattle.sz_attempt.specs.Ends.{EndsSo}
use Rattle.sz_workers.specs.Ends.{IsEndOf}
use Rattle.sz_workers.proofs.RoundLemmas.{numbered_at}
use Rattle.sz_workers.proofs.attempts.run_attempt.Goals as goal

-- the shard at hand is the one with this number
pub returns : goal.returns
returns g c =
    let round = c.args.round.now in
    let place = c.args.place in
    let there = numbered_at round.first_shard round.records.items round.shards place
    c.get-shard.result.now c.get-shard.ensures.value in
    let number = ap (λ n. round.first_shard + n) c.from.ensures in
    record {
      value = IfOk-weaker c.attempt_in.result
          (EndsSo c.args.job.now.compiled (end_of c.args.job.now (shard_at
          (round.first_shard + c.from.result) round.records.items c.get-shard.result.now) c.args.number))
          (IsEndOf c.args.job.now round place c.args.number)
          (λ end is. (
            shard_at (round.first_shard + place) round.records.items c.get-shard.result.now,
            there,
            subst (λ n. EndsSo c.args.job.now.compiled (end_of c.args.job.now
                (shard_at n round.records.items c.get-shard.result.now) c.args.number) end) number is,
          ))
          c.attempt_in.ensures.value;
    }
