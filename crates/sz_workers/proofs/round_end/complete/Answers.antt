use Rattle.std.proofs.Common.{◌+◌, ◌-◌, ◌^◌, sym, ap, ◌∙◌, subst}
use Rattle.sz_workers.specs.Outcomes.{lost, outcome_from}
use Rattle.sz_workers.specs.Rounds.{shards_of, EndsRound}
use Rattle.sz_workers.specs.RoundRuns.{one_too_many, in_front}
use Rattle.sz_workers.proofs.RestLemmas.{words_there, word_at, word_tells, some_word, few_attempts, pooled_settled, pooled_more, pooled_absent}
use Rattle.sz_workers.proofs.EndLemmas.{front_decides, none_in_front, lost_by_words}
use Rattle.sz_workers.proofs.round_end.complete.Goals as goal

-- each shard has its words
pub get-requires : goal.get-requires
get-requires g c =
    let there = words_there g.N.RoundName.job g.N.RoundName.round c.args.job.now c.args.round.now c.args.plan.now
    c.args.settled.now c.args.deaths.now
    c.args.place c.requires.set c.requires.words c.requires.within in record { within = there.0 }

pub get-requires-3 : goal.get-requires-3
get-requires-3 g c =
    let there = words_there g.N.RoundName.job g.N.RoundName.round c.args.job.now c.args.round.now c.args.plan.now
    c.args.settled.now c.args.deaths.now
    c.args.place c.requires.set c.requires.words c.requires.within in record { within = there.1 }

pub all_died-requires : goal.all_died-requires
all_died-requires g c =
    record {
      few = few_attempts g.N.RoundName.job g.N.RoundName.round c.args.job.now c.args.round.now
          c.args.plan.now c.requires.set;
    }

-- a worker settled the shard
pub returns-then-get-ne0-clause-pooled : goal.returns-then-get-ne0-clause-pooled
returns-then-get-ne0-clause-pooled g c =
    let is = word_at c.args.settled.now c.args.place c.get.result.now c.get.ensures.value in
    pooled_settled c.args.settled.now c.args.pool.now.shards c.args.place c.requires.pooled
    (some_word _ c.get.result.now is c.if-get-ne0.true)

-- a record too many in front of the shard decides
pub returns-in-Some-clause-value : goal.returns-in-Some-clause-value
returns-in-Some-clause-value g c =
    let job = c.args.job.now in
    let round = c.args.round.now in
    let pool = c.args.pool.now in
    let shard = c.get-2.result.now in
    let same = ap (λ faults. in_front shard.first (one_too_many job round faults)) c.as_slice-faults.ensures.value in
    subst (EndsRound job.compiled (outcome_from job round.passed (shards_of round))) (sym c.fault_end.ensures.value)
    (front_decides g.N.RoundName.job g.N.RoundName.round job round
    c.args.plan.now c.requires.set pool.part.total pool.part.first pool.shards
    c.args.place c.requires.holds c.requires.pooled.front shard c.get-2.ensures.value c.in-Some.one
    (sym same ∙ sym c.one_in_front.ensures.value ∙ c.in-Some.is))

-- all its attempts died, and none in front decides
pub returns-then-all_died-clause-value : goal.returns-then-all_died-clause-value
returns-then-all_died-clause-value g c =
    let job = c.args.job.now in
    let round = c.args.round.now in
    let pool = c.args.pool.now in
    let shard = c.get-2.result.now in
    let same = ap (λ faults. in_front shard.first (one_too_many job round faults)) c.as_slice-faults.ensures.value in
    let none = none_in_front g.N.RoundName.job g.N.RoundName.round job round
    c.args.plan.now c.requires.set pool.part.total pool.part.first
    pool.shards c.args.place c.requires.holds c.requires.pooled.front shard c.get-2.ensures.value
    (sym same ∙ sym c.one_in_front.ensures.value ∙ c.in_default.is) in
    let is = word_at c.args.deaths.now c.args.place c.get-3.result.now c.get-3.ensures.value in
    let all = word_tells _ c.get-3.result.now (2 ^ job.attempts - 1) c.all_died.result is
    c.all_died.ensures.value c.if-all_died.true in
    lost_by_words g.N.RoundName.job g.N.RoundName.round job round
    c.args.plan.now c.requires.set c.args.settled.now c.args.deaths.now c.args.place
    c.requires.words c.requires.within all none ∙ ap (λ n. lost (round.first_shard + n)) (sym c.from.ensures)

-- no worker settled it
pub run_left-requires-clause-absent : goal.run_left-requires-clause-absent
run_left-requires-clause-absent g c =
    let is = word_at c.args.settled.now c.args.place c.get.result.now c.get.ensures.value in
    pooled_absent c.args.settled.now c.args.pool.now.shards c.args.place c.requires.pooled (is ∙ c.if-get-ne0.false)

-- none in front of it decides
pub run_left-requires-clause-open : goal.run_left-requires-clause-open
run_left-requires-clause-open g c =
    let job = c.args.job.now in
    let round = c.args.round.now in
    let pool = c.args.pool.now in
    let shard = c.get-2.result.now in
    let same = ap (λ faults. in_front shard.first (one_too_many job round faults)) c.as_slice-faults.ensures.value in
    none_in_front g.N.RoundName.job g.N.RoundName.round job round
    c.args.plan.now c.requires.set pool.part.total pool.part.first pool.shards
    c.args.place c.requires.holds c.requires.pooled.front shard c.get-2.ensures.value
    (sym same ∙ sym c.one_in_front.ensures.value ∙ c.in_default.is)

-- it is in the pool now
pub returns-clause-pooled : goal.returns-clause-pooled
returns-clause-pooled g c =
    pooled_more c.run_left.result c.args.settled.now c.args.pool.now.shards c.run_left.new.pool.shards c.args.place
    c.requires.pooled c.run_left.ensures.more
