-- How far a job has come after its rounds, and the numbers of the round at hand.
use Rattle.std.proofs.Common.{◌≡◌, ◌∙◌, ℕ, ◌+◌, ◌-◌, ◌*◌, ◌^◌, ◌<◌, ◌≤◌, List, [], ◌∷◌, length, sym, ap, subst, arith, mul_comm}
use Rattle.sz_types.specs.Tables.{Declaration}
use Rattle.sz_tabs.specs.Data.{EmitDatum}
use Rattle.sz_total.specs.States.{TotalState, declarations, emit_count, shown}
use Rattle.sz_total.specs.Totals.{StandsFor}
use Rattle.sz_attempt.specs.declared.job.Job.{Job}
use Rattle.sz_workers.specs.Outcomes.{emitted, outcome_from, all_records}
use Rattle.sz_workers.specs.Rounds.{EndsRound, shards_of}
use Rattle.sz_workers.specs.declared.round.RoundEnd.TheVariants as ends
use Rattle.sz_workers.proofs.CountLemmas.{few_of_shards}
use Rattle.sz_journal.specs.declared.job.JobBytes.{JobBytes}
use Rattle.sz_journal.specs.declared.progress.Progress.{Progress}
use Rattle.sz_journal.specs.declared.round.RoundEntry.{RoundEntry}
use Rattle.sz_journal.specs.Rounds.{Follow, AreRounds, no_progress, progress_of, progress_after, last_progress}
use Rattle.sz_stream.specs.declared.done.Done.{Done}
use Rattle.sz_stream.specs.declared.intake.Intake.{Intake}
use Rattle.sz_stream.specs.Intakes.{CanGoOn, done_with}
use Rattle.sz_stream.specs.InputRuns.{HasRound}
use Rattle.sz_stream.proofs.RunLemmas as running
use Rattle.sz_resume.specs.Entries.{done_of}
use Rattle.sz_resume.proofs.NumberLemmas.{product}

-- ---- after rounds

-- a job may have come so far
record IsFar (name : JobBytes) (progress : Progress) : Type 0 where
  shards : progress.shards ≤ progress.records
  records : progress.records ≤ 2 ^ 31
  bytes : progress.bytes ≤ 2 ^ 40
  passed : progress.passed ≤ name.skip

module _ (name : JobBytes) (decls : List Declaration) where
  far_after : (before : Progress) (rounds : List RoundEntry) → Follow name decls before rounds → IsFar name before
      → IsFar name (progress_after before rounds)
  far_after before [] h far = far
  far_after before (r ∷ rounds) h far =
      far_after (progress_of r) rounds h.1 (record {
        shards = h.0.goes_on.shards_have_records;
        records = h.0.goes_on.records;
        bytes = h.0.goes_on.bytes;
        passed = h.0.passed;
      })

  far_of : (rounds : List RoundEntry) → AreRounds name decls rounds → IsFar name (last_progress rounds)
  far_of rounds are =
      far_after no_progress rounds are.follow (record { shards = omega arith; records = omega arith; bytes = omega arith; passed = omega arith })

  -- the input can be run on after it
  pub can_go_on : (rounds : List RoundEntry) (progress : Progress) → progress ≡ last_progress rounds → AreRounds name decls rounds
      → CanGoOn (done_of progress)
  can_go_on rounds progress is are =
      let far = subst (IsFar name) (sym is) (far_of rounds are) in record { shards = far.shards; records = far.records; bytes = far.bytes }

  -- and no more records were passed over than may be
  pub few_passed : (rounds : List RoundEntry) (progress : Progress) → progress ≡ last_progress rounds → AreRounds name decls rounds
      → progress.passed ≤ name.skip
  few_passed rounds progress is are = (subst (IsFar name) (sym is) (far_of rounds are)).passed

-- ---- the round at hand

-- the numbers of a round that has a shard
pub record HasNumbers (intake : Intake) : Type 0 where
  pub begun : 1 ≤ intake.first
  pub some : 0 < intake.closed
  pub within : intake.closed ≤ length intake.round.records.items
  pub few : intake.first + length intake.round.records.items ≤ 2 ^ 31 + 1
  pub numbers : intake.round.first_shard + length intake.round.shards ≤ 2 ^ 31 + 1
  pub closed : length (all_records (shards_of intake.round)) ≡ intake.closed

pub numbers_of : (job : Job) (intake : Intake) (emits : List EmitDatum) → HasRound job intake emits → HasNumbers intake
numbers_of job intake emits h =
    let r = h.running in
    record {
      begun = omega (arith, r.numbers);
      some = running.some_closed h.done job h.frame h.most intake emits h.read h.over r h.some;
      within = running.closed_within h.done job h.frame h.most intake emits h.read h.over r;
      few = running.few_left h.done job h.frame h.most intake emits h.read h.over r;
      numbers = running.few_numbers h.done job h.frame h.most intake emits h.read h.over r;
      closed = running.so_many h.done job h.frame h.most intake emits h.read h.over r;
    }

-- its records are counted from those that were run before
pub counted : (passed : ℕ) (intake : Intake) (done : Done) (run : ℕ) → done ≡ done_with passed intake → run ≡ intake.first - 1
    → (run ≤ done.records) × (done.records - run ≡ intake.closed)
counted passed intake done run is begun =
    let records : done.records ≡ intake.first - 1 + intake.closed = ap (λ (d : Done). d.records) is in
    (omega (arith, records, begun), omega (arith, records, begun))

-- and so is the bound
pub bound_is : (passed : ℕ) (intake : Intake) (done : Done) (run budget : ℕ) → done ≡ done_with passed intake → run ≡ intake.first - 1
    → (done.records - run) * budget ≡ intake.closed * budget
bound_is passed intake done run budget is begun = ap (λ n. n * budget) (counted passed intake done run is begun).1

-- the ticks of its records are a bound that can be saved
pub low_bound : (intake : Intake) (budget : ℕ) → HasNumbers intake → budget ≤ 2 ^ 32 → intake.closed * budget ≤ 2 ^ 63
low_bound intake budget h most = product intake.closed budget (omega (arith, h.begun, h.within, h.few)) most

-- it fits a word
pub bound_fits : (passed : ℕ) (intake : Intake) (done : Done) (run budget : ℕ) → done ≡ done_with passed intake → run ≡ intake.first - 1
    → HasNumbers intake → budget ≤ 2 ^ 32 → (done.records - run) * budget < 2 ^ 64
bound_fits passed intake done run budget is begun h most =
    let same = bound_is passed intake done run budget is begun in
    let low = low_bound intake budget h most in
    omega (arith, same, low)

module _ (job : Job) (intake : Intake) (total : TotalState) (passed : ℕ)
    (part : EndsRound job.compiled (outcome_from job intake.round.passed (shards_of intake.round)) (ends.Tables total passed)) where
  -- no more emits were counted
  pub few_emits : HasNumbers intake → total.count ≤ intake.closed * job.budget
  few_emits h =
      let few = few_of_shards job intake.round.passed (shards_of intake.round) part.0 passed part.1 in
      let here : length part.0 ≤ job.budget * intake.closed = subst (λ n. length part.0 ≤ job.budget * n) h.closed few in
      let turned : job.budget * intake.closed ≡ intake.closed * job.budget = mul_comm job.budget intake.closed in
      let same : total.count ≡ length part.0 = part.2.stands.counted in
      omega (arith, here, turned, same)

  -- the tables stand for just the emits
  pub stands_for : (emits : List EmitDatum) → outcome_from job intake.round.passed (shards_of intake.round) ≡ emitted emits passed
      → StandsFor declarations emit_count shown total emits
  stands_for emits is = subst (StandsFor declarations emit_count shown total) (same part.0 emits passed passed (sym part.1 ∙ is)) part.2.stands
    where
      same : (a b : List EmitDatum) (k m : ℕ) → emitted a k ≡ emitted b m → a ≡ b
      same a b k m e = cc

-- the numbers of its entry
pub same_done : (passed : ℕ) (intake : Intake) (done : Done) → done ≡ done_with passed intake
    → record { shards = done.shards; records = done.records; bytes = done.bytes; passed = done.passed } ≡ done_with passed intake
same_done passed intake done is = ap again is
  where
    again : Done → Done
    again d = record { shards = d.shards; records = d.records; bytes = d.bytes; passed = d.passed }
