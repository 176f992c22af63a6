-- How a round that is set ends: by a record or a shard in front of one that is left, by that one, or by the whole pool.
use Rattle.std.proofs.Common.{◌≡◌, ◌⊎◌, ℕ, zero, suc, ◌+◌, ◌-◌, ◌^◌, ◌<◌, ◌≤◌, List, [], ◌∷◌, length, Bool, true, false, Option, Some, None, refl, sym, ap, ◌∙◌, subst}
use Rattle.std.proofs.Common.{inl, inr, arith, le_refl}
use Rattle.std.specs.Prelude.{slice_get, slice_index, nat_lt, if◌then◌else◌}
use Rattle.std.proofs.lemmas.Bool.Decides.{nat_tests}
use Rattle.sz_machine.specs.Ends.{seen_fault}
use Rattle.sz_total.specs.States.{TotalState}
use Rattle.sz_total.specs.Laws.{ForgetsOrder}
use Rattle.sz_book_rules.specs.Plan.{PlanData}
use Rattle.sz_book_rules.specs.History.{IsAmong}
use Rattle.sz_attempt.specs.declared.job.Job.{Job}
use Rattle.sz_attempt.specs.declared.job.Shard.{Shard}
use Rattle.sz_attempt.specs.declared.ends.Skipped.{Skipped}
use Rattle.sz_attempt.specs.Shards.{shard_at, IsJob}
use Rattle.sz_attempt.specs.Ends.{seen_faults}
use Rattle.sz_workers.specs.declared.round.Round.{Round}
use Rattle.sz_workers.specs.declared.round.RoundEnd.TheVariants as ends
use Rattle.sz_workers.specs.Outcomes.{faulted, lost, outcome_from}
use Rattle.sz_workers.specs.Rounds.{shards_of, IsRound, EndsRound}
use Rattle.sz_workers.proofs.OutcomeLemmas.{none_beyond}
use Rattle.sz_workers.proofs.RoundLemmas.{length-numbered, numbered_at, same_there}
use Rattle.sz_workers.specs.declared.first_faults.FirstFaults.{FirstFaults}
use Rattle.sz_workers.specs.declared.round_end.Rest.TheVariants as rests
use Rattle.sz_workers.specs.FirstOfBoth.{IsFirstOfBoth}
use Rattle.sz_workers.specs.Parts.{HoldsShards}
use Rattle.sz_workers.specs.RoundRuns.{IsSet, AreWords, HasFront, NoneInFront, RestEnds, one_too_many, in_front}
use Rattle.sz_workers.proofs.PartLemmas.{holds_one}
use Rattle.sz_workers.proofs.DecideLemmas.{fault_before, none_before_by, later_before, fault_of_all}
use Rattle.sz_workers.proofs.LeftLemmas.{tables_of_all, bad_decides}
use Rattle.sz_workers.proofs.RestLemmas.{died_by_words, lost_there, lost_ends}

-- a record that is found in front of a number, and none
in_front_some : (first : ℕ) (found : Option Skipped) (one : Skipped) → in_front first found ≡ Some one
    → (found ≡ Some one) × (one.record_no < first)
in_front_some first None one is = absurd (cc)
in_front_some first (Some x) one is = by (nat_lt x.record_no first) refl is
  where
    same : (a : Skipped) → Some a ≡ Some one → a ≡ one
    same a e = cc

    tested : (a b : ℕ) → nat_lt a b ≡ true → a < b
    tested a b t = grind (arith, nat_tests)

    by : (b : Bool) → nat_lt x.record_no first ≡ b → (if b then Some x else None) ≡ Some one
        → (Some x ≡ Some one) × (one.record_no < first)
    by true t h = (h, subst (λ (s : Skipped). s.record_no < first) (same x h) (tested x.record_no first t))
    by false t h = absurd (cc)

in_front_none : (first : ℕ) (found : Option Skipped) → in_front first found ≡ None
    → (found ≡ None) ⊎ ((one : Skipped) × (found ≡ Some one) × (first ≤ one.record_no))
in_front_none first None is = inl refl
in_front_none first (Some x) is = by (nat_lt x.record_no first) refl is
  where
    tested : (a b : ℕ) → nat_lt a b ≡ false → b ≤ a
    tested a b t = grind (arith, nat_tests)

    by : (b : Bool) → nat_lt x.record_no first ≡ b → (if b then Some x else None) ≡ None
        → (Some x ≡ None) ⊎ ((one : Skipped) × (Some x ≡ Some one) × (first ≤ one.record_no))
    by true t h = absurd (cc)
    by false t h = inr (x, refl, tested x.record_no first t)

-- where none is too many, there are few
pub few_skipped : (job : Job) (round : Round) (faults : List Skipped) → one_too_many job round faults ≡ None
    → length faults ≤ job.skip
few_skipped job round faults none = let beyond = none_beyond faults (job.skip - round.passed) none in
    omega (arith, beyond)

got_low : {A : Type 0} (xs : List A) (i : ℕ) (x : A) → slice_get xs i ≡ Some x → i < length xs
got_low [] i x there = absurd (cc)
got_low (y ∷ xs) zero x there = omega arith
got_low (y ∷ xs) (suc i) x there = let rest = got_low xs i x there in omega (arith, rest)

module _ (named : Job) (of : Round) (job : Job) (round : Round) (p : PlanData) (set : IsSet named of job round p) where
  holds_here : (total : TotalState) (part : FirstFaults) (ss : List ℕ) → HoldsShards named of total part ss
      → HoldsShards job round total part ss
  holds_here total part ss holds =
      subst (λ (j : Job). HoldsShards j round total part ss) (sym set.job_is)
      (subst (λ (r : Round). HoldsShards named r total part ss) (sym set.round_is) holds)

  pub few_passed : round.passed ≤ job.skip
  few_passed =
      subst (λ (j : Job). round.passed ≤ j.skip) (sym set.job_is)
      (subst (λ (r : Round). r.passed ≤ named.skip) (sym set.round_is) set.passed)

  module _ (total : TotalState) (part : FirstFaults) (ss : List ℕ) (n : ℕ)
      (holds : HoldsShards named of total part ss) (front : HasFront ss n) where
    -- a record too many in front of a shard decides
    pub front_decides : (shard : Shard) → slice_get round.shards n ≡ Some shard → (one : Skipped)
        → in_front shard.first (one_too_many job round part.faults) ≡ Some one
        → outcome_from job round.passed (shards_of round) ≡ faulted one.record_no (seen_fault one.fault)
    front_decides shard there one is =
        let found = in_front_some shard.first (one_too_many job round part.faults) one is in
        fault_before job round few_passed total part ss (holds_here total part ss holds) n front
        (shard_at (round.first_shard + n) round.records.items shard)
        (numbered_at round.first_shard round.records.items round.shards n shard there) one
        found.0 found.1

    -- and where there is none, no shard in front does
    pub none_in_front : (shard : Shard) → slice_get round.shards n ≡ Some shard
        → in_front shard.first (one_too_many job round part.faults) ≡ None → NoneInFront job round n
    none_in_front shard there is = by (in_front_none shard.first (one_too_many job round part.faults) is)
      where
        by : (one_too_many job round part.faults ≡ None)
            ⊎ ((one : Skipped) × (one_too_many job round part.faults ≡ Some one) × (shard.first ≤ one.record_no))
            → NoneInFront job round n
        by (inl none) =
            none_before_by job round few_passed total part ss (holds_here total part ss holds) n front
            (shard_at (round.first_shard + n) round.records.items shard)
            (numbered_at round.first_shard round.records.items round.shards n shard there) none
        by (inr later) =
            later_before job round few_passed total part ss (holds_here total part ss holds) n front
            (shard_at (round.first_shard + n) round.records.items shard)
            (numbered_at round.first_shard round.records.items round.shards n shard there)
            later.0 later.1 later.2

    all_there : p.shards ≤ n → length (shards_of round) ≤ n
    all_there enough =
        let long = length-numbered round.first_shard round.records.items round.shards in
        let same = ap (λ (r : Round). length r.shards) set.round_is in
        let count = ap (λ (q : PlanData). q.shards) set.plan in omega (arith, long, same, count, enough)

    -- where all shards are in the pool, a record too many decides
    pub fault_decides : p.shards ≤ n → (one : Skipped) → one_too_many job round part.faults ≡ Some one
        → outcome_from job round.passed (shards_of round) ≡ faulted one.record_no (seen_fault one.fault)
    fault_decides enough one is =
        fault_of_all job round few_passed total part ss (holds_here total part ss holds) n front
        (all_there enough) one is

    -- and where there is none, the round ends with the tables, and with so many records that were passed over
    pub tables_end : ForgetsOrder → p.shards ≤ n → one_too_many job round part.faults ≡ None → (count : ℕ)
        → count ≡ length part.faults
        → EndsRound job.compiled (outcome_from job round.passed (shards_of round)) (ends.Tables total count)
    tables_end forgets enough none count is =
        let there = all_there enough in
        subst
        (λ k. EndsRound job.compiled (outcome_from job round.passed (shards_of round)) (ends.Tables total k)) (sym is)
        (tables_of_all job round total part ss few_passed forgets (holds_here total part ss holds)
        (λ s l. front s (omega (arith, l, there))) none)

  -- a shard is lost where the words tell that all its attempts died
  pub lost_by_words : (won deaths : List ℕ) (n : ℕ) → AreWords named of won deaths → n < length round.shards
      → slice_index deaths n ≡ 2 ^ job.attempts - 1 → NoneInFront job round n
      → outcome_from job round.passed (shards_of round) ≡ lost (round.first_shard + n)
  lost_by_words won deaths n words within all none =
      let here = subst (λ (j : Job). AreWords j round won deaths) (sym set.job_is)
      (subst (λ (r : Round). AreWords named r won deaths) (sym set.round_is) words) in
      let found = lost_there job round n job.attempts within (le_refl job.attempts)
      (died_by_words job round won deaths n job.attempts here all) in
      lost_ends job round n found.0 within found.1 found.2 none

  -- the part of a shard that was run holds it
  pub part_is_one : (total : TotalState) (faults : List Skipped) (first : FirstFaults) (n : ℕ)
      → RestEnds job round n (rests.Part total faults)
      → first.faults ≡ faults → first.most ≡ job.skip + 1 → HoldsShards named of total first (n ∷ [])
  part_is_one total faults first n end same most =
      let runs = subst (λ (j : Job). IsJob j) (sym set.job_is) set.job_runs in
      let rounds = subst (λ (r : Round). IsRound r) (sym set.round_is) set.round_runs in
      let one : HoldsShards job round total first (n ∷ []) =
      holds_one job round total first n runs rounds end.0 end.1 (ap seen_faults same ∙ end.2) (omega (arith, most)) in
      subst (λ (r : Round). HoldsShards named r total first (n ∷ [])) set.round_is
      (subst (λ (j : Job). HoldsShards j round total first (n ∷ [])) set.job_is one)

  -- with a bad shard one record is too many, and decides
  module _ (total : TotalState) (part theirs both : FirstFaults) (ss : List ℕ) (n : ℕ) (faults : List Skipped)
      (holds : HoldsShards named of total part ss) (front : HasFront ss n) (absent : ¬ IsAmong n ss)
      (end : RestEnds job round n (rests.Bad faults)) (same : theirs.faults ≡ faults)
      (most : theirs.most ≡ job.skip + 1) (joins : IsFirstOfBoth part theirs both) where
    found : (one : Skipped) × (slice_get both.faults (job.skip - round.passed) ≡ Some one)
        × (outcome_from job round.passed (shards_of round) ≡ faulted one.record_no (seen_fault one.fault))
    found =
        bad_decides job round total part theirs both ss n few_passed (holds_here total part ss holds) front absent end.0
        (ap seen_faults same ∙ end.1) (omega (arith, most)) joins

    pub bad_within : job.skip - round.passed < length both.faults
    bad_within = got_low both.faults (job.skip - round.passed) found.0 found.1

    pub bad_is_end : (one : Skipped) → slice_get both.faults (job.skip - round.passed) ≡ Some one
        → outcome_from job round.passed (shards_of round) ≡ faulted one.record_no (seen_fault one.fault)
    bad_is_end one there =
        let is = same_there both.faults (job.skip - round.passed) found.0 one found.1 there in
        found.2 ∙ ap (λ (s : Skipped). faulted s.record_no (seen_fault s.fault)) is
