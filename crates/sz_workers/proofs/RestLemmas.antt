-- What the caller finds of a round once its workers are done.
use Rattle.std.proofs.Common.{◌≡◌, ◌⊎◌, ℕ, zero, suc, ◌+◌, ◌-◌, ◌^◌, ◌<◌, ◌≤◌, List, [], ◌∷◌, ◌++◌, length, take, Some, true, false, refl, ap, sym, ◌∙◌, subst, inl, ⊎_elim}
use Rattle.std.proofs.Common.{arith, le_refl, append-nil, eqb-true}
use Rattle.std.specs.Prelude.{Option, None, Result, Ok, Err, IfOk, IfNone, slice_get, slice_index, Bool, ◌&&◌, ◌==◌}
use Rattle.std.specs.Prelude.{nat_le}
use Rattle.std.proofs.lemmas.Bool.Decides.{nat_tests}
use Rattle.std.specs.Int.{bit_at}
use Rattle.std.proofs.lemmas.Nat.Bits.{bit_at_ones}
use Rattle.sz_tabs.specs.Data.{EmitDatum}
use Rattle.sz_total.specs.States.{TotalState}
use Rattle.sz_book.specs.Lanes.{LaneData}
use Rattle.sz_book_rules.specs.History.{IsAmong, AreDistinct, AreApart}
use Rattle.sz_workers.specs.Closing.{shards_in, IsLeft}
use Rattle.sz_workers.proofs.WonLemmas.{among_front, among_back, among_either, parts_distinct}
use Rattle.sz_attempt.specs.declared.job.Job.{Job}
use Rattle.sz_attempt.specs.Shards.{ShardData, IsJob}
use Rattle.sz_attempt.specs.declared.ends.AttemptEnd.TheVariants as answers
use Rattle.sz_attempt.specs.declared.ends.Skipped.{Skipped}
use Rattle.sz_attempt.specs.Yields.{Faulting, Yield}
use Rattle.sz_attempt.specs.Attempts.{gives, fails, passes, shard_means, end_of, dies_at, all_die, is_lost}
use Rattle.sz_attempt.specs.Ends.{StandForEmits, seen_faults}
use Rattle.sz_attempt.proofs.DeathLemmas.{passed_are_few}
use Rattle.sz_workers.specs.declared.round.Round.{Round}
use Rattle.sz_workers.specs.Outcomes.{lost, outcome_from}
use Rattle.sz_workers.specs.Rounds.{shards_of, IsRound}
use Rattle.sz_workers.specs.Ends.{IsEndOf}
use Rattle.sz_workers.proofs.OutcomeLemmas.{lost_at, gives_means, fails_means, not_all, one_more_died, fewer_died}
use Rattle.sz_workers.proofs.RoundLemmas.{length-numbered, same_there, shard_there}
use Rattle.sz_workers.specs.declared.first_faults.FirstFaults.{FirstFaults}
use Rattle.sz_workers.specs.Parts.{plan_for, yield_in, emits_at, faults_at, Counts, Dies, Bad, HoldsShards}
use Rattle.sz_book_rules.specs.Plan.{PlanData}
use Rattle.sz_workers.specs.RoundRuns.{HasFront, NoneInFront, IsSet, AreWords, IsPooled}
use Rattle.sz_workers.proofs.PartLemmas.{holds_one}
use Rattle.sz_workers.proofs.DecideLemmas.{all_live}

-- too many of the records fault where they don't pass
failed_are_many : (skip : ℕ) (y : Yield) → passes skip y ≡ false → skip < length y.faults
failed_are_many skip y h = tested (length y.faults) skip h
  where
    tested : (a b : ℕ) → nat_le a b ≡ false → b < a
    tested a b e = grind (arith, nat_tests)

module _ (job : Job) (shards : List ShardData) where
  -- an attempt that gave its emits tells that its shard counts, and what it gives
  pub counts_by : (place k : ℕ) (shard : ShardData) (es : List EmitDatum) (fs : List Faulting)
      → slice_get shards place ≡ Some shard → k < job.attempts → end_of job shard k ≡ gives es fs
      → Counts job shards place × (emits_at job shards place ≡ es) × (faults_at job shards place ≡ fs)
  counts_by place k shard es fs there less end =
      let means = gives_means job shard k es fs end in (
        record {
          shard = shard;
          there = there;
          alive = not_all job shard job.attempts k less (ap dies_at end);
          few = passed_are_few job.skip (shard_means job shard) means.0;
        },
        ap (λ o. (yield_in job o).emits) there ∙ means.1.0,
        ap (λ o. (yield_in job o).faults) there ∙ means.1.1,
      )

  -- an attempt with too many records that fault tells that its shard is bad, and the first of them
  pub bad_by : (place k : ℕ) (shard : ShardData) (fs : List Faulting) → slice_get shards place ≡ Some shard
      → k < job.attempts → end_of job shard k ≡ fails fs
      → Bad job shards place × (fs ≡ take (suc job.skip) (faults_at job shards place))
  bad_by place k shard fs there less end =
      let means = fails_means job shard k fs end in (
        record {
          shard = shard;
          there = there;
          alive = not_all job shard job.attempts k less (ap dies_at end);
          many = failed_are_many job.skip (shard_means job shard) means.0;
        },
        sym means.1 ∙ sym (ap (λ o. take (suc job.skip) (yield_in job o).faults) there),
      )

pub front_with : (ss : List ℕ) (n : ℕ) → HasFront ss n → IsAmong n ss → HasFront ss (n + 1)
front_with ss n front here s less =
    ⊎_elim (λ (e : n ≡ s). subst (λ (k : ℕ). IsAmong k ss) e here) (λ (l : s < n). front s l) (last_or_less n s less)
  where
    last_or_less : (n s : ℕ) → s < n + 1 → (n ≡ s) ⊎ (s < n)
    last_or_less n s less = grind arith

pub front_added : (ss : List ℕ) (n : ℕ) → HasFront ss n → HasFront (ss ++ n ∷ []) (n + 1)
front_added ss n front =
    front_with (ss ++ n ∷ []) n (λ s l. among_front s ss (n ∷ []) (front s l)) (among_back n ss (n ∷ []) (inl refl))

-- the shard at a place was settled
pub pooled_settled : (won ss : List ℕ) (n : ℕ) → IsPooled won ss n → 0 < slice_index won n → IsPooled won ss (n + 1)
pooled_settled won ss n h some = record {
  front = front_with ss n h.front (h.settled n some);
  settled = h.settled;
  only = λ s le in'. h.only s (omega (arith, le)) in';
}

-- it was not, and is in the list now
pub pooled_added : (won ss : List ℕ) (n : ℕ) → IsPooled won ss n → IsPooled won (ss ++ n ∷ []) (n + 1)
pooled_added won ss n h = record {
  front = front_added ss n h.front;
  settled = λ s some. among_front s ss (n ∷ []) (h.settled s some);
  only = λ s le in'. ⊎_elim (λ (a : IsAmong s ss). h.only s (omega (arith, le)) a)
      (λ (b : IsAmong s (n ∷ [])). ⊎_elim (λ (e : n ≡ s). absurd (omega (arith, le, e))) (λ (no : ⊥). absurd no) b)
      (among_either s ss (n ∷ []) in');
}

-- the same where it was run, and the round goes on
pub pooled_more : {A E : Type 0} (r : Result (Option A) E) (won ss new : List ℕ) (n : ℕ) → IsPooled won ss n
    → IfOk r (λ end. IfNone end (new ≡ ss ++ n ∷ [])) → IfOk r (λ end. IfNone end (IsPooled won new (n + 1)))
pooled_more (Err e) won ss new n pooled more = tt
pooled_more (Ok None) won ss new n pooled more =
    subst (λ (l : List ℕ). IsPooled won l (n + 1)) (sym more) (pooled_added won ss n pooled)
pooled_more (Ok (Some x)) won ss new n pooled more = tt

pub pooled_absent : (won ss : List ℕ) (n : ℕ) → IsPooled won ss n → slice_index won n ≡ 0 → ¬ IsAmong n ss
pooled_absent won ss n h none in' = absurd (let some = h.only n (le_refl n) in' in omega (arith, some, none))

-- with what the workers left in the list
pub pooled_open : (died : ℕ → ℕ → Type 0) (p : PlanData) (lanes pockets : List LaneData) (won deaths ss : List ℕ)
    → IsLeft died p lanes pockets won deaths → ss ≡ shards_in lanes ++ shards_in pockets → IsPooled won ss 0
pooled_open died p lanes pockets won deaths ss h is = subst (λ (l : List ℕ). IsPooled won l 0) (sym is) (record {
  front = λ s low. absurd (omega (arith, low));
  settled = h.settled;
  only = λ s le in'. h.only s in';
})

-- what comes of an attempt
pub part_ends : (job : Job) (round : Round) (place k : ℕ) (total : TotalState) (faults : List Skipped)
    → k < job.attempts → IsEndOf job round place k (answers.Part total faults)
    → Counts job (shards_of round) place × StandForEmits job.compiled total (emits_at job (shards_of round) place)
    × (seen_faults faults ≡ faults_at job (shards_of round) place)
part_ends job round place k total faults less end =
    let c = counts_by job (shards_of round) place k end.0 end.2.0 (seen_faults faults) end.1 less end.2.1 in
    (c.0, subst (StandForEmits job.compiled total) (sym c.1) end.2.2, sym c.2)

pub bad_ends : (job : Job) (round : Round) (place k : ℕ) (faults : List Skipped) → k < job.attempts
    → IsEndOf job round place k (answers.Bad faults) → Bad job (shards_of round) place
    × (seen_faults faults ≡ take (suc job.skip) (faults_at job (shards_of round) place))
bad_ends job round place k faults less end =
    bad_by job (shards_of round) place k end.0 (seen_faults faults) end.1 less end.2

pub part_holds : (job : Job) (round : Round) (place k : ℕ) (total : TotalState) (faults : List Skipped)
    (first : FirstFaults) → IsJob job → IsRound round → k < job.attempts → first.faults ≡ faults
    → first.most ≡ suc job.skip → IsEndOf job round place k (answers.Part total faults)
    → HoldsShards job round total first (place ∷ [])
part_holds job round place k total faults first job_is round_is less same most end =
    let h = part_ends job round place k total faults less end in
    holds_one job round total first place job_is round_is h.0 h.1 (ap seen_faults same ∙ h.2) most

-- an attempt with another end did not die
lives_by : (job : Job) (round : Round) (place k : ℕ) (shard : ShardData)
    → slice_get (shards_of round) place ≡ Some shard
    → dies_at (end_of job shard k) ≡ false → ¬ Dies job (shards_of round) place k
lives_by job round place k shard there lives d =
    let same : shard ≡ d.shard = same_there (shards_of round) place shard d.shard there d.there in
    let still : dies_at (end_of job d.shard k) ≡ false =
    subst (λ (q : ShardData). dies_at (end_of job q k) ≡ false) same lives in
    let wrong : true ≡ false = sym d.dies ∙ still in absurd (cc wrong)

pub bad_lives : (job : Job) (round : Round) (place k : ℕ) (faults : List Skipped)
    → IsEndOf job round place k (answers.Bad faults) → ¬ Dies job (shards_of round) place k
bad_lives job round place k faults end = lives_by job round place k end.0 end.1 (ap dies_at end.2)

-- an attempt that gave its emits did not die, and its shard isn't bad
pub part_lives : (job : Job) (round : Round) (place k : ℕ) (total : TotalState) (faults : List Skipped)
    → IsEndOf job round place k (answers.Part total faults)
    → ¬ Dies job (shards_of round) place k × ¬ Bad job (shards_of round) place
part_lives job round place k total faults end =
    let shards : List ShardData = shards_of round in (
      lives_by job round place k end.0 end.1 (ap dies_at end.2.1),
      (λ (f : Bad job shards place).
          let same : end.0 ≡ f.shard = same_there shards place end.0 f.shard end.1 f.there in
          let few = passed_are_few job.skip (shard_means job end.0)
          (gives_means job end.0 k end.2.0 (seen_faults faults) end.2.1).0 in
          let many = f.many in
          let long = ap (λ (q : ShardData). length (shard_means job q).faults) same in
          absurd (omega (arith, few, many, long))),
    )

-- all attempts of the shard at a place died that have a number below this one
abbrev pub AllDied : Job → Round → ℕ → ℕ → Type 0
AllDied job round place n = (shard : ShardData) → slice_get (shards_of round) place ≡ Some shard
    → all_die job shard n ≡ true

pub one_more : (job : Job) (round : Round) (place k j : ℕ) → IsEndOf job round place k (answers.Died j)
    → AllDied job round place k → AllDied job round place (k + 1)
one_more job round place k j end all shard there =
    let same = same_there (shards_of round) place end.0 shard end.1 there in
    subst (λ (q : ShardData). all_die job q (k + 1) ≡ true) same (one_more_died job end.0 k j (all end.0 end.1) end.2)

pub lost_there : (job : Job) (round : Round) (place n : ℕ) → place < length round.shards → job.attempts ≤ n
    → AllDied job round place n
    → (shard : ShardData) × (slice_get (shards_of round) place ≡ Some shard) × (is_lost job shard ≡ true)
lost_there job round place n within enough all =
    let long = length-numbered round.first_shard round.records.items round.shards in
    let found = shard_there round.first_shard round.records.items round.shards place (omega (arith, within, long)) in
    (found.shard, found.there, fewer_died job found.shard job.attempts n enough (all found.shard found.there))

-- a lost shard decides where none in front does
pub lost_ends : (job : Job) (round : Round) (place : ℕ) (shard : ShardData) → place < length round.shards
    → slice_get (shards_of round) place ≡ Some shard → is_lost job shard ≡ true → NoneInFront job round place
    → outcome_from job round.passed (shards_of round) ≡ lost (round.first_shard + place)
lost_ends job round place shard within there dead none =
    let long = length-numbered round.first_shard round.records.items round.shards in
    let found = shard_there round.first_shard round.records.items round.shards place (omega (arith, within, long)) in
    let same = same_there (shards_of round) place found.shard shard found.there there in
    lost_at job round.passed (shards_of round) place shard there
    (all_live job (shards_of round) place (λ s l. let c = none.count s l in (c.shard, c.there, c.alive))) none.few dead
    ∙ ap lost (sym (ap (λ (q : ShardData). q.number) same) ∙ found.has)

-- what the workers left tells which shards are settled, and deaths
pub are_words : (job : Job) (round : Round) (p : PlanData) (lanes pockets : List LaneData) (won deaths : List ℕ)
    → IsLeft (λ s k. Dies job (shards_of round) s k) p lanes pockets won deaths → p ≡ plan_for job round
    → AreWords job round won deaths
are_words job round p lanes pockets won deaths h is = record {
  rows = (h.rows.0 ∙ ap (λ (q : PlanData). q.shards) is, h.rows.1 ∙ ap (λ (q : PlanData). q.shards) is);
  true_deaths = h.true_deaths;
}

-- of distinct shards those in front are none of the next
pub apart_next : (ss ts rest whole : List ℕ) → AreDistinct whole → ss ++ (ts ++ rest) ≡ whole → AreApart ss ts
apart_next ss ts rest whole d is s in' other =
    (parts_distinct ss (ts ++ rest) (subst AreDistinct (sym is) d)).2 s in' (among_front s ts rest other)

-- no lane is left
pub poured_all : (ss whole : List ℕ) (lanes : List LaneData) → length lanes ≡ 0
    → ss ++ shards_in lanes ≡ whole → ss ≡ whole
poured_all ss whole [] none all = sym (append-nil ss) ∙ all
poured_all ss whole (lane ∷ lanes) none all = absurd (omega (arith, none))

-- the word at a place
pub word_at : (xs : List ℕ) (i x : ℕ) → slice_get xs i ≡ Some x → slice_index xs i ≡ x
word_at [] i x h = absurd (cc h)
word_at (y ∷ xs) zero x h = cc h
word_at (y ∷ xs) (suc i) x h = word_at xs i x h

-- the words tell that all attempts of a shard died
all_die_by : (job : Job) (shard : ShardData) (n : ℕ) → ((k : ℕ) → k < n → dies_at (end_of job shard k) ≡ true)
    → all_die job shard n ≡ true
all_die_by job shard zero each = refl
all_die_by job shard (suc k) each =
    ap (λ (b : Bool). b && all_die job shard k) (each k (omega arith))
    ∙ all_die_by job shard k (λ i low. each i (omega (arith, low)))

pub died_by_words : (job : Job) (round : Round) (won deaths : List ℕ) (place n : ℕ) → AreWords job round won deaths
    → slice_index deaths place ≡ 2 ^ n - 1 → AllDied job round place n
died_by_words job round won deaths place n words all shard there =
    all_die_by job shard n (λ k low.
    let d = words.true_deaths place k (ap (λ (m : ℕ). bit_at m k) all ∙ bit_at_ones n k low) in
    let same : d.shard ≡ shard = same_there (shards_of round) place d.shard shard d.there there in
    subst (λ (q : ShardData). dies_at (end_of job q k) ≡ true) same d.dies)

-- a job that is set has few attempts
pub few_attempts : (named : Job) (of : Round) (job : Job) (round : Round) (p : PlanData) → IsSet named of job round p
    → (1 ≤ job.attempts) × (job.attempts ≤ 8)
few_attempts named of job round p set =
    subst (λ (j : Job). (1 ≤ j.attempts) × (j.attempts ≤ 8)) (sym set.job_is) set.attempts

-- there is a word for each shard of a round that is set
pub words_there : (named : Job) (of : Round) (job : Job) (round : Round) (p : PlanData)
    (won deaths : List ℕ) (place : ℕ) → IsSet named of job round p → AreWords named of won deaths
    → place < length round.shards → (place < length won) × (place < length deaths)
words_there named of job round p won deaths place set words within =
    let same = ap (λ (r : Round). length r.shards) set.round_is in
    let rows = words.rows in (omega (arith, within, same, rows.0), omega (arith, within, same, rows.1))

-- what the test of a word found
pub word_tells : (w x y : ℕ) (b : Bool) → w ≡ x → b ≡ (x == y) → b ≡ true → w ≡ y
word_tells w x y b is test holds = is ∙ eqb-true x y (sym test ∙ holds)

pub some_word : (w x : ℕ) → w ≡ x → ¬ (x ≡ 0) → 0 < w
some_word zero x is some = absurd (some (sym is))
some_word (suc w) x is some = omega arith

-- the lanes and then the pockets are poured into a pool without shards
pub first_poured : (ss : List ℕ) (lanes pockets : List LaneData) → ss ≡ []
    → AreDistinct (shards_in lanes ++ shards_in pockets) → AreDistinct (ss ++ shards_in lanes)
first_poured ss lanes pockets none d =
    subst (λ (l : List ℕ). AreDistinct (l ++ shards_in lanes)) (sym none)
    (parts_distinct (shards_in lanes) (shards_in pockets) d).0

pub then_poured : (ss ts : List ℕ) (lanes pockets : List LaneData) → ss ≡ [] → ts ≡ ss ++ shards_in lanes
    → AreDistinct (shards_in lanes ++ shards_in pockets) → AreDistinct (ts ++ shards_in pockets)
then_poured ss ts lanes pockets none is d =
    subst (λ (l : List ℕ). AreDistinct (l ++ shards_in pockets))
    (sym (is ∙ ap (λ (l : List ℕ). l ++ shards_in lanes) none)) d

pub last_poured : (died : ℕ → ℕ → Type 0) (p : PlanData) (lanes pockets : List LaneData) (won deaths ss ts us : List ℕ)
    → IsLeft died p lanes pockets won deaths → ss ≡ [] → ts ≡ ss ++ shards_in lanes → us ≡ ts ++ shards_in pockets
    → IsPooled won us 0
last_poured died p lanes pockets won deaths ss ts us left none first last =
    pooled_open died p lanes pockets won deaths us left
    (last ∙ ap (λ (l : List ℕ). l ++ shards_in pockets) (first ∙ ap (λ (l : List ℕ). l ++ shards_in lanes) none))
