-- Tables that hold the emits of some shards.
use Rattle.std.proofs.Common.{◌≡◌, ℕ, zero, suc, ◌+◌, ◌*◌, ◌^◌, ◌<◌, ◌≤◌, List, [], ◌∷◌, ◌++◌, length, take, Some, refl, ap, sym, ◌∙◌, subst, inl, inr, ⊎_elim}
use Rattle.std.proofs.Common.{arith, append-nil, length-append}
use native.Mathlib.Nat.{mul-add}
use Rattle.std.specs.Prelude.{◌⊎◌, ◌-◌, max, All, slice_get}
use Rattle.std.proofs.lemmas.List.Elements.{All-head, All-tail}
use Rattle.sz_tabs.specs.Data.{EmitDatum}
use Rattle.sz_mean.specs.Marked.{all_tables}
use Rattle.sz_total.specs.States.{TotalState, declarations, emit_count, shown}
use Rattle.sz_total.specs.Totals.{StandsFor, IsNew, Joins}
use Rattle.sz_book_rules.specs.History.{IsAmong, AreDistinct, AreApart}
use Rattle.sz_attempt.specs.declared.job.Job.{Job}
use Rattle.sz_attempt.specs.Shards.{ShardData, IsJob, IsShardIn}
use Rattle.sz_attempt.specs.Attempts.{shard_means}
use Rattle.sz_attempt.specs.declared.job.Shard.{Shard}
use Rattle.sz_attempt.specs.Ends.{StandForEmits, seen_faults}
use Rattle.sz_attempt.proofs.ForCallers.{few_emits, take_whole, length_of_range}
use Rattle.sz_workers.specs.declared.round.Round.{Round}
use Rattle.sz_workers.specs.Outcomes.{all_records, FollowFrom}
use Rattle.sz_workers.specs.Rounds.{numbered, shards_of, AreNext, IsRound}
use Rattle.sz_workers.proofs.CountLemmas.{fewer_records, few_records}
use Rattle.sz_workers.specs.declared.first_faults.FirstFaults.{FirstFaults}
use Rattle.sz_workers.specs.FirstFaults.{merged}
use Rattle.sz_workers.specs.FirstOfBoth.{IsFirstOfBoth}
use Rattle.sz_workers.specs.Parts.{yield_in, emits_at, faults_at, faults_from, Counts, gathered, HasFirst, HoldsShards}
use Rattle.sz_workers.proofs.FaultLemmas.{merge, seen_merged, merge_fronts, merge_faults, faults_of_none, faults_of_one}
use Rattle.sz_workers.proofs.GatherLemmas.{in_order, gathered-append, gives_fewer}
use Rattle.sz_workers.proofs.WonLemmas.{among_either, distinct_joined}

module _ (job : Job) where
  -- a shard gives at most as many emits as its records may take ticks
  few_given : (shard : ShardData) → length (shard_means job shard).emits ≤ job.budget * length shard.records
  few_given shard = few_emits job shard.first shard.records

  together : (b f g m n : ℕ) → f ≤ b * m → g ≤ b * n → f + g ≤ b * (m + n)
  together b f g m n first rest = let sum = mul-add b m n in omega (arith, first, rest, sum)

  -- one shard more in front
  records_more : (shards : List ShardData) (n : ℕ)
      → length (yield_in job (slice_get shards n)).emits + job.budget * length (all_records (take n shards))
      ≤ job.budget * length (all_records (take (suc n) shards))
  records_more [] zero = omega arith
  records_more [] (suc n) = omega arith
  records_more (s ∷ shards) zero =
      let few = few_given s in
      let same = ap (λ (l : List (List ℕ)). length l) (append-nil s.records) in
      let bound : length (shard_means job s).emits ≤ job.budget * length (s.records ++ []) =
      subst (λ (n : ℕ). length (shard_means job s).emits ≤ job.budget * n) (sym same) few in
      omega (arith, bound)
  records_more (s ∷ shards) (suc n) =
      let rest = records_more shards n in
      let long = length-append s.records (all_records (take n shards)) in
      let longer = length-append s.records (all_records (take (suc n) shards)) in
      let one = ap (λ (k : ℕ). job.budget * k) long
      ∙ mul-add job.budget (length s.records) (length (all_records (take n shards))) in
      let two = ap (λ (k : ℕ). job.budget * k) longer
      ∙ mul-add job.budget (length s.records) (length (all_records (take (suc n) shards))) in
      omega (arith, rest, one, two)

  few_in_order : (shards : List ShardData) (n : ℕ)
      → length (in_order (emits_at job shards) n) ≤ job.budget * length (all_records (take n shards))
  few_in_order shards zero = omega arith
  few_in_order shards (suc n) =
      let front = few_in_order shards n in
      let more = records_more shards n in
      omega (arith, front, more, length-append (in_order (emits_at job shards) n) (emits_at job shards n))

-- a shard that counts is one of them
pub counts_low : (job : Job) (shards : List ShardData) (s : ℕ) → Counts job shards s → s < length shards
counts_low job shards s c = there shards s c.shard c.there
  where
    there : (xs : List ShardData) (i : ℕ) (x : ShardData) → slice_get xs i ≡ Some x → i < length xs
    there [] i x h = absurd (cc)
    there (y ∷ xs) zero x h = omega arith
    there (y ∷ xs) (suc i) x h = omega (arith, there xs i x h)

bound : (b m n : ℕ) → n ≤ b * m → b ≤ 2 ^ 32 → m ≤ 2 ^ 31 → n ≤ 2 ^ 63
bound b m n le few less = grind arith

-- distinct shards of a round that count have few emits
pub few_gathered : (job : Job) (round : Round) (ss : List ℕ) → IsJob job → IsRound round → AreDistinct ss
    → ((s : ℕ) → IsAmong s ss → Counts job (shards_of round) s)
    → length (gathered (emits_at job (shards_of round)) ss) ≤ 2 ^ 63
few_gathered job round ss job_is round_is d counts =
    let shards : List ShardData = shards_of round in
    let n : ℕ = length shards in
    let some = gives_fewer (emits_at job shards) n ss d (λ s in'. counts_low job shards s (counts s in')) in
    let all = few_in_order job shards n in
    let fewer = fewer_records shards n in
    let records = few_records round round_is in
    bound job.budget (length (all_records (take n shards))) (length (gathered (emits_at job shards) ss))
    (omega (arith, some, all)) job_is.budget.most (omega (arith, fewer, records))

-- no records that fault are the first of no shard
pub first_of_none : (job : Job) (round : Round) (first : FirstFaults) → first.faults ≡ [] → first.most ≡ 0
    → HasFirst job round first []
first_of_none job round first none most = record {
  first = ap seen_faults none ∙ sym (ap (take (suc job.skip)) (faults_of_none job 0 (shards_of round)));
  most = inl (refl, most);
}

-- the records of one shard that fault are the first of it
pub first_of_one : (job : Job) (round : Round) (first : FirstFaults) (s : ℕ) → Counts job (shards_of round) s
    → seen_faults first.faults ≡ faults_at job (shards_of round) s → first.most ≡ suc job.skip
    → HasFirst job round first (s ∷ [])
first_of_one job round first s c seen most =
    let same : 0 + s ≡ s = omega arith in
    let here : faults_at job (shards_of round) s ≡ (shard_means job c.shard).faults =
    ap (λ o. (yield_in job o).faults) c.there in
    let all : faults_from job (s ∷ []) 0 (shards_of round) ≡ (shard_means job c.shard).faults =
    ap (λ p. faults_from job (p ∷ []) 0 (shards_of round)) (sym same)
    ∙ faults_of_one job 0 s (shards_of round) c.shard c.there in
    record {
      first = seen ∙ here
          ∙ sym (take_whole (suc job.skip) (shard_means job c.shard).faults (let few = c.few in omega (arith, few)))
          ∙ sym (ap (take (suc job.skip)) all);
      most = inr most;
    }

-- the shards of a round follow each other
follow_numbered : (number place first : ℕ) (records : List (List ℕ)) (shards : List Shard)
    → All (IsShardIn records) shards → AreNext place first shards → FollowFrom first (numbered number records shards)
follow_numbered number place first records [] within next = tt
follow_numbered number place first records (s ∷ shards) within next =
    let here = All-head (IsShardIn records) s shards within in
    let long = length_of_range records s.start s.end here.within in (
      next.1,
      subst (λ n. FollowFrom (first + n) (numbered (suc number) records shards)) (sym long)
          (follow_numbered (suc number) s.end (first + (s.end - s.start)) records shards
          (All-tail (IsShardIn records) s shards within) next.2),
    )

pub follow_shards : (round : Round) → IsRound round → (first : ℕ) × FollowFrom first (shards_of round)
follow_shards round is = (
  is.next.1,
  follow_numbered round.first_shard is.next.0 is.next.1 round.records.items round.shards is.within is.next.2,
)

-- the first of both are the first of the shards of both
pub first_of_both : (job : Job) (round : Round) (a b new : FirstFaults) (ss ts : List ℕ) → IsRound round
    → HasFirst job round a ss → HasFirst job round b ts → AreApart ss ts → IsFirstOfBoth a b new
    → HasFirst job round new (ss ++ ts)
first_of_both job round a b new ss ts is left right apart both = by left.most right.most
  where
    all : max a.most b.most ≡ suc job.skip → HasFirst job round new (ss ++ ts)
    all most =
        let follow = follow_shards round is in
        record {
          first = ap seen_faults both.faults ∙ seen_merged (max a.most b.most) a.faults b.faults
              ∙ ap (λ n. merge n (seen_faults a.faults) (seen_faults b.faults)) most
              ∙ ap (λ l. merge (suc job.skip) l (seen_faults b.faults)) left.first
              ∙ ap (merge (suc job.skip) (take (suc job.skip) (faults_from job ss 0 (shards_of round)))) right.first
              ∙ merge_fronts (suc job.skip) (suc job.skip) (suc job.skip) (faults_from job ss 0 (shards_of round))
              (faults_from job ts 0 (shards_of round)) (omega arith) (omega arith)
              ∙ merge_faults job ss ts 0 follow.0 (shards_of round) apart follow.1 (suc job.skip);
          most = inr (both.most ∙ most);
        }

    none : ss ≡ [] → ts ≡ [] → max a.most b.most ≡ 0 → HasFirst job round new (ss ++ ts)
    none e f most =
        subst (HasFirst job round new) (sym (ap (λ l. l ++ ts) e ∙ f))
        (first_of_none job round new (both.faults ∙ ap (λ n. merged n a.faults b.faults) most) (both.most ∙ most))

    by : ((ss ≡ []) × (a.most ≡ 0)) ⊎ (a.most ≡ suc job.skip) → ((ts ≡ []) × (b.most ≡ 0)) ⊎ (b.most ≡ suc job.skip)
        → HasFirst job round new (ss ++ ts)
    by (inl (e, x)) (inl (f, y)) = none e f (omega (arith, x, y))
    by (inl (e, x)) (inr y) = all (omega (arith, x, y))
    by (inr x) (inl (f, y)) = all (omega (arith, x, y))
    by (inr x) (inr y) = all (omega (arith, x, y))

-- new tables hold no shard
pub holds_none : (job : Job) (round : Round) (total : TotalState) (first : FirstFaults) → IsJob job → IsRound round
    → IsNew declarations emit_count shown (all_tables job.compiled) total → first.faults ≡ [] → first.most ≡ 0
    → HoldsShards job round total first []
holds_none job round total first job_is round_is new none most = record {
  job_is = job_is;
  round_is = round_is;
  distinct = tt;
  counts = λ s in'. absurd in';
  stand = record { tables = new.same_tables; stands = new.empty };
  faults = first_of_none job round first none most;
}

-- the tables of one shard
pub holds_one : (job : Job) (round : Round) (total : TotalState) (first : FirstFaults) (s : ℕ)
    → IsJob job → IsRound round → Counts job (shards_of round) s
    → StandForEmits job.compiled total (emits_at job (shards_of round) s)
    → seen_faults first.faults ≡ faults_at job (shards_of round) s → first.most ≡ suc job.skip
    → HoldsShards job round total first (s ∷ [])
holds_one job round total first s job_is round_is counts stand seen most = record {
  job_is = job_is;
  round_is = round_is;
  distinct = ((λ no. no), tt);
  counts = λ t in'. ⊎_elim (λ (e : s ≡ t). subst (Counts job (shards_of round)) e counts) (λ (no : ⊥). absurd no) in';
  stand = subst (StandForEmits job.compiled total) (sym (append-nil (emits_at job (shards_of round) s))) stand;
  faults = first_of_one job round first s counts seen most;
}

-- a shard that isn't among others is apart from them
pub apart_one : (ss : List ℕ) (s : ℕ) → ¬ IsAmong s ss → AreApart ss (s ∷ [])
apart_one ss s absent t here one =
    ⊎_elim (λ (is : s ≡ t). absent (subst (λ (k : ℕ). IsAmong k ss) (sym is) here)) (λ (no : ⊥). no) one

module _ (job : Job) (round : Round) (a b : TotalState) (p q : FirstFaults) (ss ts : List ℕ)
    (left : HoldsShards job round a p ss)
    (right : HoldsShards job round b q ts) (apart : AreApart ss ts) where
  both_count : (s : ℕ) → IsAmong s (ss ++ ts) → Counts job (shards_of round) s
  both_count s in' = ⊎_elim (λ (l : IsAmong s ss). left.counts s l) (λ (r : IsAmong s ts). right.counts s r)
      (among_either s ss ts in')

  both_distinct : AreDistinct (ss ++ ts)
  both_distinct = distinct_joined ss ts left.distinct right.distinct apart

  -- there is room for the emits of both
  pub room_for_both : a.count + b.count ≤ 2 ^ 63
  room_for_both =
      let f = emits_at job (shards_of round) in
      let few = few_gathered job round (ss ++ ts) left.job_is left.round_is both_distinct both_count in
      let same = ap (λ (l : List EmitDatum). length l) (gathered-append f ss ts) in
      omega (
        arith,
        few,
        same,
        length-append (gathered f ss) (gathered f ts),
        left.stand.stands.counted,
        right.stand.stands.counted,
      )

  pub same_tables : b.tables ≡ a.tables
  same_tables = right.stand.tables ∙ sym left.stand.tables

  -- tables that join both hold the shards of both
  pub holds_both : (new : TotalState) (first : FirstFaults) → Joins declarations emit_count shown a b new
      → IsFirstOfBoth p q first → HoldsShards job round new first (ss ++ ts)
  holds_both new first joins both =
      let f = emits_at job (shards_of round) in record {
        job_is = left.job_is;
        round_is = left.round_is;
        distinct = both_distinct;
        counts = both_count;
        stand = record {
          tables = joins.same_tables ∙ left.stand.tables;
          stands = subst (StandsFor declarations emit_count shown new) (sym (gathered-append f ss ts))
              (joins.joined (gathered f ss) (gathered f ts) left.stand.stands right.stand.stands);
        };
        faults = first_of_both job round p q first ss ts left.round_is left.faults right.faults apart both;
      }
