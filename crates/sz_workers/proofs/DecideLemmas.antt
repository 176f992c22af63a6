-- Which record or shard decides a round, by the first records of the pool that fault.
use Rattle.std.proofs.Common.{◌≡◌, ℕ, zero, suc, ◌+◌, ◌-◌, ◌<◌, ◌≤◌, List, [], ◌∷◌, ◌++◌, length, take, drop, map, Some, None, false, refl, sym, ap, ◌∙◌, subst}
use Rattle.std.proofs.Common.{arith, append-nil, length-append}
use Rattle.std.specs.Prelude.{slice_get}
use Rattle.std.proofs.lemmas.List.{length-map}
use Rattle.sz_machine.specs.Ends.{seen_fault}
use Rattle.sz_total.specs.States.{TotalState}
use Rattle.sz_book_rules.specs.History.{IsAmong}
use Rattle.sz_attempt.specs.declared.job.Job.{Job}
use Rattle.sz_attempt.specs.declared.ends.Skipped.{Skipped}
use Rattle.sz_attempt.specs.Shards.{ShardData}
use Rattle.sz_attempt.specs.Yields.{Faulting}
use Rattle.sz_attempt.specs.Attempts.{is_lost}
use Rattle.sz_attempt.specs.Ends.{seen_skipped}
use Rattle.sz_attempt.proofs.ForCallers.{take_whole, take_short}
use Rattle.sz_workers.specs.declared.round.Round.{Round}
use Rattle.sz_workers.specs.Outcomes.{faulted, outcome_from, faults_in}
use Rattle.sz_workers.specs.Rounds.{shards_of}
use Rattle.sz_workers.proofs.OutcomeLemmas.{none_beyond, AllLive, fault_in_front}
use Rattle.sz_workers.specs.declared.first_faults.FirstFaults.{FirstFaults}
use Rattle.sz_workers.specs.Parts.{faults_from, HasFirst, HoldsShards}
use Rattle.sz_workers.specs.RoundRuns.{HasFront, NoneInFront, one_too_many}
use Rattle.sz_workers.proofs.FaultLemmas.{AreFrom, faults_numbered, faults_of_front, follow_drop, faults_below, got_in_front, got_behind}
use Rattle.sz_workers.proofs.PartLemmas.{follow_shards}

some_is : {A : Type 0} (x y : A) → Some x ≡ Some y → x ≡ y
some_is x y e = cc

-- items of a list that is mapped or cut
pub got_mapped : {A B : Type 0} (f : A → B) (xs : List A) (i : ℕ) (x : A) → slice_get xs i ≡ Some x
    → slice_get (map f xs) i ≡ Some (f x)
got_mapped f [] i x there = absurd (cc)
got_mapped f (y ∷ xs) zero x there = ap (λ z. Some (f z)) (some_is y x there)
got_mapped f (y ∷ xs) (suc i) x there = got_mapped f xs i x there

pub got_taken : {A : Type 0} (n : ℕ) (xs : List A) (i : ℕ) → i < n → slice_get (take n xs) i ≡ slice_get xs i
got_taken zero xs i less = absurd (omega arith)
got_taken (suc n) [] i less = refl
got_taken (suc n) (x ∷ xs) zero less = refl
got_taken (suc n) (x ∷ xs) (suc i) less = got_taken n xs i (omega (arith, less))

pub cut_at : {A : Type 0} (n : ℕ) (xs : List A) → take n xs ++ drop n xs ≡ xs
cut_at zero xs = refl
cut_at (suc n) [] = refl
cut_at (suc n) (x ∷ xs) = ap (λ l. x ∷ l) (cut_at n xs)

all_taken : {A : Type 0} (xs : List A) → take (length xs) xs ≡ xs
all_taken [] = refl
all_taken (x ∷ xs) = ap (λ l. x ∷ l) (all_taken xs)

-- the shards in front of a place are alive where each of them is
pub all_live : (job : Job) (shards : List ShardData) (n : ℕ)
    → ((s : ℕ) → s < n → (shard : ShardData) × (slice_get shards s ≡ Some shard) × (is_lost job shard ≡ false))
    → AllLive job (take n shards)
all_live job shards zero alive = tt
all_live job [] (suc n) alive = tt
all_live job (x ∷ shards) (suc n) alive =
    let c = alive 0 (omega arith) in (
      subst (λ (q : ShardData). is_lost job q ≡ false) (sym (some_same x c.0 c.1)) c.2,
      all_live job shards n (λ s l. alive (suc s) (omega (arith, l))),
    )
  where
    some_same : (a b : ShardData) → Some a ≡ Some b → a ≡ b
    some_same a b e = cc

module _ (job : Job) (round : Round) (low : round.passed ≤ job.skip) where
  abbrev index : ℕ
  index = job.skip - round.passed

  abbrev faults_of : List ℕ → List Faulting
  faults_of ss = faults_from job ss 0 (shards_of round)

  -- what is one too many of the first is one too many of all
  pub one_of_all : (part : FirstFaults) (ss : List ℕ) (one : Skipped) → HasFirst job round part ss
      → one_too_many job round part.faults ≡ Some one → slice_get (faults_of ss) index ≡ Some (seen_skipped one)
  one_of_all part ss one has there =
      sym (got_taken (suc job.skip) (faults_of ss) index (omega (arith, low)))
      ∙ sym (ap (λ l. slice_get l index) has.first) ∙ got_mapped seen_skipped part.faults index one there

  -- and where none is, there are few
  pub few_of_all : (part : FirstFaults) (ss : List ℕ) → HasFirst job round part ss
      → one_too_many job round part.faults ≡ None → length (faults_of ss) ≤ index
  few_of_all part ss has none =
      let short = none_beyond part.faults index none in
      let long = sym (length-map part.faults seen_skipped) ∙ ap length has.first in
      let all = take_short job.skip (faults_of ss) (omega (arith, short, long, low)) in
      let whole = ap length (take_whole (suc job.skip) (faults_of ss) (omega (arith, all))) in
      omega (arith, short, long, whole)

  module _ (total : TotalState) (part : FirstFaults) (ss : List ℕ) (holds : HoldsShards job round total part ss)
      (n : ℕ) (front : HasFront ss n) where
    live_front : AllLive job (take n (shards_of round))
    live_front =
        all_live job (shards_of round) n (λ s l. let c = holds.counts s (front s l) in (c.shard, c.there, c.alive))

    split : faults_of ss ≡ faults_in job (take n (shards_of round))
        ++ faults_from job ss (0 + n) (drop n (shards_of round))
    split = faults_of_front job ss 0 n (shards_of round)
        (λ s l. let same : s ≡ 0 + s = omega arith in subst (λ k. IsAmong k ss) same (front s l))

    module _ (shard : ShardData) (there : slice_get (shards_of round) n ≡ Some shard) where
      behind : AreFrom shard.first (faults_from job ss (0 + n) (drop n (shards_of round)))
      behind =
          let follow = follow_shards round holds.round_is in
          faults_numbered job ss (0 + n) shard.first (drop n (shards_of round))
          (follow_drop job follow.0 n (shards_of round) shard follow.1 there).0

      -- a record in front of a shard is one too many
      pub fault_before : (one : Skipped) → one_too_many job round part.faults ≡ Some one → one.record_no < shard.first
          → outcome_from job round.passed (shards_of round) ≡ faulted one.record_no (seen_fault one.fault)
      fault_before one is less =
          let whole = one_of_all part ss one holds.faults is in
          let here = got_in_front shard.first (faults_in job (take n (shards_of round)))
          (faults_from job ss (0 + n) (drop n (shards_of round))) index
          (seen_skipped one) behind (sym (ap (λ l. slice_get l index) split) ∙ whole) less in
          ap (outcome_from job round.passed) (sym (cut_at n (shards_of round)))
          ∙ fault_in_front job round.passed (take n (shards_of round)) (drop n (shards_of round))
          (seen_skipped one) low live_front here

      -- or none is
      few_before : length (faults_in job (take n (shards_of round))) ≤ index → NoneInFront job round n
      few_before few = record { count = λ s l. holds.counts s (front s l); few = omega (arith, few, low) }

      pub none_before_by : one_too_many job round part.faults ≡ None → NoneInFront job round n
      none_before_by none =
          let few = few_of_all part ss holds.faults none in
          let long = ap length split in
          let both = length-append (faults_in job (take n (shards_of round)))
          (faults_from job ss (0 + n) (drop n (shards_of round))) in
          few_before (omega (arith, few, long, both))

      pub later_before : (one : Skipped) → one_too_many job round part.faults ≡ Some one → shard.first ≤ one.record_no
          → NoneInFront job round n
      later_before one is le =
          let whole = one_of_all part ss one holds.faults is in
          let follow = follow_shards round holds.round_is in
          few_before (got_behind shard.first (faults_in job (take n (shards_of round)))
          (faults_from job ss (0 + n) (drop n (shards_of round))) index
          (seen_skipped one) (faults_below job follow.0 n (shards_of round) shard follow.1 there)
          (sym (ap (λ l. slice_get l index) split) ∙ whole) le)

    -- where all shards are there, the one too many decides
    pub fault_of_all : length (shards_of round) ≤ n → (one : Skipped) → one_too_many job round part.faults ≡ Some one
        → outcome_from job round.passed (shards_of round) ≡ faulted one.record_no (seen_fault one.fault)
    fault_of_all enough one is =
        let whole = one_of_all part ss one holds.faults is in
        let all = take_whole n (shards_of round) enough in
        let none = ap (λ l. faults_from job ss (0 + n) l) (none_left n (shards_of round) enough) in
        let here =
        sym (ap (λ l. slice_get l index) (split ∙ ap (λ l. faults_in job (take n (shards_of round)) ++ l) none
        ∙ append-nil (faults_in job (take n (shards_of round))))) ∙ whole in
        ap (outcome_from job round.passed) (sym (append-nil (shards_of round)) ∙ sym (ap (λ l. l ++ []) all))
        ∙ fault_in_front job round.passed (take n (shards_of round)) [] (seen_skipped one) low live_front here
      where
        none_left : {A : Type 0} (k : ℕ) (xs : List A) → length xs ≤ k → drop k xs ≡ []
        none_left zero [] le = refl
        none_left zero (x ∷ xs) le = absurd (omega (arith, le))
        none_left (suc k) [] le = refl
        none_left (suc k) (x ∷ xs) le = none_left k xs (omega (arith, le))
