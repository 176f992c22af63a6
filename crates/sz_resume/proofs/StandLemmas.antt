-- What the rounds of a journal stand for, from round to round.
use Rattle.std.proofs.Common.{◌≡◌, ℕ, ◌+◌, ◌*◌, ◌≤◌, List, [], ◌∷◌, ◌++◌, length, drop, refl, sym, ap, ◌∙◌, subst, arith, length-drop}
use Rattle.std.proofs.lemmas.List.{drop-drop}
use Rattle.std.proofs.lemmas.List.Sums.{sum_by-cons}
use Rattle.sz_types.specs.Tables.{Declaration}
use Rattle.sz_mean.specs.Marked.{all_tables}
use Rattle.sz_tabs.specs.Data.{EmitDatum}
use Rattle.sz_save_format.specs.Saved.{SavedState}
use Rattle.sz_save.specs.Saving.{state_of_emits}
use Rattle.sz_records.specs.Shards.{AreShards}
use Rattle.sz_records.proofs.CutLemmas.{place_now}
use Rattle.sz_attempt.specs.declared.job.Job.{Job}
use Rattle.sz_attempt.specs.Shards.{ShardData}
use Rattle.sz_workers.specs.Outcomes.{after_front, then_outcome, outcome_from, all_records}
use Rattle.sz_workers.specs.Cuts.{cut_into}
use Rattle.sz_workers.proofs.OutcomeLemmas.{after_nothing, later_both, outcome-append}
use Rattle.sz_journal.specs.declared.progress.Progress.{Progress}
use Rattle.sz_journal.specs.declared.round.RoundEntry.{RoundEntry}
use Rattle.sz_journal.specs.Rounds.{no_progress, progress_of, progress_after, all_bounds}
use Rattle.sz_records.specs.Cutting.{full}
use Rattle.sz_resume.specs.Standing.{Source, place_in, IsRoundOf, AreRoundsOf}
use Rattle.sz_resume.specs.Entries.{AreSavedOf, all_parts}
use Rattle.sz_resume.proofs.ShardLemmas.{are_after}

module _ (job : Job) (source : Source) where
  -- so far has the job come, and these are the shards after
  pub record IsAt (records : List (List ℕ)) (sizes : List ℕ) (progress : Progress) (left : List ShardData) : Type 0 where
    pub few : progress.records ≤ length records
    pub are : AreShards source.most (drop progress.records records) (drop progress.shards sizes)
    pub is : left ≡ cut_into progress.shards (progress.records + 1) (drop progress.records records) (drop progress.shards sizes)
    pub place : progress.bytes ≡ place_in source progress.records

  module _ (records : List (List ℕ)) (sizes : List ℕ) where
    pub at_start : AreShards source.most records sizes → IsAt records sizes no_progress (cut_into 0 1 records sizes)
    at_start are = record { few = omega arith; are = are; is = refl; place = sym (place_now source.frame full 0 0 source.bytes) }

    -- a round on
    round_on : (progress : Progress) (front back : List ShardData) (round : RoundEntry) → IsAt records sizes progress (front ++ back)
        → IsRoundOf job source progress front round → IsAt records sizes (progress_of round) back
    round_on progress front back round at one =
        let h = are_after source.most progress.shards (progress.records + 1) (drop progress.records records) (drop progress.shards sizes) front back at.are
        (sym at.is) in
        let n = length front in
        let m = length (all_records front) in
        let rs : drop m (drop progress.records records) ≡ drop round.records records =
        drop-drop m progress.records records ∙ ap (λ k. drop k records) (sym one.records) in
        let ns : drop n (drop progress.shards sizes) ≡ drop round.next_shard sizes =
        drop-drop n progress.shards sizes ∙ ap (λ k. drop k sizes) (sym one.next_shard) in
        let first : progress.records + 1 + m ≡ round.records + 1 = omega (arith, one.records) in
        record {
          few = omega (arith, h.few, at.few, length-drop progress.records records, one.records);
          are = subst (λ l. AreShards source.most l (drop round.next_shard sizes)) rs
              (subst (λ l. AreShards source.most (drop m (drop progress.records records)) l) ns h.are);
          is =
              h.is
              ∙ ap (λ k. cut_into k (progress.records + 1 + m) (drop m (drop progress.records records)) (drop n (drop progress.shards sizes)))
              (sym one.next_shard)
              ∙ ap (λ k. cut_into round.next_shard k (drop m (drop progress.records records)) (drop n (drop progress.shards sizes))) first
              ∙ ap (λ l. cut_into round.next_shard (round.records + 1) l (drop n (drop progress.shards sizes))) rs
              ∙ ap (cut_into round.next_shard (round.records + 1) (drop round.records records)) ns;
          place = one.next_byte;
        }

    -- after all rounds
    pub rounds_on : (progress : Progress) (shards left : List ShardData) (rounds : List RoundEntry) → IsAt records sizes progress shards
        → AreRoundsOf job source progress shards rounds left → IsAt records sizes (progress_after progress rounds) left
    rounds_on progress shards left [] at are = subst (IsAt records sizes progress) are at
    rounds_on progress shards left (round ∷ rounds) at are =
        rounds_on (progress_of round) are.1 left rounds (round_on progress are.0 are.1 round (subst (IsAt records sizes progress) are.2 at) are.3) are.4

  -- the bounds of rounds are the ticks of their records
  pub bounds_on : (progress : Progress) (shards left : List ShardData) (rounds : List RoundEntry) → AreRoundsOf job source progress shards rounds left
      → all_bounds rounds + progress.records * job.budget ≡ (progress_after progress rounds).records * job.budget
  bounds_on progress shards left [] are = omega arith
  bounds_on progress shards left (round ∷ rounds) are =
      let one = are.3 in
      let rest = bounds_on (progress_of round) are.1 left rounds are.4 in
      let here = both (length (all_records are.0)) progress.records job.budget
      ∙ ap (λ n. n * job.budget) (let all : length (all_records are.0) + progress.records ≡ round.records = omega (arith, one.records) in all) in
      let sum = sum_by-cons (λ (round : RoundEntry). round.saved.bound) round rounds in
      let bound = ap (λ (s : SavedState). s.bound) one.saved in
      omega (arith, rest, here, sum, bound)
    where
      both : (a b n : ℕ) → a * n + b * n ≡ (a + b) * n
      both a b n = grind arith

  -- where no shard is left, the rounds have all records
  pub all_bounded : (records : List (List ℕ)) (sizes : List ℕ) (left : List ShardData) (rounds : List RoundEntry) → AreShards source.most records sizes
      → AreRoundsOf job source no_progress (cut_into 0 1 records sizes) rounds left → left ≡ [] → all_bounds rounds ≡ length records * job.budget
  all_bounded records sizes left rounds shards are none =
      let at = rounds_on records sizes no_progress (cut_into 0 1 records sizes) left rounds (at_start records sizes shards) are in
      let now = progress_after no_progress rounds in
      let no_more = no_records now.shards (now.records + 1) (drop now.records records) (drop now.shards sizes) at.are (sym none ∙ at.is) in
      let all : now.records ≡ length records = (let long = ap length no_more in omega (arith, long, at.few, length-drop now.records records)) in
      let sum = bounds_on no_progress (cut_into 0 1 records sizes) left rounds are in
      let none_before : all_bounds rounds ≡ all_bounds rounds + 0 * job.budget = omega arith in
      none_before ∙ sum ∙ ap (λ n. n * job.budget) all
    where
      no_records : (number first : ℕ) (rs : List (List ℕ)) (ns : List ℕ) → AreShards source.most rs ns → [] ≡ cut_into number first rs ns → rs ≡ []
      no_records number first rs [] are is = are
      no_records number first rs (n ∷ ns) are is = absurd cc

  -- one round more
  pub one_more : (progress : Progress) (shards left front back : List ShardData) (rounds : List RoundEntry) (round : RoundEntry)
      → AreRoundsOf job source progress shards rounds left → left ≡ front ++ back → IsRoundOf job source (progress_after progress rounds) front round
      → AreRoundsOf job source progress shards (rounds ++ round ∷ []) back
  one_more progress shards left front back [] round are is one = (front, back, are ∙ is, one, refl)
  one_more progress shards left front back (first ∷ rounds) round are is one =
      (are.0, are.1, are.2, are.3, one_more (progress_of first) are.1 left front back rounds round are.4 is one)

  -- what comes of all shards is what comes of those after the rounds, after the emits that the rounds have
  pub record Gives (progress : Progress) (shards left : List ShardData) (rounds : List RoundEntry) : Type 0 where
    pub parts : List (List EmitDatum)
    pub saved : AreSavedOf (all_tables job.compiled) rounds parts
    pub passed : ℕ
    pub passed_so_far : (progress_after progress rounds).passed ≡ progress.passed + passed
    pub goes_on : outcome_from job progress.passed shards
        ≡ after_front (all_parts parts) passed (outcome_from job (progress_after progress rounds).passed left)

  saved_so : (saved : SavedState) (bound : ℕ) (decls : List Declaration) (emits : List EmitDatum) → saved ≡ state_of_emits bound decls emits
      → saved ≡ state_of_emits saved.bound decls emits
  saved_so saved bound decls emits is =
      let same : saved.bound ≡ bound = ap (λ (s : SavedState). s.bound) is in is ∙ ap (λ n. state_of_emits n decls emits) (sym same)

  pub gives : (progress : Progress) (shards left : List ShardData) (rounds : List RoundEntry) → AreRoundsOf job source progress shards rounds left
      → Gives progress shards left rounds
  gives progress shards left [] are =
      let none : progress.passed ≡ progress.passed + 0 = omega arith in
      record {
        parts = [];
        saved = tt;
        passed = 0;
        passed_so_far = none;
        goes_on = ap (outcome_from job progress.passed) are ∙ after_nothing (outcome_from job progress.passed left);
      }
  gives progress shards left (round ∷ rounds) are =
      let one = are.3 in
      let rest = gives (progress_of round) are.1 left rounds are.4 in
      let sum : (progress_after (progress_of round) rounds).passed ≡ progress.passed + (one.passed + rest.passed) =
      omega (arith, rest.passed_so_far, one.passed_so_far) in
      let last = outcome_from job (progress_after (progress_of round) rounds).passed left in
      record {
        parts = one.emits ∷ rest.parts;
        saved = (saved_so round.saved (length (all_records are.0) * job.budget) (all_tables job.compiled) one.emits one.saved, rest.saved);
        passed = one.passed + rest.passed;
        passed_so_far = sum;
        goes_on =
            ap (outcome_from job progress.passed) are.2
            ∙ outcome-append job progress.passed are.0 are.1
            ∙ ap (λ e. then_outcome e (λ n. outcome_from job (progress.passed + n) are.1)) one.none_decides
            ∙ ap (λ n. after_front one.emits one.passed (outcome_from job n are.1)) (sym one.passed_so_far)
            ∙ ap (after_front one.emits one.passed) rest.goes_on
            ∙ later_both one.emits (all_parts rest.parts) one.passed rest.passed last;
      }
