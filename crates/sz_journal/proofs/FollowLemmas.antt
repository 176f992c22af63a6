-- Rounds that follow each other, and one more.
use Rattle.std.proofs.Common.{◌≡◌, ◌∙◌, ℕ, zero, suc, ◌+◌, ◌-◌, ◌*◌, ◌^◌, ◌<◌, ◌≤◌, Some, List, [], ◌∷◌, ◌++◌, length, slice_get, refl, sym, ap, arith}
use Rattle.std.specs.List.{AllByRecursion}
use Rattle.std.proofs.lemmas.List.{map-append}
use Rattle.std.proofs.lemmas.List.Sums.{sum_by-cons, sum_by-append, sum_by_push}
use Rattle.sz_types.specs.Tables.{Declaration}
use Rattle.sz_flat.specs.Spelling.{IsShort}
use Rattle.sz_save_format.proofs.FrontLemmas.{some_is}
use Rattle.sz_journal.specs.Rounds.{IsSpelledRound, no_progress, progress_of, progress_after, last_progress, MayFollow, Follow, all_bounds, AreRounds}
use Rattle.sz_journal.specs.Logged.{logged}
use Rattle.sz_journal.specs.declared.job.JobBytes.{JobBytes}
use Rattle.sz_journal.specs.declared.progress.Progress.{Progress}
use Rattle.sz_journal.specs.declared.round.RoundEntry.{RoundEntry}

times_sum : (a b n : ℕ) → (a + b) * n ≡ a * n + b * n
times_sum a b zero = omega arith
times_sum a b (suc n) = let before = times_sum a b n in omega (arith, before)

module _ (job : JobBytes) (decls : List Declaration) where
  -- rounds that go on with one more
  pub follow_front : (before : Progress) (rounds more : List RoundEntry) → Follow job decls before (rounds ++ more)
      → Follow job decls before rounds
  follow_front before [] more h = tt
  follow_front before (round ∷ rounds) more h = (h.0, follow_front (progress_of round) rounds more h.1)

  pub follow_last : (before : Progress) (rounds : List RoundEntry) (round : RoundEntry)
      → Follow job decls before (rounds ++ round ∷ []) → MayFollow job decls (progress_after before rounds) round
  follow_last before [] round h = h.0
  follow_last before (r ∷ rounds) round h = follow_last (progress_of r) rounds round h.1

  follow_more : (before : Progress) (rounds : List RoundEntry) (round : RoundEntry) → Follow job decls before rounds
      → MayFollow job decls (progress_after before rounds) round → Follow job decls before (rounds ++ round ∷ [])
  follow_more before [] round h may = (may, tt)
  follow_more before (r ∷ rounds) round h may = (h.0, follow_more (progress_of r) rounds round h.1 may)

  -- the bounds together are the number of all records times the budget
  one_bound : (before : Progress) (round : RoundEntry) → MayFollow job decls before round
      → round.saved.bound + before.records * job.budget ≡ round.records * job.budget
  one_bound before round may =
      ap (λ n. n + before.records * job.budget) may.bound
      ∙ sym (times_sum (round.records - before.records) before.records job.budget)
      ∙ ap (λ n. n * job.budget) (omega (arith, may.goes_on.more_records))

  bounds_are : (before : Progress) (rounds : List RoundEntry) → Follow job decls before rounds
      → all_bounds rounds + before.records * job.budget ≡ (progress_after before rounds).records * job.budget
  bounds_are before [] h = omega arith
  bounds_are before (round ∷ rounds) h =
      let first = sum_by-cons (λ (r : RoundEntry). r.saved.bound) round rounds in
      let one = one_bound before round h.0 in
      let others = bounds_are (progress_of round) rounds h.1 in
      omega (arith, first, one, others)

  all_bounds_are : (rounds : List RoundEntry) → Follow job decls no_progress rounds
      → all_bounds rounds ≡ (last_progress rounds).records * job.budget
  all_bounds_are rounds h = let both = bounds_are no_progress rounds h in omega (arith, both)

  -- one more round
  pub next_told : (rounds : List RoundEntry) (round : RoundEntry) → AreRounds job decls rounds
      → MayFollow job decls (last_progress rounds) round
      → round.records * job.budget ≤ 2 ^ 63 → AreRounds job decls (rounds ++ round ∷ [])
  next_told rounds round h may low = record {
    follow = follow_more no_progress rounds round h.follow may;
    bounds =
        let all = sum_by_push (λ (r : RoundEntry). r.saved.bound) rounds round in
        let front = all_bounds_are rounds h.follow in
        let one = one_bound (last_progress rounds) round may in
        omega (arith, all, front, one, low);
  }

  pub next_tells : (rounds : List RoundEntry) (round : RoundEntry) → AreRounds job decls (rounds ++ round ∷ [])
      → MayFollow job decls (last_progress rounds) round × (round.records * job.budget ≤ 2 ^ 63)
  next_tells rounds round h =
      let may = follow_last no_progress rounds round h.follow in
      let all = sum_by_push (λ (r : RoundEntry). r.saved.bound) rounds round in
      let front = all_bounds_are rounds (follow_front no_progress rounds (round ∷ []) h.follow) in
      let one = one_bound (last_progress rounds) round may in
      (may, omega (arith, all, front, one, h.bounds))

  -- rounds without those behind them
  pub are_front : (rounds more : List RoundEntry) → AreRounds job decls (rounds ++ more) → AreRounds job decls rounds
  are_front rounds more h = record {
    follow = follow_front no_progress rounds more h.follow;
    bounds = let all = sum_by-append (λ (r : RoundEntry). r.saved.bound) rounds more in omega (arith, all, h.bounds);
  }

  -- each of the rounds has its bytes
  spelled_round : (before : Progress) (round : RoundEntry) → IsShort job.skip → MayFollow job decls before round
      → IsSpelledRound round
  spelled_round before round few may = record {
    next_shard = omega (arith, may.goes_on.shards_have_records, may.goes_on.records);
    records = omega (arith, may.goes_on.records);
    next_byte = omega (arith, may.goes_on.bytes);
    passed = omega (arith, may.passed, few);
    saved = may.saved;
  }

  pub spelled_rounds : (before : Progress) (rounds : List RoundEntry) → IsShort job.skip
      → Follow job decls before rounds → AllByRecursion IsSpelledRound rounds
  spelled_rounds before [] few h = tt
  spelled_rounds before (round ∷ rounds) few h =
      (spelled_round before round few h.0, spelled_rounds (progress_of round) rounds few h.1)

-- where the last round ends
end_told : (before : Progress) (rounds : List RoundEntry) (last : RoundEntry) → 0 < length rounds
    → slice_get rounds (length rounds - 1) ≡ Some last → progress_after before rounds ≡ progress_of last
end_told before [] last some is = absurd (omega (arith, some))
end_told before (round ∷ []) last some is = ap progress_of (some_is round last is)
end_told before (round ∷ next ∷ rounds) last some is =
    end_told (progress_of round) (next ∷ rounds) last (omega arith)
    (let at : length (round ∷ next ∷ rounds) - 1 ≡ suc (length (next ∷ rounds) - 1) = omega arith in
    sym (ap (slice_get (round ∷ next ∷ rounds)) at) ∙ is)

pub last_told : (rounds : List RoundEntry) (last : RoundEntry) → 0 < length rounds
    → slice_get rounds (length rounds - 1) ≡ Some last → last_progress rounds ≡ progress_of last
last_told rounds last some is = end_told no_progress rounds last some is

pub none_done : (rounds : List RoundEntry) → length rounds ≡ 0 → last_progress rounds ≡ no_progress
none_done [] none = refl
none_done (round ∷ rounds) none = absurd (omega (arith, none))

-- one more round, and where a job has come behind it
come_after : (before : Progress) (rounds : List RoundEntry) (round : RoundEntry) → progress_after before (rounds ++ round ∷ []) ≡ progress_of round
come_after before [] round = refl
come_after before (first ∷ rounds) round = come_after (progress_of first) rounds round

pub behind_one_more : {A : Type 0} (items : List (RoundEntry × A)) (round : RoundEntry) (of : A)
    → last_progress (logged (items ++ (round, of) ∷ [])) ≡ progress_of round
behind_one_more items round of =
    ap last_progress (map-append (λ (pair : RoundEntry × _). pair.0) items ((round, of) ∷ [])) ∙ come_after no_progress (logged items) round

-- what stands behind some rounds
pub at_end : (rounds : List RoundEntry) (round found : RoundEntry) → slice_get (rounds ++ round ∷ []) (length rounds) ≡ Some found → found ≡ round
at_end [] round found is = sym (some_is round found is)
at_end (first ∷ rounds) round found is = at_end rounds round found is
