-- What is known between two rounds, and how each step carries it on.
use Rattle.std.proofs.Common.{◌≡◌, ℕ, suc, ◌+◌, ◌-◌, ◌*◌, ◌^◌, ◌<◌, ◌≤◌, List, [], ◌∷◌, ◌++◌, length, take, drop, Bool, true, false}
use Rattle.std.proofs.Common.{Some, None, refl, sym, ap, ◌∙◌, subst, arith, append-nil, append_assoc, length-append, length-drop, get_or, take-append-drop}
use native.Mathlib.Nat.{mul-add}
use Rattle.std.specs.Prelude.{is_some, ◌==◌, Err}
use Rattle.sz_types.specs.declared.frame.Frame.{Frame}
use Rattle.sz_tabs.specs.Data.{EmitDatum}
use Rattle.sz_machine.specs.Ends.{seen_fault}
use Rattle.sz_total.specs.States.{TotalState}
use Rattle.sz_records.specs.declared.ending.Ending.{Ending}
use Rattle.sz_records.specs.declared.ending.Ending.TheVariants as endings
use Rattle.sz_records.specs.Cutting.{full, IsCut, place_after, places_of, ends_in}
use Rattle.sz_records.specs.Ends.{RecordsData}
use Rattle.sz_records.specs.Shards.{AreShards}
use Rattle.sz_attempt.specs.declared.job.Job.{Job}
use Rattle.sz_attempt.specs.declared.job.Shard.{Shard}
use Rattle.sz_attempt.specs.Shards.{IsJob, IsShardIn, ShardData}
use Rattle.sz_attempt.specs.Ends.{StandForEmits}
use Rattle.sz_workers.specs.declared.round.Round.{Round}
use Rattle.sz_workers.specs.Outcomes.{ShardsEnd, emitted, faulted, lost, after_front, then_outcome, outcome_from, all_records}
use Rattle.sz_workers.specs.Rounds.{shards_of, numbered, AreNext, IsRound}
use Rattle.sz_workers.specs.Cuts.{ranges_of, cut_into}
use Rattle.sz_workers.proofs.OutcomeLemmas.{after_nothing, later_both, outcome-append}
use Rattle.sz_workers.proofs.CountLemmas.{few_of_shards}
use Rattle.sz_workers.proofs.RangeLemmas.{numbered_cut}
use Rattle.sz_stream.specs.declared.done.Done.{Done}
use Rattle.sz_stream.specs.declared.intake.Intake.{Intake}
use Rattle.sz_stream.specs.declared.stop.Stop.{Stop}
use Rattle.sz_stream.specs.declared.stop.Stop.TheVariants as stops
use Rattle.sz_stream.specs.Inputs.{nothing, GoesOn, EndsInput, RunsBehind, RunsInput}
use Rattle.sz_stream.specs.Intakes.{AreClosed, sum_of, CanGoOn, IsFed, IsEmpty, KeepsRound, HasTaken, TakesIn, AreTooMany, FitsRound, Closes, moved_on}
use Rattle.sz_stream.specs.InputRuns.{HasRun, IsRunning, StopsShards, ended_so}
use Rattle.sz_stream.proofs.PlaceLemmas.{places_append, places_later, last_place}
use Rattle.sz_stream.proofs.ShardLemmas.{are_longer, are_more, sum_within, fewer_shards, split, cut_append, length_cut, lie, ranges_append}
use Rattle.sz_stream.proofs.ShardLemmas.{length-ranges, sum-append}
use Rattle.sz_stream.proofs.FedLemmas.{begins, few_given}
use Rattle.sz_stream.proofs.ClosingLemmas.{items_stay, same_front}
use Rattle.sz_stream.proofs.PassedLemmas.{few_passed, passed_records}

-- what comes of shards with these sizes, after shards with these emits of whose records so many were passed over,
-- with those before them so many
abbrev rest_of : Job → List EmitDatum → ℕ → ℕ → ℕ → ℕ → List (List ℕ) → List ℕ → ShardsEnd
rest_of job emits before passed number first records sizes =
    after_front emits before (outcome_from job passed (cut_into number first records sizes))

same_rest : {p q n m f g : ℕ} (job : Job) (emits : List EmitDatum) (before : ℕ) (rest : List (List ℕ))
    (sizes : List ℕ) → p ≡ q → n ≡ m → f ≡ g
    → rest_of job emits before p n f rest sizes ≡ rest_of job emits before q m g rest sizes
same_rest {p = p} {q = q} {n = n} {m = m} {f = f} {g = g} job emits before rest sizes passed number first =
    ap (λ k. rest_of job emits before k n f rest sizes) passed
    ∙ ap (λ k. rest_of job emits before q k f rest sizes) number
    ∙ ap (λ k. rest_of job emits before q m k rest sizes) first

-- a round without shards is small
pub no_shards : (intake : Intake) → length intake.round.shards ≡ 0 → FitsRound intake
no_shards intake none = record { few = omega (arith, none); small = λ some. absurd (omega (arith, none, some)) }

-- before anything is read
module _ (done : Done) (job : Job) (frame : Frame) (most : ℕ) (intake : Intake) where
  pub starts : 1 ≤ most → CanGoOn done → done.passed ≤ job.skip → IsEmpty frame most done intake
      → IsRunning done job frame most intake [] [] false
  starts low can passed empty =
      let none = ap (λ (r : Round). length r.records.items) empty.round in
      record {
        can = can;
        given = [];
        front = [];
        given_is = sym (ap (λ (r : Round). r.records.items) empty.round);
        fed = empty.fed;
        low = low;
        limit = empty.limit;
        sizes = [];
        are = tt;
        shards = ap (λ (r : Round). r.shards) empty.round;
        fits = no_shards intake (ap (λ (r : Round). length r.shards) empty.round);
        closed = empty.closed;
        count = omega (arith, none, empty.first);
        ends = λ rest on.
            ap (λ (r : Round). r.records.ends) empty.round
            ∙ ap (λ n. ends_in done.bytes done.records frame full rest (0 - n) n) (sym none);
        numbers = (let number = ap (λ (r : Round). r.first_shard) empty.round in
            omega (arith, number, empty.first, can.shards));
        run = record {
          count = 0;
          begun = omega (arith, empty.first);
          low = (let before = ap (λ (r : Round). r.passed) empty.round in omega (arith, before, passed));
          more_passed = 0;
          passed_so_far = (let before = ap (λ (r : Round). r.passed) empty.round in omega (arith, before));
          fewer = omega arith;
          few = omega arith;
          runs = λ more ends all are. record {
            sizes = all;
            are = subst (λ (r : Round). AreShards most (r.records.items ++ more) all) (sym empty.round) are;
            goes_on =
                after_nothing (outcome_from job done.passed (cut_into done.shards (done.records + 1) more all))
                ∙ ap (λ (r : Round). rest_of job [] 0 r.passed r.first_shard (done.records + 1)
                (r.records.items ++ more) all) (sym empty.round) ∙ ap (λ n. rest_of job [] 0 intake.round.passed
                intake.round.first_shard n (intake.round.records.items ++ more) all) (sym empty.first);
          };
        };
      }

module _ (done : Done) (job : Job) (frame : Frame) (most : ℕ) (old : Intake) (emits : List EmitDatum)
    (read : List ℕ) (over : Bool)
    (h : IsRunning done job frame most old emits read over) where
  -- there are no more records than there may be
  pub few_left : old.first + length old.round.records.items ≤ 2 ^ 31 + 1
  few_left = let few = few_given done frame old.framer read over h.given old.ending h.fed h.can.records in
      omega (arith, few, h.count)

  -- those at hand are among those that were given
  pub at_hand : length old.round.records.items ≤ length h.given
  at_hand = omega (arith, ap length h.given_is, length-append h.front old.round.records.items)

  pub closed_within : old.closed ≤ length old.round.records.items
  closed_within = let within = sum_within most (is_some old.ending) old.round.records.items h.sizes h.are in
      omega (arith, within, h.closed)

  pub few_numbers : old.round.first_shard + length old.round.shards ≤ 2 ^ 31 + 1
  few_numbers =
      let fewer = fewer_shards most (is_some old.ending) old.round.records.items h.sizes h.are in
      omega (
        arith,
        few_left,
        closed_within,
        fewer,
        h.closed,
        h.numbers,
        ap length h.shards,
        length-ranges 0 old.first h.sizes,
      )

  -- where the round has a shard, it has a record
  pub some_closed : 0 < length old.round.shards → 0 < old.closed
  some_closed some =
      let fewer = fewer_shards most (is_some old.ending) old.round.records.items h.sizes h.are in
      omega (arith, some, fewer, h.closed, ap length h.shards, length-ranges 0 old.first h.sizes)

  pub none_closed : length old.round.shards ≡ 0 → old.closed ≡ 0
  none_closed none = h.closed ∙ by h.sizes (sym (length-ranges 0 old.first h.sizes) ∙ sym (ap length h.shards) ∙ none)
    where
      by : (ns : List ℕ) → length ns ≡ 0 → sum_of ns ≡ 0
      by [] e = refl
      by (n ∷ ns) e = absurd (omega (arith, e))

  -- a piece is taken in
  module _ (new : Intake) (piece : List ℕ) (more_comes : old.ending ≡ None) (taken : TakesIn old new piece)
      (kept : KeepsRound old new) where
    fed_before : IsFed done frame old.framer None read over h.given
    fed_before = subst (λ e. IsFed done frame old.framer e read over h.given) more_comes h.fed

    has : HasTaken done frame new.framer new.ending old.round.records new.round.records (read ++ piece)
        (length piece == 0) h.given
    has = taken done frame read h.given fed_before.0 fed_before.1

    not_ended : is_some old.ending ≡ false
    not_ended = ap is_some more_comes

    -- what was run stays so
    has_run : HasRun done job most (is_some new.ending)
        (h.given ++ has.added) new.round.records.items new.round.first_shard new.first new.round.passed emits
    has_run = record {
      count = h.run.count;
      begun = kept.first ∙ h.run.begun;
      low = omega (arith, h.run.low, kept.passed);
      more_passed = h.run.more_passed;
      passed_so_far = kept.passed ∙ h.run.passed_so_far;
      fewer = h.run.fewer;
      few = h.run.few;
      runs = λ more ends all are. (
          let before = h.run.runs (has.added ++ more) (λ e. absurd (let no = sym not_ended ∙ e in cc)) all
          (subst (λ rs. AreShards most rs all) (append_assoc h.given has.added more) are) in
          let records : old.round.records.items ++ (has.added ++ more) ≡ new.round.records.items ++ more =
          sym (append_assoc old.round.records.items has.added more) ∙ ap (λ rs. rs ++ more) (sym has.gained) in
          record {
            sizes = before.sizes;
            are = subst (λ rs. AreShards most rs before.sizes) records before.are;
            goes_on =
                ap (λ rs. outcome_from job done.passed (cut_into done.shards (done.records + 1) rs all))
                (append_assoc h.given has.added more) ∙ before.goes_on ∙ ap (λ rs. rest_of job emits
                h.run.more_passed old.round.passed old.round.first_shard old.first rs before.sizes) records
                ∙ same_rest job emits h.run.more_passed (new.round.records.items ++ more) before.sizes
                (sym kept.passed) (sym kept.first_shard) (sym kept.first);
          });
    }

    -- what goes on with the piece goes on without it
    on_before : (rest : List ℕ) → GoesOn (read ++ piece) (length piece == 0) rest → GoesOn read over rest
    on_before rest on = record {
      more = piece ++ on.more;
      begins = on.begins ∙ append_assoc read piece on.more;
      ends = λ e. absurd (let no = sym fed_before.2 ∙ e in cc);
    }

    -- the new records end where they do
    ends_later : (rest : List ℕ) → GoesOn (read ++ piece) (length piece == 0) rest → new.round.records.ends
        ≡ ends_in done.bytes done.records frame full rest
        (length (h.given ++ has.added) - length new.round.records.items)
        (length new.round.records.items)
    ends_later rest on =
        let place = place_after frame full done.bytes done.records rest in
        let kept_ones = length old.round.records.items in
        let sum = length-append old.round.records.items has.added in
        let all = length-append h.given has.added in
        let came : length new.round.records.items ≡ kept_ones + length has.added = ap length has.gained ∙ sum in
        let added : length new.round.records.items - kept_ones ≡ length has.added = omega (arith, came) in
        let at : length h.given ≡ length h.given - kept_ones + kept_ones = omega (arith, at_hand) in
        let from : length h.given - kept_ones ≡ length (h.given ++ has.added) - length new.round.records.items =
        omega (arith, came, all, at_hand) in
        has.ends rest on
        ∙ ap (λ l. l ++ places_of place (length h.given) (length new.round.records.items - kept_ones))
        (h.ends rest (on_before rest on))
        ∙ ap (λ n. places_of place (length h.given - kept_ones) kept_ones ++ places_of place (length h.given) n) added
        ∙ ap (λ n. places_of place (length h.given - kept_ones) kept_ones ++ places_of place n (length has.added)) at
        ∙ places_append place (length h.given - kept_ones) kept_ones (length has.added)
        ∙ ap (places_of place (length h.given - kept_ones)) (sym came)
        ∙ ap (λ n. places_of place n (length new.round.records.items)) from

    -- the round is as large as before
    still_fits : FitsRound new
    still_fits = record {
      few = omega (arith, h.fits.few, ap length kept.shards);
      small = λ some many. h.fits.small (omega (arith, some, ap length kept.shards)) (fewer many);
    }
      where
        fewer : AreTooMany new.round.records.items new.closed → AreTooMany old.round.records.items old.closed
        fewer many =
            same_front old.round.records.items has.added old.closed closed_within
            (subst (λ n. AreTooMany (old.round.records.items ++ has.added) n) kept.closed
            (subst (λ rs. AreTooMany rs new.closed) has.gained many))

    pub takes : IsRunning done job frame most new emits (read ++ piece) (length piece == 0)
    takes = record {
      can = h.can;
      given = h.given ++ has.added;
      front = h.front;
      given_is =
          ap (λ l. l ++ has.added) h.given_is ∙ append_assoc h.front old.round.records.items has.added
          ∙ ap (λ l. h.front ++ l) (sym has.gained);
      fed = has.fed;
      low = h.low;
      limit = kept.limit ∙ h.limit;
      sizes = h.sizes;
      are = subst (λ rs. AreClosed most (is_some new.ending) rs h.sizes) (sym has.gained)
          (are_longer most (is_some new.ending) old.round.records.items has.added h.sizes
          (subst (λ b. AreClosed most b old.round.records.items h.sizes) not_ended h.are));
      shards = kept.shards ∙ h.shards ∙ ap (λ n. ranges_of 0 n h.sizes) (sym kept.first);
      fits = still_fits;
      closed = kept.closed ∙ h.closed;
      count = omega (
        arith,
        h.count,
        kept.first,
        ap length has.gained,
        length-append old.round.records.items has.added,
        length-append h.given has.added,
      );
      ends = ends_later;
      numbers = omega (arith, h.numbers, kept.first, kept.first_shard);
      run = has_run;
    }

  -- shards are closed
  pub closes : (new : Intake) → Closes old new → IsRunning done job frame most new emits read over
  closes new c = record {
    can = h.can;
    given = h.given;
    front = h.front;
    given_is = h.given_is ∙ ap (λ l. h.front ++ l) (sym (items_stay c));
    fed = subst (λ f. IsFed done frame f new.ending read over h.given) (sym c.framer)
        (subst (λ e. IsFed done frame old.framer e read over h.given) (sym c.ending) h.fed);
    low = h.low;
    limit = c.limit ∙ h.limit;
    sizes = h.sizes ++ c.sizes;
    are = subst (λ rs. AreClosed most (is_some new.ending) rs (h.sizes ++ c.sizes)) (sym (items_stay c))
        (subst (λ e. AreClosed most (is_some e) old.round.records.items (h.sizes ++ c.sizes)) (sym c.ending)
        (are_more most (is_some old.ending) old.round.records.items h.sizes c.sizes h.are
        (subst (λ n. AreClosed most (is_some old.ending) (drop n old.round.records.items) c.sizes) h.closed
        (subst (λ m. AreClosed m (is_some old.ending) (drop old.closed old.round.records.items) c.sizes)
        h.limit c.are))));
    shards =
        c.shards
        ∙ ap (λ l. l ++ ranges_of old.closed (old.first + old.closed) c.sizes) h.shards
        ∙ ap (λ n. ranges_of 0 old.first h.sizes ++ ranges_of n (old.first + n) c.sizes) h.closed
        ∙ ap (λ n. ranges_of 0 old.first h.sizes ++ ranges_of n (old.first + sum_of h.sizes) c.sizes) same
        ∙ sym (ranges_append 0 old.first h.sizes c.sizes)
        ∙ ap (λ n. ranges_of 0 n (h.sizes ++ c.sizes)) (sym c.first);
    fits = c.fits h.fits;
    closed = c.closed ∙ ap (λ n. n + sum_of c.sizes) h.closed ∙ sym (sum-append h.sizes c.sizes);
    count = omega (arith, h.count, c.first, ap length (items_stay c));
    ends = λ rest on.
        ap (λ (r : RecordsData). r.ends) c.records ∙ h.ends rest on
        ∙ ap (λ n. ends_in done.bytes done.records frame full rest (length h.given - n) n)
        (sym (ap length (items_stay c)));
    numbers = omega (arith, h.numbers, c.first, c.first_shard);
    run = record {
      count = h.run.count;
      begun = c.first ∙ h.run.begun;
      low = omega (arith, h.run.low, c.passed);
      more_passed = h.run.more_passed;
      passed_so_far = c.passed ∙ h.run.passed_so_far;
      fewer = h.run.fewer;
      few = h.run.few;
      runs = λ more ends all are. (
          let before = h.run.runs more (λ e. ends (ap is_some c.ending ∙ e)) all are in
          record {
            sizes = before.sizes;
            are = subst (λ rs. AreShards most (rs ++ more) before.sizes) (sym (items_stay c)) before.are;
            goes_on =
                before.goes_on
                ∙ ap (λ rs. rest_of job emits h.run.more_passed old.round.passed old.round.first_shard old.first
                (rs ++ more) before.sizes) (sym (items_stay c)) ∙ same_rest job emits h.run.more_passed
                (new.round.records.items ++ more) before.sizes (sym c.passed) (sym c.first_shard) (sym c.first);
          });
    };
  }
    where
      same : sum_of h.sizes ≡ 0 + sum_of h.sizes
      same = omega arith

  -- the shards at hand are a round
  pub is_round : IsRound old.round
  is_round =
      let all = lie most (is_some old.ending) old.round.records.items 0 old.first h.sizes h.are (omega arith)
      (omega (arith, h.numbers)) few_left in
      record {
        few = h.fits.few;
        numbers = few_numbers;
        within = subst (All_in old.round.records.items) (sym h.shards) all.within;
        next = (0, old.first, subst (AreNext 0 old.first) (sym h.shards) all.next);
      }
    where
      All_in : List (List ℕ) → List Shard → Type 0
      All_in records shards = Rattle.std.proofs.Common.All (IsShardIn records) shards

  -- as data they are the front of all that are still to be run
  of_round : shards_of old.round ≡ cut_into old.round.first_shard old.first old.round.records.items h.sizes
  of_round =
      ap (numbered old.round.first_shard old.round.records.items) h.shards
      ∙ numbered_cut old.round.first_shard old.round.records.items 0 old.first h.sizes

  -- what comes of the shards after those of the round, where so many records of these were passed over
  abbrev later_of : List (List ℕ) → List ℕ → ℕ → ShardsEnd
  later_of more sizes n =
      outcome_from job (old.round.passed + n)
      (cut_into (old.round.first_shard + length old.round.shards) (old.first + old.closed)
      (drop old.closed old.round.records.items ++ more) sizes)

  -- what comes of all shards, by what comes of those of the round
  record Follows (more : List (List ℕ)) (all : List ℕ) : Type 0 where
    sizes : List ℕ
    are : AreShards most (drop old.closed old.round.records.items ++ more) sizes
    goes_on : outcome_from job done.passed (cut_into done.shards (done.records + 1) (h.given ++ more) all)
        ≡ after_front emits h.run.more_passed
        (then_outcome (outcome_from job old.round.passed (shards_of old.round)) (later_of more sizes))

  follows : (more : List (List ℕ)) → (is_some old.ending ≡ true → more ≡ []) → (all : List ℕ)
      → AreShards most (h.given ++ more) all → Follows more all
  follows more ends all are =
      let before = h.run.runs more ends all are in
      let s = split most (is_some old.ending) old.round.records.items more h.sizes before.sizes ends h.are before.are in
      let p = old.round.passed in
      let n = old.round.first_shard in
      let with_rest = λ (shards : List ShardData) (k : ℕ) (f : ℕ) (c : ℕ).
      after_front emits h.run.more_passed (then_outcome (outcome_from job p shards)
      (λ m. outcome_from job (p + m) (cut_into k f (drop c old.round.records.items ++ more) s.later))) in
      record {
        sizes = s.later;
        are = subst (λ c. AreShards most (drop c old.round.records.items ++ more) s.later) (sym h.closed) s.are;
        goes_on =
            before.goes_on
            ∙ ap (λ sizes. rest_of job emits h.run.more_passed p n old.first (old.round.records.items ++ more) sizes)
            s.same ∙ ap (λ shards. after_front emits h.run.more_passed (outcome_from job p shards))
            (cut_append most (is_some old.ending) n old.first old.round.records.items more h.sizes s.later h.are)
            ∙ ap (after_front emits h.run.more_passed)
            (outcome-append job p (cut_into n old.first old.round.records.items h.sizes)
            (cut_into (n + length h.sizes) (old.first + sum_of h.sizes)
            (drop (sum_of h.sizes) old.round.records.items ++ more) s.later))
            ∙ ap (λ shards. with_rest shards (n + length h.sizes) (old.first + sum_of h.sizes) (sum_of h.sizes))
            (sym of_round)
            ∙ ap (λ c. with_rest (shards_of old.round) (n + length h.sizes) (old.first + c) c) (sym h.closed)
            ∙ ap (λ k. with_rest (shards_of old.round) (n + k) (old.first + old.closed) old.closed)
            (sym (ap length h.shards ∙ length-ranges 0 old.first h.sizes));
      }

  -- a shard of the round decides
  decides : (o : ShardsEnd)
      → ((front : List EmitDatum) (n : ℕ) (rest : ℕ → ShardsEnd) → after_front front n (then_outcome o rest) ≡ o)
      → outcome_from job old.round.passed (shards_of old.round) ≡ o → (input : List ℕ) → GoesOn read over input
      → (records : List (List ℕ)) (ending : Ending) (sizes : List ℕ)
      → IsCut frame full done.bytes done.records input records ending → AreShards most records sizes
      → outcome_from job done.passed (cut_into done.shards (done.records + 1) records sizes) ≡ o
  decides o stays is input on records ending sizes cut are =
      let b = begins done frame old.framer read over h.given old.ending h.fed input on records ending cut in
      let f = follows b.more b.ends sizes (subst (λ rs. AreShards most rs sizes) b.same are) in
      ap (λ rs. outcome_from job done.passed (cut_into done.shards (done.records + 1) rs sizes)) b.same ∙ f.goes_on
      ∙ ap (λ p. after_front emits h.run.more_passed (then_outcome p (later_of b.more f.sizes))) is
      ∙ stays emits h.run.more_passed (later_of b.more f.sizes)

  -- so the run ends
  pub round_stops : (stop : Stop) → StopsShards (outcome_from job old.round.passed (shards_of old.round)) stop
      → (input : List ℕ) → GoesOn read over input → RunsBehind done job most frame input (Err stop)
  round_stops (stops.Fault n f) is = decides (faulted n (seen_fault f)) (λ front k rest. refl) is
  round_stops (stops.Lost n) is = decides (lost n) (λ front k rest. refl) is
  round_stops (stops.Damaged byte) is = absurd is
  round_stops (stops.Limit byte) is = absurd is
  round_stops stops.ReadFailed is = absurd is
  round_stops stops.NoMemory is = λ input on records ending sizes cut are. tt

  -- the round has so many records
  pub so_many : length (all_records (shards_of old.round)) ≡ old.closed
  so_many =
      ap (λ l. length (all_records l)) of_round
      ∙ length_cut most (is_some old.ending) old.round.first_shard old.first old.round.records.items h.sizes h.are
      ∙ sym h.closed

  -- the last of them ends where it does in each input that goes on so
  pub done_place : 0 < old.closed → (rest : List ℕ) → GoesOn read over rest
      → get_or old.round.records.ends (old.closed - 1) 0 ≡ place_after frame full done.bytes done.records rest
      (length h.given - length old.round.records.items + old.closed)
  done_place some rest on =
      let place = place_after frame full done.bytes done.records rest in
      let all = length h.given - length old.round.records.items in
      let last : all + suc (old.closed - 1) ≡ all + old.closed = omega (arith, some) in
      ap (λ l. get_or l (old.closed - 1) 0) (h.ends rest on)
      ∙ last_place place all (length old.round.records.items) (old.closed - 1) (omega (arith, some, closed_within))
      ∙ ap place last

  -- the records of the round and those before them are so many
  pub done_records : old.first - 1 + old.closed - done.records
      ≡ length h.given - length old.round.records.items + old.closed
  done_records = omega (arith, h.count, at_hand, h.run.begun)

  -- none decides
  module _ (es : List EmitDatum) (n : ℕ)
      (is : outcome_from job old.round.passed (shards_of old.round) ≡ emitted es n) where
    -- no more of its records fault
    fewer_passed : n ≤ old.closed
    fewer_passed = let few = passed_records job old.round.passed (shards_of old.round) es n is in
        omega (arith, few, so_many)

    -- all emits so far are no more than the ticks of the records
    few_emits : length (emits ++ es) ≤ job.budget * (h.run.count + old.closed)
    few_emits =
        let few = few_of_shards job old.round.passed (shards_of old.round) es n is in
        let here : length es ≤ job.budget * old.closed = subst (λ n. length es ≤ job.budget * n) so_many few in
        omega (arith, here, h.run.few, mul-add job.budget h.run.count old.closed, length-append emits es)

    -- there is room for those of the round
    pub has_room : (total part : TotalState) → StandForEmits job.compiled total emits
        → StandForEmits job.compiled part es → IsJob job → total.count + part.count ≤ 2 ^ 63
    has_room total part stand standing job_is =
        let less : h.run.count + old.closed ≤ 2 ^ 31 = omega (arith, few_left, closed_within, h.run.begun) in
        let most_emits =
        bound job.budget (h.run.count + old.closed) (length (emits ++ es)) few_emits job_is.budget.most less in
        omega (arith, most_emits, length-append emits es, stand.stands.counted, standing.stands.counted)
      where
        bound : (b m n : ℕ) → n ≤ b * m → b ≤ 2 ^ 32 → m ≤ 2 ^ 31 → n ≤ 2 ^ 63
        bound b m n le few less = grind arith

    -- the round was run, and the records after it are at hand
    pub moves_on : IsRunning done job frame most (moved_on n old) (emits ++ es) read over
    moves_on = record {
      can = h.can;
      given = h.given;
      front = h.front ++ take old.closed old.round.records.items;
      given_is =
          h.given_is ∙ ap (λ l. h.front ++ l) (sym (take-append-drop old.closed old.round.records.items))
          ∙ sym
          (append_assoc h.front (take old.closed old.round.records.items) (drop old.closed old.round.records.items));
      fed = h.fed;
      low = h.low;
      limit = h.limit;
      sizes = [];
      are = tt;
      shards = refl;
      fits = no_shards (moved_on n old) refl;
      closed = refl;
      count = omega (arith, h.count, closed_within, length-drop old.closed old.round.records.items);
      ends = λ rest on. (
          let place = place_after frame full done.bytes done.records rest in
          let before = length h.given - length old.round.records.items in
          let long = length-drop old.closed old.round.records.items in
          let from : before + old.closed ≡ length h.given - length (drop old.closed old.round.records.items) =
          omega (arith, long, at_hand, closed_within) in
          ap (drop old.closed) (h.ends rest on) ∙ places_later place before old.closed (length old.round.records.items)
          ∙ ap (places_of place (before + old.closed)) (sym long)
          ∙ ap (λ k. places_of place k (length (drop old.closed old.round.records.items))) from);
      numbers =
          (let fewer = fewer_shards most (is_some old.ending) old.round.records.items h.sizes h.are in
          omega (arith, h.numbers, fewer, h.closed, ap length h.shards, length-ranges 0 old.first h.sizes));
      run = record {
        count = h.run.count + old.closed;
        begun = omega (arith, h.run.begun);
        low = few_passed job old.round.passed (shards_of old.round) es n h.run.low is;
        more_passed = h.run.more_passed + n;
        passed_so_far = omega (arith, h.run.passed_so_far);
        fewer = omega (arith, fewer_passed, h.run.fewer);
        few = few_emits;
        runs = λ more ends all are. (
            let f = follows more ends all are in
            record {
              sizes = f.sizes;
              are = f.are;
              goes_on =
                  f.goes_on
                  ∙ ap (λ p. after_front emits h.run.more_passed (then_outcome p (later_of more f.sizes))) is
                  ∙ later_both emits es h.run.more_passed n (later_of more f.sizes n);
            });
      };
    }

  -- the input has just these records, and this comes of them
  pub record HasEnded (records : List (List ℕ)) (ending : Ending) (sizes : List ℕ) (e : Ending) : Type 0 where
    pub same : records ≡ h.given
    pub ending_is : ending ≡ e
    pub outcome : outcome_from job done.passed (cut_into done.shards (done.records + 1) records sizes)
        ≡ emitted emits (h.run.more_passed + 0)
    pub counted : old.first - 1 ≡ done.records + length records
    pub within : done.records + length records ≤ 2 ^ 31
    pub few : length emits ≤ job.budget * length records

  -- no record is left
  pub has_ended : (e : Ending) → old.ending ≡ Some e → length old.round.records.items ≡ 0 → (input : List ℕ)
      → GoesOn read over input → (records : List (List ℕ)) (ending : Ending) (sizes : List ℕ)
      → IsCut frame full done.bytes done.records input records ending
      → AreShards most records sizes → HasEnded records ending sizes e
  has_ended e known none input on records ending sizes cut are =
      let b = begins done frame old.framer read over h.given old.ending h.fed input on records ending cut in
      let nothing_more : b.more ≡ [] = b.ends (ap is_some known) in
      let r = h.run.runs b.more b.ends sizes (subst (λ rs. AreShards most rs sizes) b.same are) in
      let no_rest : old.round.records.items ++ b.more ≡ [] =
      ap (λ rs. old.round.records.items ++ rs) nothing_more ∙ append-nil old.round.records.items
      ∙ no_records old.round.records.items none in
      let no_sizes : r.sizes ≡ [] = without r.sizes (subst (λ rs. AreShards most rs r.sizes) no_rest r.are) in
      let all : records ≡ h.given = b.same ∙ ap (λ rs. h.given ++ rs) nothing_more ∙ append-nil h.given in
      let count : h.run.count ≡ length records = omega (arith, ap length all, h.run.begun, h.count, none) in
      let few = few_given done frame old.framer read over h.given old.ending h.fed h.can.records in
      record {
        same = all;
        ending_is = b.ending_is e known;
        outcome =
            ap (λ rs. outcome_from job done.passed (cut_into done.shards (done.records + 1) rs sizes)) b.same
            ∙ r.goes_on ∙ ap (λ l. rest_of job emits h.run.more_passed old.round.passed old.round.first_shard
            old.first (old.round.records.items ++ b.more) l) no_sizes
            ∙ ap (λ es. emitted es (h.run.more_passed + 0)) (append-nil emits);
        counted = omega (arith, count, h.run.begun);
        within = omega (arith, ap length all, few);
        few = subst (λ n. length emits ≤ job.budget * n) count h.run.few;
      }
    where
      no_records : (rs : List (List ℕ)) → length rs ≡ 0 → rs ≡ []
      no_records [] z = refl
      no_records (r ∷ rs) z = absurd (omega (arith, z))

      without : (ns : List ℕ) → AreShards most [] ns → ns ≡ []
      without [] a = refl
      without (n ∷ ns) a = absurd (omega (arith, a.0.some, a.0.within))

-- the answer of a whole input, of which no record is left
pub ends_run : (job : Job) (frame : Frame) (most : ℕ) (old : Intake) (emits : List EmitDatum)
    (read : List ℕ) (over : Bool) → IsRunning nothing job frame most old emits read over → (total : TotalState)
    → StandForEmits job.compiled total emits → (e : Ending)
    → old.ending ≡ Some e → length old.round.records.items ≡ 0 → (input : List ℕ) → GoesOn read over input
    → RunsInput job most frame input (ended_so total (old.first - 1) e)
ends_run job frame most old emits read over h total stand e known none input on records ending sizes cut are =
    by e (has_ended nothing job frame most old emits read over h e known none input on records ending sizes cut are)
  where
    all : ShardsEnd
    all = outcome_from job 0 (cut_into 0 1 records sizes)

    by : (e : Ending) → HasEnded nothing job frame most old emits read over h records ending sizes e
        → EndsInput job (length records) ending all (ended_so total (old.first - 1) e)
    by endings.Whole end = record {
      emits = emits;
      passed = h.run.more_passed + 0;
      whole = end.ending_is;
      given = end.outcome;
      stand = stand;
      counted = omega (arith, end.counted);
      within = omega (arith, end.within);
      few = end.few;
    }
    by (endings.Damaged byte) end = (end.ending_is, (emits, h.run.more_passed + 0, end.outcome))
    by (endings.Limit byte) end = (end.ending_is, (emits, h.run.more_passed + 0, end.outcome))
