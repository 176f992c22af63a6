-- The round at hand after the rounds of a journal, and what is known after it.
use Rattle.std.proofs.Common.{◌≡◌, ℕ, suc, ◌+◌, ◌-◌, ◌*◌, ◌^◌, ◌<◌, ◌≤◌, List, [], ◌∷◌, ◌++◌, length, drop, get_or, Bool, Some}
use Rattle.std.proofs.Common.{refl, sym, ap, ◌∙◌, subst, arith, length-append, length-drop}
use Rattle.std.proofs.lemmas.List.{nil_from_length}
use Rattle.std.specs.Prelude.{is_some}
use Rattle.sz_types.specs.declared.frame.Frame.{Frame}
use Rattle.sz_mean.specs.Marked.{all_tables}
use Rattle.sz_tabs.specs.Data.{EmitDatum}
use Rattle.sz_save_format.specs.Saved.{SavedState}
use Rattle.sz_save.specs.Saving.{state_of_emits}
use Rattle.sz_records.specs.declared.ending.Ending.{Ending}
use Rattle.sz_records.specs.Cutting.{full, IsCut, place_after, ends_in}
use Rattle.sz_records.specs.Shards.{AreShards}
use Rattle.sz_attempt.specs.declared.job.Job.{Job}
use Rattle.sz_attempt.specs.Shards.{ShardData}
use Rattle.sz_workers.specs.Outcomes.{emitted, after_front, outcome_from, all_records}
use Rattle.sz_workers.specs.Rounds.{shards_of, numbered}
use Rattle.sz_workers.specs.Cuts.{cut_into}
use Rattle.sz_workers.proofs.OutcomeLemmas.{after_nothing}
use Rattle.sz_workers.proofs.RangeLemmas.{numbered_cut}
use Rattle.sz_workers.proofs.RoundLemmas.{length-numbered}
use Rattle.sz_journal.specs.declared.job.JobBytes.{JobBytes}
use Rattle.sz_journal.specs.declared.progress.Progress.{Progress}
use Rattle.sz_journal.specs.declared.round.RoundEntry.{RoundEntry}
use Rattle.sz_journal.specs.Rounds.{progress_of, MayFollow}
use Rattle.sz_stream.specs.declared.done.Done.{Done}
use Rattle.sz_stream.specs.declared.intake.Intake.{Intake}
use Rattle.sz_stream.specs.Inputs.{GoesOn}
use Rattle.sz_stream.specs.Intakes.{sum_of, IsFed, moved_on, done_with}
use Rattle.sz_stream.specs.InputRuns.{HasRun, IsRunning}
use Rattle.sz_stream.proofs.FedLemmas.{begins, few_given}
use Rattle.sz_stream.proofs.PlaceLemmas.{last_place}
use Rattle.sz_stream.proofs.PassedLemmas.{few_passed}
use Rattle.sz_stream.proofs.ShardLemmas.{fewer_shards, split, cut_append, length-ranges}
use Rattle.sz_stream.proofs.RunLemmas as runs
use Rattle.sz_resume.specs.Standing.{Source, place_in, IsRoundOf}
use Rattle.sz_resume.specs.Entries.{done_of, IsNext}
use Rattle.sz_resume.specs.Turns.{IsFresh}
use Rattle.sz_resume.proofs.FedLemmas.{place_further, place_within, place_low, later_place, fed_on, ends_on}

module _ {done : Done} {job : Job} {frame : Frame} {most : ℕ} {old : Intake} {emits : List EmitDatum} {read : List ℕ} {over : Bool}
    (fresh : IsFresh done job frame most old emits read over) where
  h : IsRunning done job frame most old emits read over
  h = fresh.running

  items : List (List ℕ)
  items = old.round.records.items

  given_are : h.given ≡ old.round.records.items
  given_are =
      let none : length h.front ≡ 0 =
      (let long = ap length h.given_is in omega (arith, long, h.count, fresh.first, length-append h.front old.round.records.items)) in
      h.given_is ∙ ap (λ rs. rs ++ old.round.records.items) (nil_from_length h.front none)

  fed : IsFed done frame old.framer old.ending read over old.round.records.items
  fed = subst (IsFed done frame old.framer old.ending read over) given_are h.fed

  pub so_many_more : old.round.passed ≡ done.passed
  so_many_more = omega (arith, h.run.begun, fresh.first, h.run.fewer, h.run.passed_so_far)

  few_left : done.records + length old.round.records.items ≤ 2 ^ 31
  few_left = few_given done frame old.framer read over old.round.records.items old.ending fed h.can.records

  closed_within : old.closed ≤ length old.round.records.items
  closed_within = runs.closed_within done job frame most old emits read over h

  so_many_shards : length old.round.shards ≡ length h.sizes
  so_many_shards = ap length h.shards ∙ length-ranges 0 old.first h.sizes

  fewer : length old.round.shards ≤ old.closed
  fewer =
      let fewer = fewer_shards most (is_some old.ending) old.round.records.items h.sizes h.are in omega (arith, fewer, h.closed, so_many_shards)

  -- as data the shards at hand are the front of all that are still to be run
  of_round : shards_of old.round ≡ cut_into old.round.first_shard old.first old.round.records.items h.sizes
  of_round =
      ap (numbered old.round.first_shard old.round.records.items) h.shards
      ∙ numbered_cut old.round.first_shard old.round.records.items 0 old.first h.sizes

  so_many : length (all_records (shards_of old.round)) ≡ old.closed
  so_many = runs.so_many done job frame most old emits read over h

  as_many : length (shards_of old.round) ≡ length old.round.shards
  as_many = length-numbered old.round.first_shard old.round.records.items old.round.shards

  -- where the records of the round end
  abbrev pub place : ℕ
  place = get_or old.round.records.ends (old.closed - 1) 0

  ends_are : (rest : List ℕ) → GoesOn read over rest
      → old.round.records.ends ≡ ends_in done.bytes done.records frame full rest 0 (length old.round.records.items)
  ends_are rest on =
      let none : length h.given - length old.round.records.items ≡ 0 = (let long = ap length given_are in omega (arith, long)) in
      h.ends rest on
      ∙ ap (λ i. ends_in done.bytes done.records frame full rest i (length old.round.records.items)) none

  module _ (some : 0 < length old.round.shards) where
    some_closed : 0 < old.closed
    some_closed = runs.some_closed done job frame most old emits read over h some

    pub leads : (rest : List ℕ) → GoesOn read over rest → place ≡ place_after frame full done.bytes done.records rest old.closed
    leads rest on =
        ap (λ ends. get_or ends (old.closed - 1) 0) (ends_are rest on)
        ∙ last_place (place_after frame full done.bytes done.records rest) 0 (length old.round.records.items) (old.closed - 1)
        (omega (arith, some_closed, closed_within))
        ∙ ap (place_after frame full done.bytes done.records rest) (let same : 0 + suc (old.closed - 1) ≡ old.closed = omega (arith, some_closed) in same)

    module _ {es : List EmitDatum} {n : ℕ} (is : outcome_from job old.round.passed (shards_of old.round) ≡ emitted es n) where
      abbrev pub next : Done
      next = done_with n old

      counted : next.records ≡ done.records + old.closed
      counted = omega (arith, fresh.first)

      abbrev pub k : ℕ
      k = place - done.bytes

      later_ends : (rest : List ℕ) → GoesOn (drop k read) over rest
          → drop old.closed old.round.records.ends
          ≡ ends_in next.bytes next.records frame full rest 0 (length old.round.records.items - old.closed)
      later_ends rest on =
          let all : GoesOn read over (read ++ on.more) = record { more = on.more; begins = refl; ends = on.ends } in
          ends_on frame full done.bytes done.records next.bytes next.records (read ++ on.more) rest old.round.records.ends old.closed
          (length old.round.records.items) (ends_are (read ++ on.more) all)
          (λ j. later_place done frame old.framer read over old.round.records.items old.closed place closed_within leads old.ending fed (read ++ on.more)
          on.more all refl j
          ∙ ap (λ m. place_after frame full place m (drop k read ++ on.more) j) (sym counted)
          ∙ ap (λ bytes. place_after frame full place next.records bytes j) (sym on.begins))

      runs_on : HasRun next job most (is_some old.ending) (drop old.closed old.round.records.items) (drop old.closed old.round.records.items)
          (old.round.first_shard + length old.round.shards) (old.first + old.closed) (old.round.passed + n) []
      runs_on = record {
        count = 0;
        begun = omega (arith, fresh.first, counted);
        low = few_passed job old.round.passed (shards_of old.round) es n h.run.low is;
        more_passed = 0;
        passed_so_far = omega arith;
        fewer = omega arith;
        few = omega arith;
        runs = λ more ends all are. record {
          sizes = all;
          are = are;
          goes_on =
              after_nothing (outcome_from job next.passed
              (cut_into next.shards (next.records + 1) (drop old.closed old.round.records.items ++ more) all))
              ∙ ap (λ m. after_front [] 0 (outcome_from job next.passed
              (cut_into next.shards m (drop old.closed old.round.records.items ++ more) all)))
              (let same : next.records + 1 ≡ old.first + old.closed = omega (arith, fresh.first, counted) in same);
        };
      }

      -- after the round all begins anew
      pub starts_anew : IsRunning next job frame most (moved_on n old) [] (drop k read) over
      starts_anew = record {
        can = record {
          shards = omega (arith, counted, h.numbers, fewer, fresh.first);
          records = omega (arith, counted, few_left, closed_within);
          bytes = place_low done frame old.framer read over old.round.records.items old.closed place closed_within leads old.ending fed h.can.bytes;
        };
        given = drop old.closed old.round.records.items;
        front = [];
        given_is = refl;
        fed =
            fed_on done frame old.framer read over old.round.records.items old.closed place closed_within leads next refl counted h.can.bytes old.ending
            fed;
        low = h.low;
        limit = h.limit;
        sizes = [];
        are = tt;
        shards = refl;
        fits = runs.no_shards (moved_on n old) refl;
        closed = refl;
        count = omega (arith, counted, fresh.first);
        ends = λ rest on.
            later_ends rest on
            ∙ ap (λ m. ends_in next.bytes next.records frame full rest 0 m) (sym (length-drop old.closed old.round.records.items))
            ∙ ap (λ i. ends_in next.bytes next.records frame full rest i
            (length (drop old.closed old.round.records.items)))
            (let none : 0 ≡ length (drop old.closed old.round.records.items) - length (drop old.closed old.round.records.items) = omega arith in none);
        numbers = omega (arith, h.numbers, fewer);
        run = runs_on;
      }

      pub within_read : k ≤ length read
      within_read = place_within done frame old.framer read over old.round.records.items old.closed place closed_within leads old.ending fed

      module _ {round : RoundEntry} (one : IsNext job old n es round) where
        -- its numbers, by the shards of the round
        next_shard_is : round.next_shard ≡ old.round.first_shard + length (shards_of old.round)
        next_shard_is = ap (λ (d : Done). d.shards) one.done ∙ ap (λ m. old.round.first_shard + m) (sym as_many)

        records_are : round.records ≡ old.first - 1 + length (all_records (shards_of old.round))
        records_are = ap (λ (d : Done). d.records) one.done ∙ ap (λ m. old.first - 1 + m) (sym so_many)

        next_byte_is : round.next_byte ≡ next.bytes
        next_byte_is = ap (λ (d : Done). d.bytes) one.done

        passed_is : round.passed ≡ old.round.passed + n
        passed_is = ap (λ (d : Done). d.passed) one.done

        saved_is : round.saved ≡ state_of_emits (length (all_records (shards_of old.round)) * job.budget) (all_tables job.compiled) es
        saved_is = one.saved ∙ ap (λ m. state_of_emits (m * job.budget) (all_tables job.compiled) es) (sym so_many)

        -- what is done then is where the round ends
        pub done_is : done_of (progress_of round) ≡ next
        done_is = one.done

        -- so many bytes further
        pub place_on : round.next_byte - done.bytes ≡ place - done.bytes
        place_on = ap (λ m. m - done.bytes) next_byte_is

        pub rises : done.bytes ≤ round.next_byte
        rises =
            let further = place_further done frame old.framer read over old.round.records.items old.closed place closed_within leads old.ending fed some_closed in
            omega (arith, further, next_byte_is)

        -- the round has few shards
        pub is_small : round.next_shard ≤ done.shards + 4096
        is_small = omega (arith, next_shard_is, as_many, h.fits.few, fresh.number)

        -- the records at hand begin later
        pub further : old.first < old.first + old.closed
        further = omega (arith, some_closed)

        -- the round may follow
        pub may_follow : (name : JobBytes) (progress : Progress) → done_of progress ≡ done → name.budget ≡ job.budget → name.skip ≡ job.skip
            → MayFollow name (all_tables job.compiled) progress round
        may_follow name progress same budget skip =
            let rises = place_further done frame old.framer read over old.round.records.items old.closed place closed_within leads old.ending fed some_closed in
            let s = ap (λ (d : Done). d.shards) same in
            let r = ap (λ (d : Done). d.records) same in
            let b = ap (λ (d : Done). d.bytes) same in
            let p = ap (λ (d : Done). d.passed) same in
            let few = few_passed job old.round.passed (shards_of old.round) es n h.run.low is in
            let low = place_low done frame old.framer read over old.round.records.items old.closed place closed_within leads old.ending fed h.can.bytes in
            let own : length (all_records (shards_of old.round)) ≡ round.records - progress.records = omega (arith, records_are, fresh.first, r) in
            record {
              goes_on = record {
                more_shards = omega (arith, next_shard_is, as_many, some, fresh.number, s);
                more_records = omega (arith, records_are, so_many, some_closed, fresh.first, r);
                more_bytes = omega (arith, next_byte_is, rises, b);
                shards_have_records = omega (arith, next_shard_is, as_many, records_are, so_many, h.numbers, fewer);
                records = omega (arith, records_are, so_many, closed_within, few_left, fresh.first);
                bytes = omega (arith, next_byte_is, low);
                passed_later = omega (arith, passed_is, so_many_more, p);
              };
              passed = omega (arith, passed_is, few, skip);
              saved = one.can;
              same_decls = ap (λ (x : SavedState). x.decls) saved_is;
              bound =
                  ap (λ (x : SavedState). x.bound) saved_is ∙ ap (λ m. m * job.budget) own
                  ∙ ap (λ m. (round.records - progress.records) * m) (sym budget);
            }

        -- it is that of its shards, in each input that goes on so
        pub is_round_of : (source : Source) (progress : Progress) → done_of progress ≡ done → source.frame ≡ frame
            → GoesOn read over (drop done.bytes source.bytes)
            → ((j : ℕ) → place_in source (done.records + j) ≡ place_after frame full done.bytes done.records (drop done.bytes source.bytes) j)
            → IsRoundOf job source progress (shards_of old.round) round
        is_round_of source progress same same_frame on later =
            let s = ap (λ (d : Done). d.shards) same in
            let r = ap (λ (d : Done). d.records) same in
            let p : old.round.passed ≡ progress.passed = so_many_more ∙ sym (ap (λ (d : Done). d.passed) same) in
            let records : round.records ≡ done.records + old.closed = omega (arith, records_are, so_many, fresh.first) in
            record {
              emits = es;
              passed = n;
              none_decides = ap (λ m. outcome_from job m (shards_of old.round)) (sym p) ∙ is;
              next_shard = omega (arith, next_shard_is, fresh.number, s);
              records = omega (arith, records_are, fresh.first, r);
              next_byte = next_byte_is ∙ leads (drop done.bytes source.bytes) on ∙ sym (later old.closed) ∙ ap (place_in source) (sym records);
              passed_so_far = omega (arith, passed_is, p);
              saved = saved_is;
            }

  -- the shards that are left begin with those of the round
  pub record BeginsWith (left : List ShardData) : Type 0 where
    pub back : List ShardData
    pub is : left ≡ shards_of old.round ++ back

  pub left_begins : (rs : List (List ℕ)) (e : Ending) (sizes : List ℕ) (left : List ShardData) (input : List ℕ) → GoesOn read over input
      → IsCut frame full done.bytes done.records input rs e → AreShards most rs sizes → left ≡ cut_into done.shards (done.records + 1) rs sizes
      → BeginsWith left
  left_begins rs e sizes left input on cut are is =
      let b = begins done frame old.framer read over old.round.records.items old.ending fed input on rs e cut in
      let s = split most (is_some old.ending) old.round.records.items b.more h.sizes sizes b.ends h.are (subst (λ l. AreShards most l sizes) b.same are) in
      record {
        back = cut_into (old.round.first_shard + length h.sizes) (old.first + sum_of h.sizes) (drop (sum_of h.sizes) old.round.records.items ++ b.more) s.later;
        is =
            is ∙ ap (λ m. cut_into m (done.records + 1) rs sizes) (sym fresh.number)
            ∙ ap (λ m. cut_into old.round.first_shard m rs sizes) (sym fresh.first)
            ∙ ap (λ l. cut_into old.round.first_shard old.first l sizes) b.same
            ∙ ap (cut_into old.round.first_shard old.first (old.round.records.items ++ b.more)) s.same
            ∙ cut_append most (is_some old.ending) old.round.first_shard old.first old.round.records.items b.more h.sizes s.later h.are
            ∙ ap (λ l. l ++ cut_into (old.round.first_shard + length h.sizes) (old.first + sum_of h.sizes)
            (drop (sum_of h.sizes) old.round.records.items ++ b.more) s.later) (sym of_round);
      }

  -- no shard is left, where the records are at their end and none is at hand
  pub record IsOver (known : Ending) (e : Ending) (left : List ShardData) : Type 0 where
    pub none : left ≡ []
    pub ending : e ≡ known

  pub none_left : (known : Ending) → old.ending ≡ Some known → length old.round.records.items ≡ 0 → (rs : List (List ℕ)) (e : Ending) (sizes : List ℕ)
      (left : List ShardData) (input : List ℕ) → GoesOn read over input → IsCut frame full done.bytes done.records input rs e → AreShards most rs sizes
      → left ≡ cut_into done.shards (done.records + 1) rs sizes → IsOver known e left
  none_left known ended none rs e sizes left input on cut are is =
      let b = begins done frame old.framer read over old.round.records.items old.ending fed input on rs e cut in
      let all : rs ≡ [] =
      b.same ∙ ap (λ l. l ++ b.more) (nil_from_length old.round.records.items none) ∙ b.ends (ap is_some ended) in
      let no_sizes = without sizes (subst (λ l. AreShards most l sizes) all are) in
      record { none = is ∙ ap (cut_into done.shards (done.records + 1) rs) no_sizes; ending = b.ending_is known ended }
    where
      without : (ns : List ℕ) → AreShards most [] ns → ns ≡ []
      without [] a = refl
      without (n ∷ ns) a = absurd (omega (arith, a.0.some, a.0.within))
