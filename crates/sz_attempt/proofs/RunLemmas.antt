-- How the records of a shard are run one after the other.
use Rattle.std.proofs.Common.{◌≡◌, ℕ, zero, suc, ◌+◌, ◌-◌, ◌*◌, ◌^◌, ◌<◌, ◌≤◌, List, [], ◌∷◌, ◌++◌, length, get_or, take, drop, Some, All, inl, inr, refl, sym}
use Rattle.std.proofs.Common.{ap, ◌∙◌, subst, arith, append_assoc, append-nil, length-append}
use Rattle.std.specs.Prelude.{slice_get}
use Rattle.std.specs.List.{slice_range}
use Rattle.std.proofs.lemmas.List.Elements.{All-get_or}
use Rattle.std.proofs.lemmas.List.{length-map, map-append}
use Rattle.std.proofs.lemmas.Option.{slice_get_within}
use Rattle.sz_tabs.specs.Data.{EmitDatum}
use Rattle.sz_tabs.specs.Fitting.{IsEmitTo}
use Rattle.sz_instr.specs.declared.code.Code.{Code}
use Rattle.sz_world_rules.specs.World.{Outcome, Done, Faulted}
use Rattle.sz_mean.specs.Marked.{all_tables}
use Rattle.sz_mean.specs.Programs.{mean}
use Rattle.sz_mean.proofs.EmitCosts.{emits_are_paid}
use Rattle.sz_instr.specs.Runs.{RunsTo}
use Rattle.sz_instr.proofs.EmitsFit.{emits_fit}
use Rattle.sz_machine.specs.declared.ends.RunEnd.{RunEnd}
use Rattle.sz_machine.specs.declared.ends.Fault.{Fault}
use Rattle.sz_machine.specs.Ends.{seen_end, seen_fault, RunEnds}
use Rattle.sz_gen_rules.specs.Compiled.{IsCompiled}
use Rattle.sz_total.specs.Short.{HasShortParts}
use Rattle.sz_total.specs.Totals.{StandsFor, Gains}
use Rattle.sz_total.specs.States.{TotalState, declarations, emit_count, shown}
use Rattle.sz_attempt.specs.declared.job.Job.{Job}
use Rattle.sz_attempt.specs.Shards.{IsJob}
use Rattle.sz_attempt.specs.declared.ends.Skipped.{Skipped}
use Rattle.sz_attempt.specs.Yields.{Faulting, Yield, both, yield_of, means}
use Rattle.sz_attempt.specs.Ends.{StandForEmits, seen_skipped, seen_faults}
use Rattle.sz_attempt.specs.ShardRuns.{GainsAll, RunsRecord, RunsRecords}
use Rattle.sz_attempt.proofs.PaidLemmas.{emits_paid}
use Rattle.sz_attempt.proofs.ShortLemmas.{emits_short}
use Rattle.sz_attempt.proofs.MeansLemmas.{means_more, faults_in_front, take_of_take, take_whole, take_front, length-take_within}

-- one item more of a list in front
take_suc : {A : Type 0} (xs : List A) (i : ℕ) (x : A) → slice_get xs i ≡ Some x → take (suc i) xs ≡ take i xs ++ x ∷ []
take_suc [] i x there = absurd (cc)
take_suc (y ∷ xs) zero x there = ap (λ z. z ∷ []) (cc)
take_suc (y ∷ xs) (suc i) x there = ap (λ zs. y ∷ zs) (take_suc xs i x there)

pub take_got : {A : Type 0} (xs : List A) (i : ℕ) (x : A) → slice_get xs i ≡ Some x
    → take (i + 1) xs ≡ take i xs ++ x ∷ []
take_got xs i x there = let next : i + 1 ≡ suc i = omega arith in ap (λ n. take n xs) next ∙ take_suc xs i x there

got_after : {A : Type 0} (a : ℕ) (xs : List A) (i : ℕ) → slice_get (drop a xs) i ≡ slice_get xs (a + i)
got_after zero xs i = let same : i ≡ 0 + i = omega arith in ap (λ n. slice_get xs n) same
got_after (suc a) [] i = refl
got_after (suc a) (x ∷ xs) i = let next : suc a + i ≡ suc (a + i) = omega arith in
    got_after a xs i ∙ ap (λ n. slice_get (x ∷ xs) n) (sym next)

got_in_front : {A : Type 0} (n : ℕ) (xs : List A) (i : ℕ) → i < n → slice_get (take n xs) i ≡ slice_get xs i
got_in_front zero xs i less = absurd (omega arith)
got_in_front (suc n) [] i less = refl
got_in_front (suc n) (x ∷ xs) zero less = refl
got_in_front (suc n) (x ∷ xs) (suc i) less = got_in_front n xs i (omega arith)

-- the item at a place of a part of a list
pub got_in_range : {A : Type 0} (xs : List A) (a b i : ℕ) (x : A) → slice_get xs (a + i) ≡ Some x → i < b - a
    → slice_get (slice_range xs a b) i ≡ Some x
got_in_range xs a b i x there less = got_in_front (b - a) (drop a xs) i less ∙ got_after a xs i ∙ there

left_later : {A : Type 0} (ys : List A) (n : ℕ) → length ys - n ≤ length (drop n ys)
left_later ys zero = omega arith
left_later [] (suc n) = omega arith
left_later (y ∷ ys) (suc n) = let rest = left_later ys n in omega (arith, rest)

-- a part of a list within it has all items between the two places
pub length_of_range : {A : Type 0} (xs : List A) (a b : ℕ) → b ≤ length xs → length (slice_range xs a b) ≡ b - a
length_of_range xs a b le = let long : b - a ≤ length (drop a xs) = omega (arith, le, left_later xs a) in
    length-take_within (b - a) (drop a xs) long

-- emits that are added one after the other
pub gains_nothing : (total : TotalState) → GainsAll total total []
gains_nothing total = record {
  tables = refl;
  count = omega arith;
  appended = λ front stands. subst (StandsFor declarations emit_count shown total) (sym (append-nil front)) stands;
}

gains_one : (old now next : TotalState) (es : List EmitDatum) (e : EmitDatum) → GainsAll old now es
    → Gains declarations emit_count shown now next e → GainsAll old next (es ++ e ∷ [])
gains_one old now next es e h more = record {
  tables = more.same_tables ∙ h.tables;
  count = omega (arith, h.count, more.one_more, length-append es (e ∷ []));
  appended = λ front stands.
      subst (StandsFor declarations emit_count shown next) (append_assoc front es (e ∷ []))
      (more.appended (front ++ es) (h.appended front stands));
}

-- the emits up to a place were added
module _ (old now : TotalState) (es : List EmitDatum) (i : ℕ) (e : EmitDatum) (there : i < length es)
    (is : e ≡ get_or es i e) (h : GainsAll old now
    (take i es)) where
  -- the next one fits its table
  pub next_fits : All (IsEmitTo old.tables) es → IsEmitTo now.tables e
  next_fits all =
      subst (λ ts. IsEmitTo ts e) (sym h.tables)
      (subst (IsEmitTo old.tables) (sym is) (All-get_or (IsEmitTo old.tables) es i e there all))

  -- and has short lengths
  pub next_short : All HasShortParts es → HasShortParts e
  next_short all = subst HasShortParts (sym is) (All-get_or HasShortParts es i e there all)

  -- and there is room for it
  pub next_has_room : old.count + length es ≤ 2 ^ 63 → now.count < 2 ^ 63
  next_has_room few = omega (arith, there, few, h.count, length-take_within i es (omega (arith, there)))

  -- and then it is added
  pub next_added : (next : TotalState) → Gains declarations emit_count shown now next e
      → GainsAll old next (take (i + 1) es)
  next_added next more =
      subst (GainsAll old next) (sym (taken_more es i there is)) (gains_one old now next (take i es) e h more)
    where
      taken : (xs : List EmitDatum) (n : ℕ) → n < length xs → e ≡ get_or xs n e → take (suc n) xs ≡ take n xs ++ e ∷ []
      taken [] n less at = absurd (omega arith)
      taken (x ∷ xs) zero less at = ap (λ z. z ∷ []) (sym at)
      taken (x ∷ xs) (suc n) less at = ap (λ zs. x ∷ zs) (taken xs n (omega arith) at)

      taken_more : (xs : List EmitDatum) (n : ℕ) → n < length xs → e ≡ get_or xs n e
          → take (n + 1) xs ≡ take n xs ++ e ∷ []
      taken_more xs n less at = let next : n + 1 ≡ suc n = omega arith in ap (λ m. take m xs) next ∙ taken xs n less at

-- what the code does is what the program means
module _ (job : Job) (code : Code) (compiled : IsCompiled job.compiled code) (is : IsJob job) (input : List ℕ) where
  runs : RunsTo code input job.statics job.budget (mean job.compiled job.statics job.budget input)
  runs = compiled.simulates.records_end job.statics job.budget input is.statics is.budget

  pub record_ends : RunEnds code input job.statics job.budget
  record_ends = record { outcome = mean job.compiled job.statics job.budget input; ends = runs }

  pub record_means : (end : RunEnd)
      → ((o : Outcome (List EmitDatum)) → RunsTo code input job.statics job.budget o → seen_end end ≡ o)
      → mean job.compiled job.statics job.budget input ≡ seen_end end
  record_means end of = sym (of (mean job.compiled job.statics job.budget input) runs)

  -- its emits fit the program's tables
  pub fit_tables : (es : List EmitDatum) → mean job.compiled job.statics job.budget input ≡ Done es
      → All (IsEmitTo (all_tables job.compiled)) es
  fit_tables es means =
      subst (λ ts. All (IsEmitTo ts) es) compiled.tables
      (emits_fit code input job.statics job.budget es (subst (RunsTo code input job.statics job.budget) means runs))

  -- and have short lengths
  pub short_of_record : (es : List EmitDatum) → mean job.compiled job.statics job.budget input ≡ Done es
      → All HasShortParts es
  short_of_record es means =
      emits_short job.budget is.budget.most es
      (emits_paid code input job.statics job.budget es (subst (RunsTo code input job.statics job.budget) means runs))

  -- and are no more than its ticks
  pub few_of_record : (es : List EmitDatum) → mean job.compiled job.statics job.budget input ≡ Done es
      → length es ≤ 2 ^ 32
  few_of_record es means =
      let paid = emits_are_paid job.compiled job.statics job.budget input es means in
      omega (arith, paid, is.budget.most)

-- so many of the records were run, no more of them fault than may be passed over, and they gave few emits
pub record IsRunUpTo (job : Job) (first : ℕ) (records : List (List ℕ)) (i : ℕ) (total : TotalState)
    (faults : List Skipped) : Type 0 where
  pub few : length faults ≤ job.skip
  pub passed : seen_faults faults ≡ (means job first (take i records)).faults
  pub holds : StandForEmits job.compiled total (means job first (take i records)).emits
  pub count : total.count ≤ 2 ^ 32 * i

module _ (job : Job) (first : ℕ) (records : List (List ℕ)) where
  -- what comes of one record more
  means_next : (i : ℕ) (r : List ℕ) (o : Outcome (List EmitDatum)) → slice_get records i ≡ Some r
      → mean job.compiled job.statics job.budget r ≡ o
      → means job first (take (i + 1) records) ≡ both (means job first (take i records)) (yield_of (first + i) o)
  means_next i r o there is =
      ap (means job first) (take_got records i r there) ∙ means_more job first (take i records) r
      ∙ ap (λ q. both (means job first (take i records)) (yield_of (first + length (take i records)) q)) is
      ∙ ap (λ k. both (means job first (take i records)) (yield_of (first + k) o))
      (let within = slice_get_within records i r there in length-take_within i records (omega (arith, within)))

  -- one record more was run
  pub run_more : (i : ℕ) (old new : TotalState) (faults : List Skipped) (r : List ℕ) (es : List EmitDatum) → IsJob job
      → slice_get records i ≡ Some r → mean job.compiled job.statics job.budget r ≡ Done es → GainsAll old new es
      → IsRunUpTo job first records i old faults → IsRunUpTo job first records (i + 1) new faults
  run_more i old new faults r es is there gives gains h =
      let next = means_next i r (Done es) there gives in
      let emits = ap (λ (y : Yield). y.emits) next in
      record {
        few = h.few;
        passed = h.passed ∙ sym (append-nil (means job first (take i records)).faults)
            ∙ sym (ap (λ (y : Yield). y.faults) next);
        holds = subst (StandForEmits job.compiled new) (sym emits) (record {
          tables = gains.tables ∙ h.holds.tables;
          stands = gains.appended (means job first (take i records)).emits h.holds.stands;
        });
        count = omega (
          arith,
          gains.count,
          h.count,
          is.budget.most,
          emits_are_paid job.compiled job.statics job.budget r es gives,
        );
      }

  -- one record more faults
  module _ (i : ℕ) (total : TotalState) (faults : List Skipped) (r : List ℕ) (f : Fault)
      (there : slice_get records i ≡ Some r) (fails : mean job.compiled job.statics job.budget r
      ≡ Faulted (seen_fault f)) (h : IsRunUpTo job first records i total faults)
      (one : Skipped) (number : one.record_no ≡ first + i) (same : one.fault ≡ f) where
    abbrev more : List Skipped
    more = faults ++ one ∷ []

    one_is : seen_skipped one ≡ record { number = first + i; fault = seen_fault f }
    one_is =
        ap (λ n. record { number = n; fault = seen_fault one.fault }) number
        ∙ ap (λ (g : Fault). record { number = first + i; fault = seen_fault g }) same

    next : means job first (take (i + 1) records)
        ≡ both (means job first (take i records)) (yield_of (first + i) (Faulted (seen_fault f)))
    next = means_next i r (Faulted (seen_fault f)) there fails

    more_passed : seen_faults more ≡ (means job first (take (i + 1) records)).faults
    more_passed =
        map-append seen_skipped faults (one ∷ []) ∙ ap (λ fs. fs ++ seen_skipped one ∷ []) h.passed
        ∙ ap (λ (q : Faulting). (means job first (take i records)).faults ++ q ∷ []) one_is
        ∙ sym (ap (λ (y : Yield). y.faults) next)

    -- and is passed over
    pub run_over : length more ≤ job.skip → IsRunUpTo job first records (i + 1) total more
    run_over few = record {
      few = few;
      passed = more_passed;
      holds = subst (StandForEmits job.compiled total)
          (sym (append-nil (means job first (take i records)).emits) ∙ sym (ap (λ (y : Yield). y.emits) next)) h.holds;
      count = omega (arith, h.count);
    }

    -- or is one too many, of any more records
    pub run_fails : (n : ℕ) → i < n → job.skip < length more
        → RunsRecords job (means job first (take n records)) total more
    run_fails n less many =
        let long : length more ≡ suc job.skip = omega (arith, many, h.few, length-append faults (one ∷ [])) in
        let seen : length (means job first (take (i + 1) records)).faults ≡ suc job.skip =
        sym (ap length more_passed) ∙ length-map more seen_skipped ∙ long in
        let all = faults_in_front job first (i + 1) (take n records) in
        let front = ap (λ rs. (means job first rs).faults) (take_of_take (i + 1) n records (omega (arith, less))) in
        let rest =
        (means job (first + length (take (i + 1) (take n records))) (drop (i + 1) (take n records))).faults in
        let here = (means job first (take (i + 1) records)).faults in
        record {
          first = more_passed ∙ sym (take_whole (suc job.skip) here (omega (arith, seen)))
              ∙ sym (take_front (suc job.skip) here rest (omega (arith, seen)))
              ∙ sym (ap (λ fs. take (suc job.skip) (fs ++ rest)) front) ∙ sym (ap (take (suc job.skip)) all);
          stand = λ few. absurd (omega (arith, few, many));
        }

  -- the next record was run
  module _ (i : ℕ) (old new : TotalState) (before after : List Skipped) (r : List ℕ) (is : IsJob job)
      (there : slice_get records i ≡ Some r)
      (h : IsRunUpTo job first records i old before) where
    -- and too many records fault by now
    pub run_stop : (n : ℕ) → i < n → RunsRecord job (first + i) r old new before after → job.skip < length after
        → RunsRecords job (means job first (take n records)) new after
    run_stop n less (inl (es, gives, gains, same)) many = let as_before = ap length same in
        absurd (omega (arith, as_before, many, h.few))
    run_stop n less (inr (f, fails, kept, later)) many =
        let one : Skipped = record { record_no = first + i; fault = f } in
        subst (λ t. RunsRecords job (means job first (take n records)) t after) (sym kept)
        (subst (RunsRecords job (means job first (take n records)) old) (sym later)
        (run_fails i old before r f there fails h one refl refl n less (subst (λ fs. job.skip < length fs) later many)))

    -- or not
    pub run_on : RunsRecord job (first + i) r old new before after → length after ≤ job.skip
        → IsRunUpTo job first records (i + 1) new after
    run_on (inl (es, gives, gains, same)) few =
        subst (IsRunUpTo job first records (i + 1) new) (sym same)
        (run_more i old new before r es is there gives gains h)
    run_on (inr (f, fails, kept, later)) few =
        let one : Skipped = record { record_no = first + i; fault = f } in
        subst (λ t. IsRunUpTo job first records (i + 1) t after) (sym kept)
        (subst (IsRunUpTo job first records (i + 1) old) (sym later)
        (run_over i old before r f there fails h one refl refl (subst (λ fs. length fs ≤ job.skip) later few)))

  -- all were run
  pub run_all : (n : ℕ) (total : TotalState) (faults : List Skipped) → IsRunUpTo job first records n total faults
      → RunsRecords job (means job first (take n records)) total faults
  run_all n total faults h =
      let long = sym (ap length h.passed) ∙ length-map faults seen_skipped in
      record {
        first = h.passed
            ∙ sym (take_whole (suc job.skip) (means job first (take n records)).faults (omega (arith, long, h.few)));
        stand = λ few. h.holds;
      }
