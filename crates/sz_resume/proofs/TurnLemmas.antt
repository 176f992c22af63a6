-- What is known between two rounds, from round to round.
use Rattle.std.proofs.Common.{◌≡◌, inl, inr, ℕ, ◌+◌, ◌-◌, ◌*◌, ◌<◌, ◌≤◌, List, [], ◌∷◌, ◌++◌, length, drop, Bool, true, Option, Some, None}
use Rattle.std.proofs.Common.{refl, sym, ap, ◌∙◌, subst, arith, append-nil}
use Rattle.std.proofs.lemmas.List.{drop-drop, drop-append-le}
use Rattle.std.specs.Prelude.{Result, Ok, Err}
use Rattle.std.specs.Io.KnownBytes.{Consumes, IsAtEnd}
use Rattle.sz_types.specs.declared.frame.Frame.{Frame}
use Rattle.sz_mean.specs.Marked.{all_tables}
use Rattle.sz_tabs.specs.Data.{EmitDatum}
use Rattle.sz_save_format.specs.Saved.{SavedState}
use Rattle.sz_records.specs.declared.ending.Ending.{Ending}
use Rattle.sz_records.specs.Cutting.{full, IsCut}
use Rattle.sz_records.specs.Behind.{IsCutBehind}
use Rattle.sz_records.specs.Shards.{AreShards}
use Rattle.sz_records.proofs.BehindLemmas.{the_rest_is_cut_so}
use Rattle.sz_records.proofs.CutLaws.{cut_once}
use Rattle.sz_records.proofs.ShardLemmas.{shards_are_unique}
use Rattle.sz_attempt.specs.declared.job.Job.{Job}
use Rattle.sz_attempt.specs.Shards.{ShardData}
use Rattle.sz_machine.specs.Ends.{seen_fault}
use Rattle.sz_workers.specs.Outcomes.{ShardsEnd, emitted, faulted, lost, after_front, then_outcome, outcome_from, outcome_of}
use Rattle.sz_workers.specs.Rounds.{shards_of}
use Rattle.sz_workers.specs.Cuts.{cut_into}
use Rattle.sz_workers.proofs.OutcomeLemmas.{outcome-append}
use Rattle.sz_disk.specs.Crashes.{Images}
use Rattle.sz_disk.specs.Crashing.{Rests}
use Rattle.sz_journal.specs.declared.job.JobBytes.{JobBytes}
use Rattle.sz_journal.specs.declared.progress.Progress.{Progress}
use Rattle.sz_journal.specs.declared.round.RoundEntry.{RoundEntry}
use Rattle.sz_journal.specs.Rounds.{no_progress, progress_of, last_progress, all_bounds}
use Rattle.sz_journal.specs.Journals.{Spells}
use Rattle.sz_journal.specs.declared.tail.Tail.{Tail}
use Rattle.sz_stream.specs.declared.done.Done.{Done}
use Rattle.sz_stream.specs.declared.intake.Intake.{Intake}
use Rattle.sz_stream.specs.declared.stop.Stop.TheVariants as stops
use Rattle.sz_stream.specs.Inputs.{GoesOn}
use Rattle.sz_stream.specs.Intakes.{moved_on, done_with}
use Rattle.sz_stream.specs.InputRuns.{IsRunning}
use Rattle.sz_resume.specs.declared.halt.Halt.{Halt}
use Rattle.sz_resume.specs.declared.halt.Halt.TheVariants as halts
use Rattle.sz_save.specs.Saving.{state_of_emits}
use Rattle.sz_resume.specs.Standing.{Source, AreRoundsOf, Stands, IsFound}
use Rattle.sz_resume.specs.Stops.{HoldsAll}
use Rattle.sz_resume.specs.Runs.{EndsJob, RunsSource}
use Rattle.sz_resume.specs.Entries.{done_of, IsNext, all_parts, AreSavedOf}
use Rattle.sz_resume.specs.Turns.{AllStand, IsFresh, IsAfter, rest_from, StopsHalt, EndsSo}
use Rattle.sz_resume.proofs.NumberLemmas.{progress-append}
use Rattle.sz_resume.proofs.StandLemmas.{IsAt, at_start, rounds_on, all_bounded, one_more, gives}
use Rattle.sz_resume.proofs.NextLemmas.{BeginsWith, IsOver, left_begins, none_left, starts_anew, within_read, place_on, done_is, is_round_of, so_many_more}

-- ---- bytes that are left

pub rest_twice : (k n : ℕ) (left : Option (List ℕ)) → rest_from k (rest_from n left) ≡ rest_from (n + k) left
rest_twice k n None = refl
rest_twice k n (Some bytes) = ap (λ b. Some b) (drop-drop k n bytes)

consumes_on : (start left : Option (List ℕ)) (read : List ℕ) (k : ℕ) → k ≤ length read → Consumes start left read
    → Consumes (rest_from k start) left (drop k read)
consumes_on None left read k le h = tt
consumes_on (Some s) None read k le h = absurd h
consumes_on (Some s) (Some l) read k le h = ap (drop k) h ∙ drop-append-le k read l le

-- where the input is told, it goes on with what was read
goes_on_told : (start left : Option (List ℕ)) (read rest : List ℕ) (over : Bool) → Consumes start left read → (over ≡ true → IsAtEnd left)
    → start ≡ Some rest → GoesOn read over rest
goes_on_told None left read rest over h at_end is = absurd (cc)
goes_on_told (Some s) None read rest over h at_end is = absurd h
goes_on_told (Some s) (Some l) read rest over h at_end is =
    let same : s ≡ rest = cc in record { more = l; begins = sym same ∙ h; ends = at_end }

module _ (job : Job) (source : Source) where
  -- ---- what stands

  -- a journal that may be found stands for the first shards, however the input is cut
  pub found_stands : (name : JobBytes) (held : List ℕ) (rounds : List RoundEntry) → IsFound name job source held rounds → AllStand job source rounds
  found_stands name held rounds (inl none) records ending sizes cut are =
      (cut_into 0 1 records sizes, subst (λ rs. AreRoundsOf job source no_progress (cut_into 0 1 records sizes) rs (cut_into 0 1 records sizes)) (sym none.1) refl)
  found_stands name held rounds (inr stands) records ending sizes cut are =
      let s = stands.1 in
      let one = (cut_once source.frame full 0 0 source.bytes s.records records s.ending ending s.cut cut).0 in
      let same = shards_are_unique source.most records s.sizes sizes (subst (λ rs. AreShards source.most rs s.sizes) one s.shards) are in (
        stands.0,
        subst (λ ns. AreRoundsOf job source no_progress (cut_into 0 1 records ns) rounds stands.0) same
            (subst (λ rs. AreRoundsOf job source no_progress (cut_into 0 1 rs s.sizes) rounds stands.0) one s.are),
      )

  -- where the journal spells more rounds, and they stand
  pub stands_more : (name : JobBytes) (held image : List ℕ) (before rounds : List RoundEntry) → Stands name job source held before
      → AllStand job source rounds → Spells name (all_tables job.compiled) image rounds → Stands name job source image rounds
  stands_more name held image before rounds stands all spells =
      let s = stands.1 in
      let here = all s.records s.ending s.sizes s.cut s.shards in (
        here.0,
        record { spells = spells; records = s.records; ending = s.ending; cut = s.cut; sizes = s.sizes; shards = s.shards; are = here.1 },
      )

  -- one way in which the input is cut, and where the rounds end in it
  module _ (rounds : List RoundEntry) (all : AllStand job source rounds) (records : List (List ℕ)) (ending : Ending) (sizes : List ℕ)
      (cut : IsCut source.frame full 0 0 source.bytes records ending) (are : AreShards source.most records sizes) where
    abbrev pub P : Progress
    P = last_progress rounds

    abbrev pub left_of : List ShardData
    left_of = (all records ending sizes cut are).0

    rounds_are : AreRoundsOf job source no_progress (cut_into 0 1 records sizes) rounds left_of
    rounds_are = (all records ending sizes cut are).1

    at : IsAt job source records sizes P left_of
    at = rounds_on job source records sizes no_progress (cut_into 0 1 records sizes) left_of rounds (at_start job source records sizes are) rounds_are

    behind : IsCutBehind source.frame full source.bytes records ending P.records P.bytes
    behind =
        subst (IsCutBehind source.frame full source.bytes records ending P.records) (sym at.place)
        (the_rest_is_cut_so source.frame full source.bytes records ending P.records cut at.few)

    module _ {intake : Intake} {emits : List EmitDatum} {read : List ℕ} {over : Bool}
        (fresh : IsFresh (done_of P) job source.frame source.most intake emits read over) (on : GoesOn read over (drop P.bytes source.bytes)) where
      begun : BeginsWith fresh left_of
      begun =
          left_begins fresh (drop P.records records) ending (drop P.shards sizes) left_of
          (drop P.bytes source.bytes) on behind.rest at.are at.is

      -- one round more
      pub stand_more : (some : 0 < length intake.round.shards) (es : List EmitDatum) (n : ℕ)
          (is : outcome_from job intake.round.passed (shards_of intake.round) ≡ emitted es n) (round : RoundEntry) → IsNext job intake n es round
          → (left : List ShardData) × AreRoundsOf job source no_progress (cut_into 0 1 records sizes) (rounds ++ round ∷ []) left
      stand_more some es n is round next = (
        begun.back,
        one_more job source no_progress (cut_into 0 1 records sizes) left_of (shards_of intake.round) begun.back rounds round rounds_are begun.is
            (is_round_of fresh some is next source P refl refl on behind.later),
      )

      -- a shard of the round decides
      pub decides : (o : ShardsEnd) → ((front : List EmitDatum) (k : ℕ) (rest : ℕ → ShardsEnd) → after_front front k (then_outcome o rest) ≡ o)
          → outcome_from job intake.round.passed (shards_of intake.round) ≡ o → outcome_of job (cut_into 0 1 records sizes) ≡ o
      decides o stays is =
          let g = gives job source no_progress (cut_into 0 1 records sizes) left_of rounds rounds_are in
          let p : intake.round.passed ≡ P.passed = so_many_more fresh in
          g.goes_on ∙ ap (λ l. after_front (all_parts g.parts) g.passed (outcome_from job P.passed l)) begun.is
          ∙ ap (after_front (all_parts g.parts) g.passed) (outcome-append job P.passed (shards_of intake.round) begun.back)
          ∙ ap (λ e. after_front (all_parts g.parts) g.passed (then_outcome e (λ m. outcome_from job (P.passed + m) begun.back)))
          (ap (λ m. outcome_from job m (shards_of intake.round)) (sym p) ∙ is)
          ∙ stays (all_parts g.parts) g.passed (λ m. outcome_from job (P.passed + m) begun.back)

      -- no shard is left
      pub over_then : (known : Ending) → intake.ending ≡ Some known → length intake.round.records.items ≡ 0
          → IsOver fresh known ending left_of
      over_then known ended none =
          none_left fresh known ended none (drop P.records records) ending
          (drop P.shards sizes) left_of (drop P.bytes source.bytes) on behind.rest at.are at.is

    -- what all rounds give, where no shard is left
    pub all_given : left_of ≡ [] → (parts : List (List EmitDatum)) × AreSavedOf (all_tables job.compiled) rounds parts
        × (passed : ℕ) × (outcome_of job (cut_into 0 1 records sizes) ≡ emitted (all_parts parts) passed)
    all_given none =
        let g = gives job source no_progress (cut_into 0 1 records sizes) left_of rounds rounds_are in (
          g.parts,
          g.saved,
          g.passed + 0,
          g.goes_on ∙ ap (λ l. after_front (all_parts g.parts) g.passed (outcome_from job P.passed l)) none
              ∙ ap (λ l. emitted l (g.passed + 0)) (append-nil (all_parts g.parts)),
        )

  -- ---- answers

  module _ (journal : Tail) (rounds : List RoundEntry) (all : AllStand job source rounds) {intake : Intake} {emits : List EmitDatum} {read : List ℕ}
      {over : Bool} (fresh : IsFresh (done_of (last_progress rounds)) job source.frame source.most intake emits read over)
      (on : GoesOn read over (drop (last_progress rounds).bytes source.bytes)) where
    -- a shard of the round decides, or there was no memory
    pub halts_source : (halt : Halt) → StopsHalt (outcome_from job intake.round.passed (shards_of intake.round)) halt → RunsSource job journal source (Err halt)
    halts_source (halts.Stopped (stops.Fault n f)) is records ending sizes cut are =
        decides rounds all records ending sizes cut are fresh on (faulted n (seen_fault f)) (λ front k rest. refl) is
    halts_source (halts.Stopped (stops.Lost n)) is records ending sizes cut are =
        decides rounds all records ending sizes cut are fresh on (lost n) (λ front k rest. refl) is
    halts_source (halts.Stopped (stops.Damaged n)) is records ending sizes cut are = absurd is
    halts_source (halts.Stopped (stops.Limit n)) is records ending sizes cut are = absurd is
    halts_source (halts.Stopped stops.ReadFailed) is records ending sizes cut are = tt
    halts_source (halts.Stopped stops.NoMemory) is records ending sizes cut are = tt
    halts_source (halts.Short gate) is records ending sizes cut are = absurd is
    halts_source halts.DiskFailed is records ending sizes cut are = tt

    -- all shards were run
    pub ends_source : (known : Ending) → intake.ending ≡ Some known → length intake.round.records.items ≡ 0 → (answer : Result SavedState Halt)
        → EndsSo (all_tables job.compiled) rounds known answer → RunsSource job journal source answer
    ends_source known ended none answer so records ending sizes cut are =
        let o = over_then rounds all records ending sizes cut are fresh on known ended none in
        let g = all_given rounds all records ending sizes cut are o.none in
        by answer so o.ending g.0 g.1 g.2 g.3
      where
        bounds : all_bounds rounds ≡ length records * job.budget
        bounds =
            let o = over_then rounds all records ending sizes cut are fresh on known ended none in
            all_bounded job source records sizes (left_of rounds all records ending sizes cut are) rounds are
            (rounds_are rounds all records ending sizes cut are) o.none

        by : (answer : Result SavedState Halt) → EndsSo (all_tables job.compiled) rounds known answer → ending ≡ known → (parts : List (List EmitDatum))
            → AreSavedOf (all_tables job.compiled) rounds parts → (passed : ℕ) → outcome_of job (cut_into 0 1 records sizes) ≡ emitted (all_parts parts) passed
            → EndsJob job journal (length source.bytes) (length records) ending (outcome_of job (cut_into 0 1 records sizes)) answer
        by (Ok tables) so same parts saved passed gives = (
          all_parts parts,
          passed,
          same ∙ so.0,
          gives,
          so.1 parts saved ∙ ap (λ n. state_of_emits n (all_tables job.compiled) (all_parts parts)) bounds,
        )
        by (Err (halts.Stopped (stops.Fault n f))) so same parts saved passed gives = absurd so
        by (Err (halts.Stopped (stops.Lost n))) so same parts saved passed gives = absurd so
        by (Err (halts.Stopped (stops.Damaged n))) so same parts saved passed gives = (same ∙ so, (all_parts parts, passed, gives))
        by (Err (halts.Stopped (stops.Limit n))) so same parts saved passed gives = (same ∙ so, (all_parts parts, passed, gives))
        by (Err (halts.Stopped stops.ReadFailed)) so same parts saved passed gives = absurd so
        by (Err (halts.Stopped stops.NoMemory)) so same parts saved passed gives = tt
        by (Err (halts.Short gate)) so same parts saved passed gives = absurd so
        by (Err halts.DiskFailed) so same parts saved passed gives = absurd so

    -- and the journal's rounds hold them all
    pub holds_all : (known : Ending) → intake.ending ≡ Some known → length intake.round.records.items ≡ 0 → (name : JobBytes) (held now : List ℕ)
        (before : List RoundEntry) → Stands name job source held before → (bytes : Option (List ℕ)) (may_leave : Images) → Rests bytes may_leave now
        → Spells name (all_tables job.compiled) now rounds → HoldsAll bytes may_leave name job source rounds
    holds_all known ended none name held now before stands bytes may_leave rests spells =
        let s = stands.1 in
        let o = over_then rounds all s.records s.ending s.sizes s.cut s.shards fresh on known ended none in
        record {
          held = now;
          rests = rests;
          stands = record {
            spells = spells;
            records = s.records;
            ending = s.ending;
            cut = s.cut;
            sizes = s.sizes;
            shards = s.shards;
            are = subst (AreRoundsOf job source no_progress (cut_into 0 1 s.records s.sizes) rounds) o.none (all s.records s.ending s.sizes s.cut s.shards).1;
          };
        }

-- ---- from round to round

module _ {job : Job} {frame : Frame} {most : ℕ} {rounds : List RoundEntry} {intake : Intake} {start left : Option (List ℕ)} where
  pub fresh_of : (b : IsAfter job frame most rounds intake start left)
      → IsFresh (done_of (last_progress rounds)) job frame most intake b.emits b.reached.read b.reached.over
  fresh_of b = record { running = b.reached.running; first = b.first; number = b.number }

  pub goes_on_behind : (b : IsAfter job frame most rounds intake start left) → (rest : List ℕ) → start ≡ Some rest
      → GoesOn b.reached.read b.reached.over rest
  goes_on_behind b rest is = goes_on_told start left b.reached.read rest b.reached.over b.reached.consumed b.reached.at_end is

-- a round was run and appended
module _ (job : Job) (rounds all : List RoundEntry) (old : Intake) (es : List EmitDatum) (n : ℕ) (round : RoundEntry)
    (is : outcome_from job old.round.passed (shards_of old.round) ≡ emitted es n) (next : IsNext job old n es round) (all_are : all ≡ rounds ++ round ∷ []) where
  last_is : last_progress all ≡ progress_of round
  last_is = ap last_progress all_are ∙ progress-append no_progress rounds (round ∷ [])

  pub goes_after : (some : 0 < length old.round.shards) (frame : Frame) (most : ℕ) (start left : Option (List ℕ)) → IsAfter job frame most rounds old start left
      → IsAfter job frame most all (moved_on n old) (rest_from (round.next_byte - (last_progress rounds).bytes) start) left
  goes_after some frame most start left b =
      let f = fresh_of b in
      let P = last_progress rounds in
      let anew = starts_anew f some is in
      let done : done_of (last_progress all) ≡ done_with n old =
      ap done_of last_is ∙ done_is f some is next in
      let k = round.next_byte - P.bytes in
      let same = place_on f some is next in
      let within = within_read f some is in
      record {
        emits = [];
        reached = record {
          read = drop k b.reached.read;
          over = b.reached.over;
          running = subst (λ d. IsRunning d job frame most (moved_on n old) [] (drop k b.reached.read) b.reached.over) (sym done)
              (subst (λ m. IsRunning (done_with n old) job frame most (moved_on n old) [] (drop m b.reached.read) b.reached.over) (sym same) anew);
          consumed = consumes_on start left b.reached.read k (omega (arith, within, same)) b.reached.consumed;
          at_end = b.reached.at_end;
        };
        first = (let records = ap (λ (d : Done). d.records) done in omega (arith, records, b.first));
        number = (let shards = ap (λ (d : Done). d.shards) done in omega (arith, shards));
      }
