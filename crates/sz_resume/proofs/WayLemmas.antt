-- The loop over the rounds of a job that is resumed.
use Rattle.std.proofs.Common.{◌≡◌, ℕ, zero, suc, ◌+◌, ◌-◌, ◌^◌, ◌<◌, ◌≤◌, Bool, true, false, List, [], ◌∷◌, ◌++◌, length, drop, Option, Some, None, IfSome}
use Rattle.std.proofs.Common.{refl, sym, ap, ◌∙◌, subst, arith}
use Rattle.std.proofs.KnownBytes.{Consumes-nil}
use Rattle.std.proofs.lemmas.Bool.{eqb-true}
use Rattle.std.specs.Prelude.{is_some, ◌==◌, IsSome, Result, Ok, Err, OnOk, if◌then◌else◌}
use Rattle.std.specs.Io.KnownBytes.{Consumes, IsAtEnd}
use Rattle.sz_types.specs.declared.frame.Frame.{Frame}
use Rattle.sz_types.specs.Tables.{Declaration}
use Rattle.sz_mean.specs.Marked.{all_tables}
use Rattle.sz_save_format.specs.Saved.{SavedState}
use Rattle.sz_records.specs.declared.ending.Ending.{Ending}
use Rattle.sz_records.specs.declared.ending.Ending.TheVariants as endings
use Rattle.sz_io.specs.declared.error.OutsideError.{OutsideError}
use Rattle.sz_io.specs.declared.error.OutsideError.TheVariants as outside
use Rattle.sz_disk.specs.Crashes.{Images}
use Rattle.sz_disk.specs.Crashing.{Rests}
use Rattle.sz_attempt.specs.declared.job.Job.{Job}
use Rattle.sz_workers.specs.declared.round.Round.{Round}
use Rattle.sz_journal.specs.declared.job.JobBytes.{JobBytes}
use Rattle.sz_journal.specs.declared.progress.Progress.{Progress}
use Rattle.sz_journal.specs.declared.round.RoundEntry.{RoundEntry}
use Rattle.sz_journal.specs.Rounds.{no_progress, last_progress}
use Rattle.sz_journal.specs.Journals.{Spells}
use Rattle.sz_journal.specs.declared.tail.Tail.{Tail}
use Rattle.sz_journal.specs.Journal.{rounds_of, KeepsRounds}
use Rattle.sz_stream.specs.declared.done.Done.{Done}
use Rattle.sz_stream.specs.declared.intake.Intake.{Intake}
use Rattle.sz_stream.specs.Intakes.{CanGoOn, IsFed, IsEmpty, end_of}
use Rattle.sz_stream.specs.InputRuns.{Reaches, CanRead, Fills, IsReady}
use Rattle.sz_stream.proofs.RunLemmas.{starts, few_left}
use Rattle.sz_resume.specs.declared.halt.Halt.{Halt}
use Rattle.sz_resume.specs.declared.halt.Halt.TheVariants as halts
use Rattle.sz_resume.specs.Halts.{of_file}
use Rattle.sz_resume.specs.Standing.{Source, Stands}
use Rattle.sz_resume.specs.Stops.{LeavesRounds, HoldsAll}
use Rattle.sz_resume.specs.Runs.{IsJournalOf, RunsSource}
use Rattle.sz_resume.specs.Entries.{done_of}
use Rattle.sz_resume.specs.Turns.{AllStand, IsAfter, HasNext, rest_from, AddsRound, StopsHalt, EndsSo}
use Rattle.sz_resume.proofs.NumberLemmas.{progress-append}
use Rattle.sz_resume.proofs.LeaveLemmas.{not_empty, leaves_rounds}
use Rattle.sz_resume.proofs.TurnLemmas.{rest_twice, fresh_of, goes_on_behind, halts_source, ends_source, holds_all}

rest_all : (k : ℕ) (left : Option (List ℕ)) → rest_from (k - k) left ≡ left
rest_all k None = refl
rest_all k (Some bytes) = let none : k - k ≡ 0 = omega arith in ap (λ n. Some (drop n bytes)) none

-- what is left after so many bytes, where more are left from an earlier place on
pub rest_told : (left : Option (List ℕ)) (input : List ℕ) (from to : ℕ) → from ≤ to → left ≡ Some (drop from input)
    → rest_from (to - from) left ≡ Some (drop to input)
rest_told left input from to le told =
    ap (rest_from (to - from)) told ∙ rest_twice (to - from) from (Some input)
    ∙ ap (λ n. Some (drop n input)) (let same : from + (to - from) ≡ to = omega (arith, le) in same)

still_told : (start left : Option (List ℕ)) (read : List ℕ) → Consumes start left read → IfSome start (λ _. IsSome left)
still_told None left read h = tt
still_told (Some s) None read h = absurd h
still_told (Some s) (Some l) read h = refl

told_before : (k : ℕ) (first left : Option (List ℕ)) → IfSome (rest_from k first) (λ _. IsSome left) → IfSome first (λ _. IsSome left)
told_before k None left h = tt
told_before k (Some s) left h = h

module _ {job : Job} {frame : Frame} {most : ℕ} where
  -- before anything is read
  pub way_starts : (rounds : List RoundEntry) (done : Done) (intake : Intake) (left : Option (List ℕ)) → 1 ≤ most → done ≡ done_of (last_progress rounds)
      → CanGoOn done → done.passed ≤ job.skip → IsEmpty frame most done intake
      → IsAfter job frame most rounds intake (rest_from ((last_progress rounds).bytes - (last_progress rounds).bytes) left) left
  way_starts rounds done intake left low is can few empty =
      subst (λ start. IsAfter job frame most rounds intake start left) (sym (rest_all (last_progress rounds).bytes left)) (record {
        emits = [];
        reached = subst (λ d. Reaches d job frame most intake [] left left) is (record {
          read = [];
          over = false;
          running = starts done job frame most intake low can few empty;
          consumed = Consumes-nil left;
          at_end = λ over. absurd cc;
        });
        first = empty.first ∙ ap (λ (d : Done). d.records + 1) is;
        number = ap (λ (r : Round). r.first_shard) empty.round ∙ ap (λ (d : Done). d.shards) is;
      })

  module _ {rounds : List RoundEntry} {old : Intake} {start left : Option (List ℕ)} (b : IsAfter job frame most rounds old start left) where
    pub can_read : CanRead old
    can_read = record {
      done = done_of (last_progress rounds);
      job = job;
      frame = frame;
      most = most;
      emits = b.emits;
      read = b.reached.read;
      over = b.reached.over;
      running = b.reached.running;
    }

    pub way_filled : (new : Intake) (after : Option (List ℕ)) → Fills old new left after → new.first ≡ old.first
        → new.round.first_shard ≡ old.round.first_shard → IsAfter job frame most rounds new start after
    way_filled new after fills first number = record {
      emits = b.emits;
      reached = fills (done_of (last_progress rounds)) job frame most b.emits start b.reached;
      first = first ∙ b.first;
      number = number ∙ b.number;
    }

    -- there are no more records than there may be
    pub few_first : old.first ≤ 2 ^ 31 + 1
    few_first =
        let few = few_left (done_of (last_progress rounds)) job frame most old b.emits b.reached.read b.reached.over b.reached.running in
        omega (arith, few)

    pub has_next : IsReady old → end_of old ≡ None → HasNext job rounds old
    has_next ready is = record {
      frame = frame;
      most = most;
      emits = b.emits;
      read = b.reached.read;
      over = b.reached.over;
      fresh = fresh_of b;
      some = by (length old.round.shards) refl is;
    }
      where
        by : (n : ℕ) → length old.round.shards ≡ n → (if n == 0 then old.ending else None) ≡ None → 0 < length old.round.shards
        by zero none known = absurd (let e = (ready none).0 in let clash = sym (ap is_some known) ∙ e in cc)
        by (suc n) some known = omega (arith, some)

    module _ (ready : IsReady old) {e : Ending} (is : end_of old ≡ Some e) where
      none_left : (shards : ℕ) → (if shards == 0 then old.ending else None) ≡ Some e → shards ≡ 0
      none_left shards known = by (shards == 0) refl known
        where
          by : (t : Bool) → (shards == 0) ≡ t → (if t then old.ending else None) ≡ Some e → shards ≡ 0
          by true none known = eqb-true shards 0 none
          by false more known = absurd cc

      ending_is : old.ending ≡ Some e
      ending_is =
          let none = none_left (length old.round.shards) is in
          ap (λ n. if n == 0 then old.ending else None) (sym none) ∙ is

      no_items : length old.round.records.items ≡ 0
      no_items = (ready (none_left (length old.round.shards) is)).1

      -- a whole input was read to its end
      pub way_over : (answer : Result SavedState Halt) → EndsSo (all_tables job.compiled) rounds e answer → OnOk answer (IsAtEnd left)
      way_over (Err halt) so = tt
      way_over (Ok all) so = b.reached.at_end (over old.ending b.reached.running.fed (ending_is ∙ ap (λ w. Some w) so.0))
        where
          over : (known : Option Ending) → IsFed (done_of (last_progress rounds)) frame old.framer known b.reached.read b.reached.over b.reached.running.given
              → known ≡ Some endings.Whole → b.reached.over ≡ true
          over None fed known = absurd cc
          over (Some w) fed known = fed.1 (let same : w ≡ endings.Whole = cc in same)

      module _ (input : List ℕ) (told : start ≡ Some (drop (last_progress rounds).bytes input)) where
        abbrev pub source : Source
        source = record { frame = frame; most = most; bytes = input }

        pub way_ends : (journal : Tail) → AllStand job source rounds → (answer : Result SavedState Halt)
            → EndsSo (all_tables job.compiled) rounds e answer → RunsSource job journal source answer
        way_ends journal all answer so =
            ends_source job source journal rounds all (fresh_of b) (goes_on_behind b (drop (last_progress rounds).bytes input) told) e ending_is no_items
            answer so

        pub way_holds : (journal : Tail) → AllStand job source rounds → (name : JobBytes) (held : List ℕ) (before : List RoundEntry)
            → Stands name job source held before → (bytes : Option (List ℕ)) (may_leave : Images)
            → KeepsRounds bytes may_leave name (all_tables job.compiled) rounds → HoldsAll bytes may_leave name job source rounds
        way_holds journal all name held before stands bytes may_leave keeps =
            holds_all job source journal rounds all (fresh_of b) (goes_on_behind b (drop (last_progress rounds).bytes input) told) e ending_is no_items name
            held keeps.held
            before stands bytes may_leave keeps.rests keeps.spells

    pub way_halts : (input : List ℕ) → start ≡ Some (drop (last_progress rounds).bytes input) → (journal : Tail)
        → AllStand job (record { frame = frame; most = most; bytes = input }) rounds → (halt : Halt)
        → StopsHalt (Rattle.sz_workers.specs.Outcomes.outcome_from job old.round.passed (Rattle.sz_workers.specs.Rounds.shards_of old.round)) halt
        → RunsSource job journal (record { frame = frame; most = most; bytes = input }) (Err halt)
    way_halts input told journal all halt is =
        halts_source job (record { frame = frame; most = most; bytes = input }) journal rounds all (fresh_of b)
        (goes_on_behind b (drop (last_progress rounds).bytes input) told) halt is

    pub way_told : (first : Option (List ℕ)) (k : ℕ) → start ≡ rest_from k first → IfSome first (λ _. IsSome left)
    way_told first k is =
        told_before k first left (subst (λ s. IfSome s (λ _. IsSome left)) is (still_told start left b.reached.read b.reached.consumed))

    -- a round was run and appended
    module _ (first : Option (List ℕ)) {all : List RoundEntry} {new : Intake} (adds : AddsRound job rounds all old new) where
      last_bytes : (last_progress all).bytes ≡ adds.round.next_byte
      last_bytes = ap (λ rs. (last_progress rs).bytes) adds.is ∙ ap (λ (p : Progress). p.bytes) (progress-append no_progress rounds (adds.round ∷ []))

      pub way_rises : (from : ℕ) → from ≤ (last_progress rounds).bytes → from ≤ (last_progress all).bytes
      way_rises from le = omega (arith, le, last_bytes, adds.rises)

      pub way_on : (from : ℕ) → from ≤ (last_progress rounds).bytes → start ≡ rest_from ((last_progress rounds).bytes - from) first
          → IsAfter job frame most all new (rest_from ((last_progress all).bytes - from) first) left
      way_on from le is =
          let k = adds.round.next_byte - (last_progress rounds).bytes in
          let same : (last_progress rounds).bytes - from + k ≡ (last_progress all).bytes - from = omega (arith, le, last_bytes, adds.rises) in
          let starts : rest_from k start ≡ rest_from ((last_progress all).bytes - from) first =
          ap (rest_from k) is ∙ rest_twice k ((last_progress rounds).bytes - from) first ∙ ap (λ n. rest_from n first) same in
          subst (λ s. IsAfter job frame most all new s left) starts (adds.goes_on frame most start left b)

-- what an answer holds
pub on_any : {T E : Type 0} (r : Result T E) (P : Type 0) → P → OnOk r P
on_any (Ok x) P p = p
on_any (Err e) P p = tt

pub none_not : {T : Type 0} (o : Option T) → ((x : T) → o ≡ Some x → ⊥) → o ≡ None
none_not None other = refl
none_not (Some x) other = absurd (other x refl)

-- what the journal is at the start
pub spelled_at : {name : JobBytes} {job : Job} {journal : Tail} {bytes : Option (List ℕ)} {held : List ℕ} → bytes ≡ Some held
    → IsJournalOf name job journal bytes → Spells name (all_tables job.compiled) held (rounds_of journal)
spelled_at {name = name} {job = job} {journal = journal} told j =
    subst (λ b. IfSome b (λ held. Spells name (all_tables job.compiled) held (rounds_of journal))) told j.spells

pub keeps_at : {name : JobBytes} {job : Job} {journal : Tail} {bytes : Option (List ℕ)} {may_leave : Images} {held : List ℕ}
    → Rests bytes may_leave held → IsJournalOf name job journal bytes → KeepsRounds bytes may_leave name (all_tables job.compiled) (rounds_of journal)
keeps_at {held = held} rests j = record { held = held; rests = rests; spells = spelled_at rests.read j }

-- a piece couldn't be read
pub way_unread : (job : Job) (journal : Tail) (source : Source) (error : OutsideError) → RunsSource job journal source (Err (of_file error))
way_unread job journal whole outside.Failed records ending sizes cut are = tt
way_unread job journal whole outside.NoMemory records ending sizes cut are = tt

pub not_short : (error : OutsideError) (gate : ℕ) → of_file error ≡ halts.Short gate → ⊥
not_short outside.Failed gate is = cc
not_short outside.NoMemory gate is = cc

pub not_disk : (error : OutsideError) → of_file error ≡ halts.DiskFailed → ⊥
not_disk outside.Failed is = cc
not_disk outside.NoMemory is = cc

-- what an ending gives, by the halt
pub so_not : (decls : List Declaration) (rounds : List RoundEntry) (e : Ending) (answer : Result SavedState Halt) (halt : Halt)
    → EndsSo decls rounds e answer → answer ≡ Err halt → EndsSo decls rounds e (Err halt)
so_not decls rounds e answer halt so is = subst (EndsSo decls rounds e) is so

-- what a call may leave, and then a round
pub way_leaves : {name : JobBytes} {job : Job} {source : Source} {D : Type 0} {time : D → ℕ} {left_since : D → ℕ → Images} {old mid new : D}
    {held now : List ℕ} {before rounds added more : List RoundEntry} → rounds ≡ before ++ added → Spells name (all_tables job.compiled) now rounds
    → LeavesRounds time left_since old mid name job source held before added → LeavesRounds time left_since mid new name job source now rounds more
    → LeavesRounds time left_since old new name job source held before (added ++ more)
way_leaves {name = name} {job = job} {source = source} {time = time} {left_since = left_since} {old = old} {mid = mid} {new = new} {held = held} {now = now}
    {before = before} {rounds = rounds} {added = added} {more = more} is spells first second =
    leaves_rounds name job source time left_since old mid new held now before added more (not_empty name (all_tables job.compiled) now rounds spells) first
    (subst (λ rs. LeavesRounds time left_since mid new name job source now rs more) is second)
