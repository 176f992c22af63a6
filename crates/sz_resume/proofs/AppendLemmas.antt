-- A round that was run and is appended to the journal.
use Rattle.std.proofs.Common.{◌≡◌, inl, inr, ℕ, ◌+◌, ◌^◌, ◌≤◌, true, List, [], ◌∷◌, ◌++◌, length, drop, Option, Some, None, IfSome}
use Rattle.std.proofs.Common.{refl, sym, subst, arith, append-nil}
use Rattle.sz_types.specs.Tables.{Declaration}
use Rattle.sz_mean.specs.Marked.{all_tables}
use Rattle.sz_tabs.specs.Data.{EmitDatum}
use Rattle.sz_attempt.specs.declared.job.Job.{Job}
use Rattle.sz_attempt.specs.Shards.{IsJob}
use Rattle.sz_workers.specs.Outcomes.{emitted, outcome_from}
use Rattle.sz_workers.specs.Rounds.{shards_of, IsRound}
use Rattle.sz_disk.specs.Crashes.{Images, are_told}
use Rattle.sz_disk.specs.Crashing.{Rests, LeavesOnly}
use Rattle.sz_disk.proofs.GateForCallers.{leaves_if}
use Rattle.sz_journal.specs.declared.job.JobBytes.{JobBytes}
use Rattle.sz_journal.specs.declared.round.RoundEntry.{RoundEntry}
use Rattle.sz_journal.specs.Rounds.{last_progress, AreRounds}
use Rattle.sz_journal.specs.Journals.{Spells}
use Rattle.sz_journal.specs.declared.tail.Tail.{Tail}
use Rattle.sz_journal.specs.Keeping.{IsNextKept}
use Rattle.sz_journal.specs.Journal.{rounds_of, IsOf, CanAppend, KeepsRounds, SpellsOneOf}
use Rattle.sz_stream.specs.declared.intake.Intake.{Intake}
use Rattle.sz_stream.specs.Intakes.{moved_on}
use Rattle.sz_stream.proofs.RunLemmas as runs
use Rattle.sz_resume.specs.Standing.{Source, Stands}
use Rattle.sz_resume.specs.Stops.{IsLeft, LeavesRounds, SpellsMore}
use Rattle.sz_resume.specs.Runs.{IsJournalOf}
use Rattle.sz_resume.specs.Entries.{done_of, IsNext}
use Rattle.sz_resume.specs.Turns.{AllStand, IsAfter, HasNext, AddsRound}
use Rattle.sz_resume.proofs.NumberLemmas.{are_more}
use Rattle.sz_resume.proofs.NextLemmas as rounds
use Rattle.sz_resume.proofs.WayLemmas.{spelled_at}
use Rattle.sz_resume.proofs.TurnLemmas.{found_stands, stands_more, stand_more, fresh_of, goes_on_behind, goes_after}

module _ {job : Job} {before : List RoundEntry} {old : Intake} (h : HasNext job before old) where
  pub is_round : IsRound old.round
  is_round = runs.is_round (done_of (last_progress before)) job h.frame h.most old h.emits h.read h.over h.fresh.running

  pub closed_within : old.closed ≤ length old.round.records.items
  closed_within = runs.closed_within (done_of (last_progress before)) job h.frame h.most old h.emits h.read h.over h.fresh.running

  pub few_left : old.first + length old.round.records.items ≤ 2 ^ 31 + 1
  few_left = runs.few_left (done_of (last_progress before)) job h.frame h.most old h.emits h.read h.over h.fresh.running

  pub few_numbers : old.round.first_shard + length old.round.shards ≤ 2 ^ 31 + 1
  few_numbers = runs.few_numbers (done_of (last_progress before)) job h.frame h.most old h.emits h.read h.over h.fresh.running

-- the round gave its emits, and this is its entry
module _ {job : Job} {before : List RoundEntry} {old : Intake} (h : HasNext job before old) {es : List EmitDatum} {n : ℕ}
    (is : outcome_from job old.round.passed (shards_of old.round) ≡ emitted es n) {round : RoundEntry} (next : IsNext job old n es round) where
  are_then : (name : JobBytes) → AreRounds name (all_tables job.compiled) before → name.budget ≡ job.budget → name.skip ≡ job.skip → job.budget ≤ 2 ^ 32
      → AreRounds name (all_tables job.compiled) (before ++ round ∷ [])
  are_then name are budget skip low =
      are_more name (all_tables job.compiled) before round are
      (rounds.may_follow h.fresh h.some is next name
      (last_progress before) refl budget skip) (omega (arith, low, budget))

  pub adds_round : (all : List RoundEntry) → all ≡ before ++ round ∷ [] → AddsRound job before all old (moved_on n old)
  adds_round all all_are = record {
    round = round;
    is = all_are;
    small = (rounds.is_small h.fresh h.some is next, tt);
    further = rounds.further h.fresh h.some is next;
    rises = rounds.rises h.fresh h.some is next;
    goes_on = λ frame most start left b. goes_after job before all old es n round is next all_are h.some frame most start left b;
  }

  -- what stands goes on to stand
  pub all_stand : (source : Source) (start left : Option (List ℕ)) → IsAfter job source.frame source.most before old start left
      → start ≡ Some (drop (last_progress before).bytes source.bytes) → AllStand job source before → AllStand job source (before ++ round ∷ [])
  all_stand source start left b told all records ending sizes cut are =
      stand_more job source before all records ending sizes cut are (fresh_of b)
      (goes_on_behind b (drop (last_progress before).bytes source.bytes) told) h.some es n is round next

  module _ (journal : Tail) (same : rounds_of journal ≡ before) where
    are_of : (name : JobBytes) (bytes : Option (List ℕ)) → IsJournalOf name job journal bytes → IsJob job
        → AreRounds name (all_tables job.compiled) (rounds_of journal ++ round ∷ [])
    are_of name bytes j job_is =
        subst (λ rs. AreRounds name (all_tables job.compiled) (rs ++ round ∷ [])) (sym same)
        (are_then name (subst (AreRounds name (all_tables job.compiled)) same j.are) j.budget j.skip job_is.budget.most)

    pub can_append : (name : JobBytes) (bytes : Option (List ℕ)) → IsJournalOf name job journal bytes → IsJob job → CanAppend journal bytes round
    can_append name bytes j job_is = record {
      job = name;
      decls = all_tables job.compiled;
      is_of = j.is_of;
      spells = j.spells;
      are = are_of name bytes j job_is;
    }

    -- and its tables can be joined to those of the rounds
    pub can_join : {J : Type 0} {keeper : J} (keeps : J → List Declaration → List RoundEntry → Type 0) (name : JobBytes) (bytes : Option (List ℕ))
        → IsJournalOf name job journal bytes → IsJob job → keeps keeper (all_tables job.compiled) (rounds_of journal) → IsNextKept keeps keeper round
    can_join keeps name bytes j job_is kept = record {
      job = name;
      decls = all_tables job.compiled;
      before = rounds_of journal;
      kept = kept;
      are = are_of name bytes j job_is;
    }

    spells_after : (name : JobBytes) (rs all : List RoundEntry) (bytes after : Option (List ℕ)) (may_leave : Images) → (bytes ≡ None → after ≡ None)
        → IfSome bytes (λ held. Spells name (all_tables job.compiled) held rs)
        → ((held : List ℕ) → bytes ≡ Some held → Spells name (all_tables job.compiled) held rs
        → KeepsRounds after may_leave name (all_tables job.compiled) all)
        → IfSome after (λ held. Spells name (all_tables job.compiled) held all)
    spells_after name rs all None after may_leave untold spells keeps =
        subst (λ b. IfSome b (λ held. Spells name (all_tables job.compiled) held all)) (sym (untold refl)) tt
    spells_after name rs all (Some held) after may_leave untold spells keeps =
        let k = keeps held refl spells in
        subst (λ b. IfSome b (λ held. Spells name (all_tables job.compiled) held all)) (sym k.rests.read) k.spells

    -- the journal is still one of the job
    pub journal_is : (new : Tail) (bytes after : Option (List ℕ)) (may_leave : Images) → IsJob job → rounds_of new ≡ rounds_of journal ++ round ∷ []
        → ((name : JobBytes) → IsOf name journal → IsOf name new) → (bytes ≡ None → after ≡ None)
        → ((name : JobBytes) (decls : List Declaration) (held : List ℕ) → bytes ≡ Some held → IsOf name journal → Spells name decls held (rounds_of journal)
        → AreRounds name decls (rounds_of journal ++ round ∷ []) → KeepsRounds after may_leave name decls (rounds_of journal ++ round ∷ []))
        → (name : JobBytes) → IsJournalOf name job journal bytes → IsJournalOf name job new after
    journal_is new bytes after may_leave job_is all_are is_of untold ok name j =
        let are = are_of name bytes j job_is in
        record {
          is_of = is_of name j.is_of;
          budget = j.budget;
          skip = j.skip;
          spells =
              subst (λ all. IfSome after (λ held. Spells name (all_tables job.compiled) held all)) (sym all_are)
              (spells_after name (rounds_of journal) (rounds_of journal ++ round ∷ []) bytes after may_leave untold j.spells
              (λ held told spells. ok name (all_tables job.compiled) held told j.is_of spells are));
          are = subst (AreRounds name (all_tables job.compiled)) (sym all_are) are;
        }

    -- and a crash leaves what a read gives
    pub keeps_then : (new : Tail) (bytes after : Option (List ℕ)) (may_leave : Images) → IsJob job → rounds_of new ≡ rounds_of journal ++ round ∷ []
        → ((name : JobBytes) (decls : List Declaration) (held : List ℕ) → bytes ≡ Some held → IsOf name journal → Spells name decls held (rounds_of journal)
        → AreRounds name decls (rounds_of journal ++ round ∷ []) → KeepsRounds after may_leave name decls (rounds_of journal ++ round ∷ []))
        → (name : JobBytes) (held : List ℕ) → bytes ≡ Some held → IsJournalOf name job journal bytes
        → KeepsRounds after may_leave name (all_tables job.compiled) (rounds_of new)
    keeps_then new bytes after may_leave job_is all_are ok name held told j =
        subst (KeepsRounds after may_leave name (all_tables job.compiled)) (sym all_are)
        (ok name (all_tables job.compiled) held told j.is_of (spelled_at told j) (are_of name bytes j job_is))

    -- whatever the append answers, a crash leaves the journal with the round or without it
    module _ {D : Type 0} {time : D → ℕ} {left_since : D → ℕ → Images} {disk after : D} {bytes : Option (List ℕ)} {may_leave : Images} where
      pub entries_round : IsJob job
          → ((name : JobBytes) (decls : List Declaration) (held : List ℕ) → Rests bytes may_leave held → IsOf name journal
          → Spells name decls held (rounds_of journal) → AreRounds name decls (rounds_of journal ++ round ∷ []) → are_told may_leave ≡ true
          → LeavesOnly time left_since disk after (SpellsOneOf name decls (rounds_of journal) round))
          → (name : JobBytes) (held : List ℕ) → Rests bytes may_leave held → are_told may_leave ≡ true → IsJournalOf name job journal bytes
          → LeavesOnly time left_since disk after (SpellsMore name (all_tables job.compiled) (rounds_of journal))
      entries_round job_is leaves name held rests is_told j =
          leaves_if time left_since disk after (SpellsOneOf name (all_tables job.compiled) (rounds_of journal) round)
          (SpellsMore name (all_tables job.compiled) (rounds_of journal)) more_so
          (leaves name (all_tables job.compiled) held rests j.is_of (spelled_at rests.read j) (are_of name bytes j job_is) is_told)
        where
          more_so : (image : List ℕ) → SpellsOneOf name (all_tables job.compiled) (rounds_of journal) round image
              → SpellsMore name (all_tables job.compiled) (rounds_of journal) image
          more_so image (inl spells) = ([], subst (Spells name (all_tables job.compiled) image) (sym (append-nil (rounds_of journal))) spells)
          more_so image (inr spells) = (round ∷ [], spells)

    module _ {D : Type 0} {time : D → ℕ} {left_since : D → ℕ → Images} {disk after : D} {bytes : Option (List ℕ)} {may_leave : Images} {name : JobBytes}
        {source : Source} {held : List ℕ} {start left : Option (List ℕ)} where
      pub leaves_round : IsJob job
          → ((name : JobBytes) (decls : List Declaration) (held : List ℕ) → Rests bytes may_leave held → IsOf name journal
          → Spells name decls held (rounds_of journal) → AreRounds name decls (rounds_of journal ++ round ∷ []) → are_told may_leave ≡ true
          → LeavesOnly time left_since disk after (SpellsOneOf name decls (rounds_of journal) round))
          → IsAfter job source.frame source.most (rounds_of journal) old start left
          → start ≡ Some (drop (last_progress (rounds_of journal)).bytes source.bytes) → Stands name job source held (rounds_of journal)
          → Rests bytes may_leave held → are_told may_leave ≡ true → IsJournalOf name job journal bytes
          → LeavesRounds time left_since disk after name job source held (rounds_of journal) (round ∷ [])
      leaves_round job_is leaves b told stands rests is_told j = record {
        found = inr stands;
        small = (
          subst (λ rs. round.next_shard ≤ (last_progress rs).shards + 4096) (sym same)
              (rounds.is_small h.fresh h.some is next),
          tt,
        );
        leaves = leaves_if time left_since disk after (SpellsOneOf name (all_tables job.compiled) (rounds_of journal) round)
            (IsLeft name job source held (rounds_of journal) (round ∷ [])) left_so
            (leaves name (all_tables job.compiled) held rests j.is_of (spelled_at rests.read j) (are_of name bytes j job_is) is_told);
      }
        where
          all_now : AllStand job source (rounds_of journal)
          all_now = found_stands job source name held (rounds_of journal) (inr stands)

          all_then : AllStand job source (rounds_of journal ++ round ∷ [])
          all_then =
              subst (λ rs. AllStand job source (rs ++ round ∷ [])) (sym same)
              (all_stand source start left (subst (λ rs. IsAfter job source.frame source.most rs old start left) same b)
              (subst (λ rs. start ≡ Some (drop (last_progress rs).bytes source.bytes)) same told) (subst (AllStand job source) same all_now))

          left_so : (image : List ℕ) → SpellsOneOf name (all_tables job.compiled) (rounds_of journal) round image
              → IsLeft name job source held (rounds_of journal) (round ∷ []) image
          left_so image (inl spells) =
              inr (
                [],
                record { more = round ∷ []; is = refl },
                subst (Stands name job source image) (sym (append-nil (rounds_of journal)))
                    (stands_more job source name held image (rounds_of journal) (rounds_of journal) stands all_now spells),
              )
          left_so image (inr spells) =
              inr (
                round ∷ [],
                record { more = []; is = refl },
                stands_more job source name held image (rounds_of journal) (rounds_of journal ++ round ∷ []) stands all_then spells,
              )
