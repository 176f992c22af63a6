-- What calls of a job leave of its journal.
use Rattle.std.proofs.Common.{◌≡◌, ◌≢◌, ◌⊎◌, ℕ, ◌<◌, ◌≤◌, ◌^◌, Bool, true, false, true≢false, List, [], ◌∷◌, ◌++◌, Option, Some, IfSome}
use Rattle.std.proofs.Common.{refl, sym, ◌∙◌, subst, inl, inr, append-nil}
use Rattle.std.specs.Prelude.{Ok}
use Rattle.sz_types.specs.Tables.{Declaration}
use Rattle.sz_mean.specs.Marked.{all_tables}
use Rattle.sz_attempt.specs.declared.job.Job.{Job}
use Rattle.sz_attempt.specs.Shards.{ShardData}
use Rattle.sz_disk.specs.Calls.{AreAmong}
use Rattle.sz_disk.specs.Crashes.{Images, are_told}
use Rattle.sz_disk.specs.declared.disk.Disk as disks
use Rattle.sz_disk.specs.Crashing.{Rests, LeavesOnly}
use Rattle.sz_disk.specs.Entries.{IsEmpty}
use Rattle.sz_disk.proofs.GateForCallers.{the_image, leaves_if, leaves_none, leaves_both}
use Rattle.sz_journal.specs.declared.job.JobBytes.{JobBytes}
use Rattle.sz_journal.specs.declared.progress.Progress.{Progress}
use Rattle.sz_journal.specs.declared.round.RoundEntry.{RoundEntry}
use Rattle.sz_journal.specs.Rounds.{progress_of, last_progress}
use Rattle.sz_journal.specs.Journals.{Spells, Empty, Spelled}
use Rattle.sz_journal.specs.Laws.{IsOneStanding}
use Rattle.sz_journal.specs.declared.tail.Tail.{Tail}
use Rattle.sz_journal.specs.Journal.{rounds_of, KeepsRounds}
use Rattle.sz_journal.specs.Opening.{FitsAnswer, IsKept}
use Rattle.sz_resume.specs.Standing.{Source, IsRoundOf, AreRoundsOf, StandsFor, IsFound}
use Rattle.sz_resume.specs.Standing as by_rounds
use Rattle.sz_resume.specs.Stops.{IsLeft, AreSmall, LeavesRounds, SpellsMore, HoldsAll}
use Rattle.sz_words.specs.declared.settings.RunSettings.{RunSettings}
use Rattle.szl.specs.declared.failure.Failure.{Failure}
use Rattle.szl.specs.declared.failure.Failure.TheVariants as failure
use Rattle.szl.specs.Failing.{status_of}
use Rattle.szl.specs.declared.status.Status.{Status}
use Rattle.szl.specs.declared.status.Status.TheVariants as status
use Rattle.szl.specs.ResumePromise.{IsLeftOr, IsNameFor, KeepsEntries, KeepsJob, LosesNothing}
use Rattle.szl.specs.Resuming.{kept_job, source_of}
use Rattle.szl.specs.Shards.{shard_sizes}
use Rattle.szl.proofs.AnswerLemmas.{cut_of, same_outcome}
use Rattle.szl.proofs.ShardLemmas.{sizes_are_shards}

-- ---- doubled shards change nothing

module _ (job : Job) (twice : List ℕ) (source : Source) where
  abbrev doubled : Job
  doubled = record job { twice = twice }

  round_doubled : (before : Progress) (shards : List ShardData) (round : RoundEntry) → IsRoundOf job source before shards round
      → IsRoundOf doubled source before shards round
  round_doubled before shards round r = record {
    emits = r.emits;
    passed = r.passed;
    none_decides = same_outcome job twice before.passed shards ∙ r.none_decides;
    next_shard = r.next_shard;
    records = r.records;
    next_byte = r.next_byte;
    passed_so_far = r.passed_so_far;
    saved = r.saved;
  }

  round_single : (before : Progress) (shards : List ShardData) (round : RoundEntry) → IsRoundOf doubled source before shards round
      → IsRoundOf job source before shards round
  round_single before shards round r = record {
    emits = r.emits;
    passed = r.passed;
    none_decides = sym (same_outcome job twice before.passed shards) ∙ r.none_decides;
    next_shard = r.next_shard;
    records = r.records;
    next_byte = r.next_byte;
    passed_so_far = r.passed_so_far;
    saved = r.saved;
  }

  are_doubled : (before : Progress) (shards : List ShardData) (rounds : List RoundEntry) (left : List ShardData)
      → AreRoundsOf job source before shards rounds left → AreRoundsOf doubled source before shards rounds left
  are_doubled before shards [] left are = are
  are_doubled before shards (round ∷ rounds) left are = (
    are.0,
    are.1,
    are.2,
    round_doubled before are.0 round are.3,
    are_doubled (progress_of round) are.1 rounds left are.4,
  )

  are_single : (before : Progress) (shards : List ShardData) (rounds : List RoundEntry) (left : List ShardData)
      → AreRoundsOf doubled source before shards rounds left → AreRoundsOf job source before shards rounds left
  are_single before shards [] left are = are
  are_single before shards (round ∷ rounds) left are = (
    are.0,
    are.1,
    are.2,
    round_single before are.0 round are.3,
    are_single (progress_of round) are.1 rounds left are.4,
  )

  module _ (name : JobBytes) where
    pub stands_doubled : (image : List ℕ) (rounds : List RoundEntry) (left : List ShardData) → StandsFor name job source image rounds left
        → StandsFor name doubled source image rounds left
    stands_doubled image rounds left st = record {
      spells = st.spells;
      records = st.records;
      ending = st.ending;
      cut = st.cut;
      sizes = st.sizes;
      shards = st.shards;
      are = are_doubled _ _ rounds left st.are;
    }

    pub stands_single : (image : List ℕ) (rounds : List RoundEntry) (left : List ShardData) → StandsFor name doubled source image rounds left
        → StandsFor name job source image rounds left
    stands_single image rounds left st = record {
      spells = st.spells;
      records = st.records;
      ending = st.ending;
      cut = st.cut;
      sizes = st.sizes;
      shards = st.shards;
      are = are_single _ _ rounds left st.are;
    }

    pub found_doubled : (image : List ℕ) (rounds : List RoundEntry) → IsFound name job source image rounds → IsFound name doubled source image rounds
    found_doubled image rounds (inl none) = inl none
    found_doubled image rounds (inr st) = inr (st.0, stands_doubled image rounds st.0 st.1)

    -- what may be left of the job's journal, seen as that of the job without doubled shards
    pub left_single : (held image : List ℕ) (before added : List RoundEntry) → IsLeft name doubled source held before added image
        → IsLeft name job source held before added image
    left_single held image before added (inl empty) = inl empty
    left_single held image before added (inr l) = inr (l.0, l.1, (l.2.0, stands_single image (before ++ l.0) l.2.0 l.2.1))

-- ---- a journal that nobody wrote to

module _ (name : JobBytes) (job : Job) (source : Source) where
  -- what was found is left
  pub left_now : (held : List ℕ) (before : List RoundEntry) → IsFound name job source held before → (added : List RoundEntry) (image : List ℕ)
      → image ≡ held → IsLeft name job source held before added image
  left_now held before (inl none) added image is = inl (none.0, subst IsEmpty (sym is) none.0)
  left_now held before (inr st) added image is =
      inr (
        [],
        record { more = added; is = refl },
        subst (λ (b : List ℕ). by_rounds.Stands name job source b (before ++ [])) (sym is)
            (subst (λ rs. by_rounds.Stands name job source held rs) (sym (append-nil before)) st),
      )

  module _ {K : Type 0} (the_disk : disks.Ghosts K) (held : List ℕ) (before : List RoundEntry) (found : IsFound name job source held before)
      (st : Status) (unfinished : st ≢ status.Done) where
    pub keeps_none : (disk : K) → AreAmong (the_disk.left_since disk (the_disk.time disk)) (the_disk.may_leave disk)
        → KeepsJob the_disk name job source held before st disk disk
    keeps_none disk now = record {
      added = [];
      small = tt;
      stopped = λ told.
          leaves_none the_disk.may_leave the_disk.time the_disk.left_since the_disk.faults disk
          (IsLeftOr (the_disk.may_leave disk) name job source held before []) now (λ image left. inl left);
      ended = λ is. absurd (unfinished is);
    }

  module _ {K : Type 0} (the_disk : disks.Ghosts K) (held : List ℕ) (before : List RoundEntry) (st : Status) (disk new : K) where
    abbrev Left : (List RoundEntry → Type 0) → Type 0
    Left AreAll = are_told (the_disk.may_leave disk) ≡ true → (added : List RoundEntry)
        × LeavesRounds the_disk.time the_disk.left_since disk new name job source held before added × AreAll added

    or_left : (added : List RoundEntry) → LeavesRounds the_disk.time the_disk.left_since disk new name job source held before added
        → LeavesOnly the_disk.time the_disk.left_since disk new (IsLeftOr (the_disk.may_leave disk) name job source held before added)
    or_left added l =
        leaves_if the_disk.time the_disk.left_since disk new (IsLeft name job source held before added)
        (IsLeftOr (the_disk.may_leave disk) name job source held before added) (λ image left. inr left) l.leaves

    -- a job that didn't come to its end
    pub keeps_stopped : st ≢ status.Done → Left (λ added. Unit {0}) → KeepsJob the_disk name job source held before st disk new
    keeps_stopped unfinished stopped = by (are_told (the_disk.may_leave disk)) refl
      where
        by : (b : Bool) → are_told (the_disk.may_leave disk) ≡ b → KeepsJob the_disk name job source held before st disk new
        by true t =
            record { added = (stopped t).0; small = (stopped t).1.small; stopped = λ told. or_left (stopped t).0 (stopped t).1; ended = λ is. absurd (unfinished is) }
        by false t = record { added = []; small = tt; stopped = λ told. absurd (true≢false (sym told ∙ t)); ended = λ is. absurd (unfinished is) }

    -- one that has these rounds at its end
    pub keeps_ended : (now : List RoundEntry) → Left (λ added. now ≡ before ++ added)
        → (added : List RoundEntry) × (now ≡ before ++ added) × AreSmall (last_progress before) added
        → HoldsAll (the_disk.bytes new) (the_disk.may_leave new) name job source now → KeepsJob the_disk name job source held before st disk new
    keeps_ended now stopped grows ended = by (are_told (the_disk.may_leave disk)) refl
      where
        all : (added : List RoundEntry) → now ≡ before ++ added
            → HoldsAll (the_disk.bytes new) (the_disk.may_leave new) name job source (before ++ added)
        all added is = subst (λ rs. HoldsAll (the_disk.bytes new) (the_disk.may_leave new) name job source rs) is ended

        by : (b : Bool) → are_told (the_disk.may_leave disk) ≡ b → KeepsJob the_disk name job source held before st disk new
        by true t =
            record {
              added = (stopped t).0;
              small = (stopped t).1.small;
              stopped = λ told. or_left (stopped t).0 (stopped t).1;
              ended = λ is. all (stopped t).0 (stopped t).2;
            }
        by false t =
            record { added = grows.0; small = grows.2; stopped = λ told. absurd (true≢false (sym told ∙ t)); ended = λ is. all grows.0 grows.1 }

-- ---- a journal that was opened

module _ (law : IsOneStanding) (s : RunSettings) (job : Job) (name : JobBytes) (few : name.skip < 2 ^ 32) (low : 1 ≤ s.shard) (input held : List ℕ)
  where
    abbrev decls : List Declaration
    decls = all_tables job.compiled

    -- an empty journal spells no rounds
    not_both : (rounds : List RoundEntry) → IsEmpty held → Spells name decls held rounds → ⊥
    not_both rounds empty spells = let e = law name decls held Empty (Spelled rounds) few empty spells in absurd (cc)

    -- a journal that holds the job alone stands for it
    stands_begun : (image : List ℕ) → Spells name decls image [] → by_rounds.Stands name job (source_of s input) image []
    stands_begun image spells =
        let c = cut_of s.frame input in (
          _,
          record {
            spells = spells;
            records = c.cut.records;
            ending = c.cut.ending;
            cut = c.is_cut;
            sizes = shard_sizes s.shard c.cut.records;
            shards = sizes_are_shards s.shard c.cut.records low;
            are = refl;
          },
        )

    -- while it is opened
    pub kept_left : (before : List RoundEntry) → IsFound name job (source_of s input) held before → (images : Images) (added : List RoundEntry) (image : List ℕ)
        → IsKept name decls images held image → IsLeftOr images name job (source_of s input) held before added image
    kept_left before found images added image (inl left) = inl left
    kept_left before found images added image (inr (empty, inl none)) = inr (inl (empty, none))
    kept_left before (inl none) images added image (inr (empty, inr spells)) =
        inr (inr (
          [],
          record { more = added; is = refl },
          subst (λ rs. by_rounds.Stands name job (source_of s input) image (rs ++ [])) (sym none.1) (stands_begun image spells),
        ))
    kept_left before (inr st) images added image (inr (empty, inr spells)) = absurd (not_both before empty st.1.spells)

    module _ (journal : Tail) (bytes : Option (List ℕ)) (may_leave : Images) (keeps : KeepsRounds bytes may_leave name decls (rounds_of journal))
        (fits : FitsAnswer name decls held (Ok journal)) (before : List RoundEntry) (found : IsFound name job (source_of s input) held before) where
      -- it has the rounds that were found
      pub same_rounds : rounds_of journal ≡ before
      same_rounds = by fits found
        where
          by : FitsAnswer name decls held (Ok journal) → IsFound name job (source_of s input) held before → rounds_of journal ≡ before
          by (inl spells) (inl none) = absurd (not_both (rounds_of journal) none.0 spells)
          by (inl spells) (inr st) =
              let e = law name decls held (Spelled (rounds_of journal)) (Spelled before) few spells st.1.spells in cc
          by (inr empty) (inl none) = empty.1 ∙ sym none.1
          by (inr empty) (inr st) = absurd (not_both before empty.0 st.1.spells)

      -- and is found now
      pub found_now : IsFound name job (source_of s input) keeps.held (rounds_of journal)
      found_now = by (rounds_of journal) same_rounds keeps.spells found
        where
          by : (rounds : List RoundEntry) → rounds ≡ before → Spells name decls keeps.held rounds → IsFound name job (source_of s input) held before
              → IsFound name job (source_of s input) keeps.held rounds
          by rounds is spells (inl none) =
              let e = is ∙ none.1 in
              inr (subst (λ rs. by_rounds.Stands name job (source_of s input) keeps.held rs) (sym e)
              (stands_begun keeps.held (subst (Spells name decls keeps.held) e spells)))
          by rounds is spells (inr st) =
              inr (subst (λ rs. by_rounds.Stands name job (source_of s input) keeps.held rs) (sym is) (
                st.0,
                record {
                  spells = subst (Spells name decls keeps.held) is spells;
                  records = st.1.records;
                  ending = st.1.ending;
                  cut = st.1.cut;
                  sizes = st.1.sizes;
                  shards = st.1.shards;
                  are = st.1.are;
                },
              ))

      -- what may be left later may be left of what was found
      pub left_since_opened : (added : List RoundEntry) (image : List ℕ)
          → IsLeft name job (source_of s input) keeps.held (rounds_of journal) added image → IsLeft name job (source_of s input) held before added image
      left_since_opened added image (inl empty) = absurd (never empty.0)
        where
          never : IsEmpty keeps.held → ⊥
          never none = let e = law name decls keeps.held Empty (Spelled (rounds_of journal)) few none keeps.spells in absurd (cc)
      left_since_opened added image (inr l) =
          inr (l.0, l.1, subst (λ rs. by_rounds.Stands name job (source_of s input) image (rs ++ l.0)) same_rounds l.2)

-- ---- whatever the files hold

-- the rounds are spelled still, where the disk isn't called
pub rounds_untouched : {K : Type 0} (the_disk : disks.Ghosts K) (name : JobBytes) (decls : List Declaration) (rounds : List RoundEntry) (disk : K)
    (held : List ℕ) → AreAmong (the_disk.left_since disk (the_disk.time disk)) (the_disk.may_leave disk)
    → Rests (the_disk.bytes disk) (the_disk.may_leave disk) held → are_told (the_disk.may_leave disk) ≡ true
    → IfSome (the_disk.bytes disk) (λ bytes. Spells name decls bytes rounds)
    → LeavesOnly the_disk.time the_disk.left_since disk disk (SpellsMore name decls rounds)
rounds_untouched the_disk name decls rounds disk held now rests told spelled =
    leaves_none the_disk.may_leave the_disk.time the_disk.left_since the_disk.faults disk (SpellsMore name decls rounds) now
    (λ image left. (
      [],
      subst (λ (b : List ℕ). Spells name decls b (rounds ++ [])) (sym (the_image (the_disk.may_leave disk) held image told rests.only left))
          (subst (Spells name decls held) (sym (append-nil rounds))
          (subst (λ o. IfSome o (λ bytes. Spells name decls bytes rounds)) rests.read spelled)),
    ))

module _ {K : Type 0} (the_disk : disks.Ghosts K) where
  -- the disk isn't called
  pub entries_untouched : (IsName : JobBytes → Type 0) (disk : K) → AreAmong (the_disk.left_since disk (the_disk.time disk)) (the_disk.may_leave disk)
      → KeepsEntries the_disk IsName disk disk
  entries_untouched IsName disk now held read told =
      leaves_none the_disk.may_leave the_disk.time the_disk.left_since the_disk.faults disk (LosesNothing IsName (the_disk.may_leave disk) held) now
      (λ image left. inl left)

  -- of one name, and so of each that it may be
  pub entries_named : (s : RunSettings) (name : JobBytes) (program proto : List ℕ) → name ≡ kept_job s program proto → (disk new : K)
      → KeepsEntries the_disk (λ other. other ≡ name) disk new → KeepsEntries the_disk (IsNameFor s) disk new
  entries_named s name program proto is disk new keeps held read told =
      leaves_if the_disk.time the_disk.left_since disk new (LosesNothing (λ other. other ≡ name) (the_disk.may_leave disk) held)
      (LosesNothing (IsNameFor s) (the_disk.may_leave disk) held) by (keeps held read told)
    where
      by : (image : List ℕ) → LosesNothing (λ other. other ≡ name) (the_disk.may_leave disk) held image
          → LosesNothing (IsNameFor s) (the_disk.may_leave disk) held image
      by image (inl same) = inl same
      by image (inr (inl none)) = inr (inl none)
      by image (inr (inr on)) =
          inr (inr (record {
            name = on.name;
            is_name = record { program = program; proto = proto; is = on.is_name ∙ is };
            decls = on.decls;
            before = on.before;
            more = on.more;
            was = on.was;
            is = on.is;
          }))

  module _ (name : JobBytes) (decls : List Declaration) (disk mid : K)
      (opened : (held : List ℕ) → the_disk.bytes disk ≡ Some held → are_told (the_disk.may_leave disk) ≡ true
      → LeavesOnly the_disk.time the_disk.left_since disk mid (IsKept name decls (the_disk.may_leave disk) held)) where
    abbrev Loses : List ℕ → List ℕ → Type 0
    Loses held image = LosesNothing (λ other. other ≡ name) (the_disk.may_leave disk) held image

    kept_loses : (held image : List ℕ) → IsKept name decls (the_disk.may_leave disk) held image → Loses held image
    kept_loses held image (inl same) = inl same
    kept_loses held image (inr (empty, inl none)) = inr (inl (empty, none))
    kept_loses held image (inr (empty, inr spells)) =
        inr (inr (record { name = name; is_name = refl; decls = decls; before = []; more = []; was = inl (empty, refl); is = spells }))

    -- the journal was opened, or it wasn't
    pub entries_opened : KeepsEntries the_disk (λ other. other ≡ name) disk mid
    entries_opened held read told =
        leaves_if the_disk.time the_disk.left_since disk mid (IsKept name decls (the_disk.may_leave disk) held) (Loses held) (kept_loses held)
        (opened held read told)

    -- and then rounds were appended
    pub entries_after : (journal : Tail) (new : K)
        → ((held : List ℕ) → the_disk.bytes disk ≡ Some held → FitsAnswer name decls held (Ok journal))
        → ((held : List ℕ) → the_disk.bytes disk ≡ Some held → KeepsRounds (the_disk.bytes mid) (the_disk.may_leave mid) name decls (rounds_of journal))
        → are_told (the_disk.may_leave mid) ≡ are_told (the_disk.may_leave disk)
        → ((held : List ℕ) → Rests (the_disk.bytes mid) (the_disk.may_leave mid) held → are_told (the_disk.may_leave mid) ≡ true
        → LeavesOnly the_disk.time the_disk.left_since mid new (SpellsMore name decls (rounds_of journal)))
        → KeepsEntries the_disk (λ other. other ≡ name) disk new
    entries_after journal new fits keeps same later held read told =
        let k = keeps held read in
        leaves_both the_disk.time the_disk.left_since disk mid new (Loses held) (entries_opened held read told)
        (leaves_if the_disk.time the_disk.left_since mid new (SpellsMore name decls (rounds_of journal)) (Loses held)
        (λ image on. inr (inr (record {
          name = name;
          is_name = refl;
          decls = decls;
          before = rounds_of journal;
          more = on.0;
          was = by (fits held read);
          is = on.1;
        }))) (later k.held k.rests (same ∙ told)))
      where
        by : FitsAnswer name decls held (Ok journal) → (IsEmpty held × (rounds_of journal ≡ [])) ⊎ Spells name decls held (rounds_of journal)
        by (inl spells) = inr spells
        by (inr none) = inl none

-- a failure has a status of its own
pub not_done : (f : Failure) → status_of f ≢ status.Done
not_done failure.Usage = λ e. cc
not_done _ = λ e. cc
