-- A resumed job is run over what its settings ask for.
use Rattle.std.proofs.Common.{◌≡◌, ◌≤◌, ℕ, List, Option, Some, sym, subst}
use Rattle.std.specs.Prelude.{Result}
use Rattle.sz_disk.specs.declared.disk.Disk as disks
use Rattle.sz_save_format.specs.Saved.{SavedState}
use Rattle.sz_journal.specs.declared.job.JobBytes.{JobBytes}
use Rattle.sz_journal.specs.declared.tail.Tail.{Tail}
use Rattle.sz_journal.specs.declared.round.RoundEntry.{RoundEntry}
use Rattle.sz_journal.specs.Journal.{rounds_of}
use Rattle.sz_words.specs.declared.settings.RunSettings.{RunSettings}
use Rattle.sz_resume.specs.declared.halt.Halt.{Halt}
use Rattle.sz_resume.specs.declared.resumed_job.ResumedJob.{ResumedJob}
use Rattle.sz_resume.specs.Resumable.{source_in}
use Rattle.sz_resume.specs.Standing.{Source, IsFound}
use Rattle.sz_resume.specs.Stops.{LeavesRounds, HoldsAll}
use Rattle.sz_resume.specs.Runs.{RunsSource}
use Rattle.szl.specs.ProgramRuns.{IsReadAs}
use Rattle.szl.specs.Resuming.{source_of}

module _ (s : RunSettings) (run : ResumedJob) (read_as : IsReadAs s run) where
  -- a shard has a record
  pub some_records : 1 ≤ run.shard → 1 ≤ s.shard
  some_records some = subst (λ n. 1 ≤ n) read_as.shard some

  -- it is run over what the settings say of these bytes
  same : (bytes : List ℕ) → source_in run bytes ≡ source_of s bytes
  same bytes = let f = read_as.frame in let m = read_as.shard in cc

  -- a journal that it may find
  pub found_as : (name : JobBytes) (held : List ℕ) (rounds : List RoundEntry) (input : List ℕ)
      → IsFound name run.job (source_of s input) held rounds → IsFound name run.job (source_in run input) held rounds
  found_as name held rounds input found = subst (λ (source : Source). IsFound name run.job source held rounds) (sym (same input)) found

  -- what running it gives
  pub runs_as : (name : JobBytes) (j : Tail) (told journal : Option (List ℕ)) (answer : Result SavedState Halt)
      → ((bytes held : List ℕ) → told ≡ Some bytes → journal ≡ Some held → IsFound name run.job (source_in run bytes) held (rounds_of j)
      → RunsSource run.job j (source_in run bytes) answer)
      → (bytes held : List ℕ) → told ≡ Some bytes → journal ≡ Some held → IsFound name run.job (source_of s bytes) held (rounds_of j)
      → RunsSource run.job j (source_of s bytes) answer
  runs_as name j told journal answer runs bytes held t there found =
      subst (λ (source : Source). RunsSource run.job j source answer) (same bytes)
      (runs bytes held t there (found_as name held (rounds_of j) bytes found))

  module _ {K : Type 0} (the_disk : disks.Ghosts K) (name : JobBytes) where
    -- what a stop leaves
    pub left_as : (held : List ℕ) (before : List RoundEntry) (input : List ℕ) (AreAll : List RoundEntry → Type 0) (disk new : K)
        → (added : List RoundEntry) × LeavesRounds the_disk.time the_disk.left_since disk new name run.job (source_in run input) held before added
        × AreAll added
        → (added : List RoundEntry) × LeavesRounds the_disk.time the_disk.left_since disk new name run.job (source_of s input) held before added
        × AreAll added
    left_as held before input AreAll disk new left =
        subst (λ (source : Source). (added : List RoundEntry)
        × LeavesRounds the_disk.time the_disk.left_since disk new name run.job source held before added × AreAll added) (same input) left

    -- what is held at the end
    pub held_as : (input : List ℕ) (new : K) (rounds : List RoundEntry)
        → HoldsAll (the_disk.bytes new) (the_disk.may_leave new) name run.job (source_in run input) rounds
        → HoldsAll (the_disk.bytes new) (the_disk.may_leave new) name run.job (source_of s input) rounds
    held_as input new rounds holds =
        subst (λ (source : Source). HoldsAll (the_disk.bytes new) (the_disk.may_leave new) name run.job source rounds) (same input) holds
