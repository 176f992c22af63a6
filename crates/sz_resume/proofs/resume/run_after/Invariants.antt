use Rattle.std.proofs.Common.{◌≡◌, ◌+◌, ◌-◌, ◌^◌, ◌<◌, ◌≤◌, ◌++◌, ℕ, List, Some, true, length, drop, IsTrue}
use Rattle.sz_mean.specs.Marked.{all_tables}
use Rattle.sz_io.specs.Opened.{KeepsOtherFiles}
use Rattle.sz_disk.specs.Crashes.{are_told}
use Rattle.sz_disk.specs.Crashing.{Rests, LeavesOnly, DoesNotFall}
use Rattle.sz_journal.specs.declared.job.JobBytes.{JobBytes}
use Rattle.sz_journal.specs.declared.round.RoundEntry.{RoundEntry}
use Rattle.sz_journal.specs.Rounds.{last_progress}
use Rattle.sz_journal.specs.Journal.{rounds_of, KeepsRounds}
use Rattle.sz_resume.specs.Standing.{Stands}
use Rattle.sz_resume.specs.Stops.{AreSmall, LeavesRounds, SpellsMore}
use Rattle.sz_resume.specs.Runs.{IsJournalOf}
use Rattle.sz_resume.specs.Joining.{HaveJoined}
use Rattle.sz_resume.specs.Turns.{AllStand, IsAfter, rest_from}
use Rattle.sz_resume.proofs.resume.run_after.Given as goal

-- the rounds before the records at hand are the journal's
abbrev pub invariant-loop-intake : goal.invariant-loop-intake
invariant-loop-intake g l = record {
  given : IsTrue (g.F.Files.given l.files l.file);
  room : 0 < length l.buffer;
  rises : (last_progress (rounds_of l.fn.journal.tail)).bytes ≤ (last_progress (rounds_of l.journal.tail)).bytes;
  behind : IsAfter l.run.job l.run.frame l.run.shard (rounds_of l.journal.tail) l.intake
      (rest_from ((last_progress (rounds_of l.journal.tail)).bytes - (last_progress (rounds_of l.fn.journal.tail)).bytes) (g.F.Files.left l.fn.files l.file))
      (g.F.Files.left l.files l.file);
  journal_is : (name : JobBytes) → IsJournalOf name l.run.job l.fn.journal.tail (g.K.Disk.bytes l.fn.disk) → IsJournalOf name l.run.job l.journal.tail (g.K.Disk.bytes l.disk);
  grows : (added : List RoundEntry) × (rounds_of l.journal.tail ≡ rounds_of l.fn.journal.tail ++ added) × AreSmall (last_progress (rounds_of l.fn.journal.tail)) added;
  stands : (input : List ℕ) → g.F.Files.left l.fn.files l.file ≡ Some (drop (last_progress (rounds_of l.fn.journal.tail)).bytes input)
      → AllStand l.run.job (record { frame = l.run.frame; most = l.run.shard; bytes = input }) (rounds_of l.fn.journal.tail)
      → AllStand l.run.job (record { frame = l.run.frame; most = l.run.shard; bytes = input }) (rounds_of l.journal.tail);
  joined : HaveJoined l.journal.joined (all_tables l.run.job.compiled) (rounds_of l.journal.tail);
  keeps : (name : JobBytes) (held : List ℕ) → Rests (g.K.Disk.bytes l.fn.disk) (g.K.Disk.may_leave l.fn.disk) held
      → IsJournalOf name l.run.job l.fn.journal.tail (g.K.Disk.bytes l.fn.disk)
      → KeepsRounds (g.K.Disk.bytes l.disk) (g.K.Disk.may_leave l.disk) name (all_tables l.run.job.compiled) (rounds_of l.journal.tail);
  entries : (name : JobBytes) (held : List ℕ) → Rests (g.K.Disk.bytes l.fn.disk) (g.K.Disk.may_leave l.fn.disk) held
      → are_told (g.K.Disk.may_leave l.fn.disk) ≡ true → IsJournalOf name l.run.job l.fn.journal.tail (g.K.Disk.bytes l.fn.disk)
      → LeavesOnly g.K.Disk.time g.K.Disk.left_since l.fn.disk l.disk (SpellsMore name (all_tables l.run.job.compiled) (rounds_of l.fn.journal.tail));
  stopped : (input held : List ℕ) (name : JobBytes) → g.F.Files.left l.fn.files l.file ≡ Some (drop (last_progress (rounds_of l.fn.journal.tail)).bytes input)
      → Rests (g.K.Disk.bytes l.fn.disk) (g.K.Disk.may_leave l.fn.disk) held → are_told (g.K.Disk.may_leave l.fn.disk) ≡ true
      → IsJournalOf name l.run.job l.fn.journal.tail (g.K.Disk.bytes l.fn.disk)
      → Stands name l.run.job (record { frame = l.run.frame; most = l.run.shard; bytes = input }) held (rounds_of l.fn.journal.tail)
      → (added : List RoundEntry) × LeavesRounds g.K.Disk.time g.K.Disk.left_since l.fn.disk l.disk name l.run.job
      (record { frame = l.run.frame; most = l.run.shard; bytes = input }) held (rounds_of l.fn.journal.tail) added
      × (rounds_of l.journal.tail ≡ rounds_of l.fn.journal.tail ++ added);
  told : are_told (g.K.Disk.may_leave l.disk) ≡ are_told (g.K.Disk.may_leave l.fn.disk);
  kept : KeepsOtherFiles g.F.Files.held g.F.Files.left g.F.Files.given g.F.Files.names g.F.Files.faults l.file l.fn.files l.files;
  faults : DoesNotFall (g.K.Disk.faults l.fn.disk) (g.K.Disk.faults l.disk);
}

-- how many records there may still be
abbrev pub decreases-loop-intake : goal.decreases-loop-intake
decreases-loop-intake g l = 2 ^ 31 + 2 - l.intake.first
