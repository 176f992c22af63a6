-- A journal that is ready, and one more round.
use Rattle.std.proofs.Common.{◌≡◌, ℕ, List, [], ◌∷◌, ◌++◌, Option, Some, IfSome, sym, subst}
use Rattle.sz_types.specs.Tables.{Declaration}
use Rattle.sz_disk.specs.Crashes.{told}
use Rattle.sz_disk.specs.MemDisk.{disk_bytes, DiskLeaves}
use Rattle.sz_disk.specs.declared.mem_disk.MemDisk.{MemDisk}
use Rattle.sz_journal.specs.Rounds.{AreRounds}
use Rattle.sz_journal.specs.declared.job.JobBytes.{JobBytes}
use Rattle.sz_journal.specs.declared.round.RoundEntry.{RoundEntry}
use Rattle.sz_journal.specs.Journals.{Spells}
use Rattle.sz_journal.specs.Journal.{rounds_of, IsOf, CanAppend, KeepsRounds}
use Rattle.sz_journal.specs.Kept.{tail_of}
use Rattle.sz_journal.specs.declared.journal.Journal.{Journal}
use Rattle.sz_journal_tests.specs.Ready.{IsReady}

module _ (job : JobBytes) (decls : List Declaration) (journal : Journal) (disk : MemDisk)
    (ready : IsReady job decls journal disk) (round : RoundEntry) where
  -- what may be the next round can be appended
  pub can_append : AreRounds job decls (rounds_of (tail_of journal) ++ round ∷ [])
      → CanAppend (tail_of journal) (Some (disk_bytes disk)) round
  can_append are = record {
    job = job;
    decls = decls;
    is_of = ready.is_of;
    spells =
        subst (λ (b : Option (List ℕ)). IfSome b (λ held. Spells job decls held (rounds_of (tail_of journal))))
        (sym ready.keeps.rests.read) ready.keeps.spells;
    are = are;
  }

  -- once it was, the journal is ready again
  pub ready_again : (after : Journal) (written : MemDisk) → rounds_of (tail_of after) ≡ rounds_of (tail_of journal) ++ round ∷ []
      → ((other : JobBytes) → IsOf other (tail_of journal) → IsOf other (tail_of after))
      → KeepsRounds (Some (disk_bytes written)) (told (DiskLeaves written)) job decls
      (rounds_of (tail_of journal) ++ round ∷ []) → IsReady job decls after written
  ready_again after written rounds is_of keeps = record {
    is_of = is_of job ready.is_of;
    keeps =
        subst (λ (rs : List RoundEntry).
        KeepsRounds (Some (disk_bytes written)) (told (DiskLeaves written)) job decls rs) (sym rounds) keeps;
  }
