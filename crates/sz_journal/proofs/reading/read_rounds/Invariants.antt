-- Which rounds were read so far.
use Rattle.std.proofs.Common.{◌≡◌, ◌-◌, length, IfSome, List, ℕ}
use Rattle.sz_disk.specs.Crashing.{DoesNotFall, WritesNothing}
use Rattle.sz_journal.specs.Journal.{rounds_of, end_gate}
use Rattle.sz_journal.specs.Reading.{IsAt}
use Rattle.sz_journal.proofs.reading.read_rounds.Given as goal

-- The journal has them, and its end is a gate of the disk, to which nothing was written.
abbrev pub invariant-loop : goal.invariant-loop
invariant-loop g l = record {
  all : IfSome (g.K.Disk.bytes l.disk) (λ (held : List ℕ). l.count ≡ length held);
  keeper : g.S.Keeper.keeps l.keeper l.decls (rounds_of l.tail);
  at : IsAt l.job l.decls l.tail (g.K.Disk.bytes l.disk) l.count;
  kept : WritesNothing g.K.Disk.bytes g.K.Disk.may_leave g.K.Disk.time g.K.Disk.left_since l.fn.disk l.disk;
  faults : DoesNotFall (g.K.Disk.faults l.fn.disk) (g.K.Disk.faults l.disk);
}

abbrev pub decreases-loop : goal.decreases-loop
decreases-loop g l = l.count - end_gate l.tail
