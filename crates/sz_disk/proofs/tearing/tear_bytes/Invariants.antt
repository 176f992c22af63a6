use Rattle.std.proofs.Common.{◌≡◌, length}
use Rattle.sz_disk.specs.Crashes.{Torn}
use Rattle.sz_disk.proofs.tearing.tear_bytes.Given as goal

abbrev pub invariant-loop-place : goal.invariant-loop-place
invariant-loop-place l = record { torn : Torn l.spans l.synced l.bytes; size : l.place-end ≡ length l.bytes }
