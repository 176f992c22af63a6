-- How far the sink has come with the text.
use Rattle.std.proofs.Common.{length, ◌-◌, ◌≡◌, ◌≤◌, take}
use Rattle.std.specs.Io.KnownBytes.{Appends}
use Rattle.sz_io.specs.Rose.{DoNotFall}
use Rattle.sz_io.proofs.writing.write_whole.Given as goal

-- The sink has taken the bytes before `done`, and before the first one no call was made.
abbrev pub invariant-loop-done : goal.invariant-loop-done
invariant-loop-done g l = record {
  in_range : l.done ≤ length l.bytes;
  taken : Appends (g.S.Sink.taken l.fn.sink) (g.S.Sink.taken l.sink) (take l.done l.bytes);
  kept : DoNotFall g.S.Sink.faults g.S.Sink.refusals l.fn.sink l.sink;
  untouched : l.done ≡ 0 → l.sink ≡ l.fn.sink;
}

abbrev pub decreases-loop-done : goal.decreases-loop-done
decreases-loop-done g l = length l.bytes - l.done
