-- A sink over a real stream, as its callers see it.
use Rattle.std.specs.Prelude.{ℕ}
use Rattle.sz_io.specs.declared.os_sink.OsSink.{OsSink}

-- how many calls have failed
abbrev pub stream_faults : {W : Type 0} → OsSink W → ℕ
stream_faults sink = sink.faults.count
