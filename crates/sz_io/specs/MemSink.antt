-- A sink in memory, as its callers see it.
use Rattle.std.specs.Prelude.{◌≡◌, ℕ, ◌+◌, ◌-◌, ◌^◌, min, List, [], length, Result, IsTrue, IfOk, IsErrOf, ◌↔◌}
use Rattle.sz_io.specs.declared.error.OutsideError.{OutsideError}
use Rattle.sz_io.specs.declared.error.OutsideError.TheVariants.{Failed}
use Rattle.sz_io.specs.Listed.{listed_before, is_listed}
use Rattle.sz_io.specs.declared.mem_sink.MemSink.{MemSink}

-- the bytes that it has taken
abbrev pub sink_bytes : MemSink → List ℕ
sink_bytes sink = sink.taken.items

-- the most bytes that one call takes
abbrev pub sink_step : MemSink → ℕ
sink_step sink = sink.step

-- the numbers of the calls that fail
abbrev pub sink_fails : MemSink → List ℕ
sink_fails sink = sink.fails.items

-- how many calls were made, which is the number of the next one
abbrev pub sink_calls : MemSink → ℕ
sink_calls sink = sink.calls

-- how many calls have failed: those of the list that were made
abbrev pub sink_faults : MemSink → ℕ
sink_faults sink = listed_before sink.calls sink.fails.items

-- how many calls have run out of memory
abbrev pub sink_refusals : MemSink → ℕ
sink_refusals sink = sink.refusals

-- a sink that was called by nobody
pub record IsNewSink (sink : MemSink) (step : ℕ) (fails : List ℕ) : Type 0 where
  pub no_bytes : sink_bytes sink ≡ []
  pub no_call : sink_calls sink ≡ 0
  pub no_refusal : sink_refusals sink ≡ 0
  pub same_step : sink_step sink ≡ step
  pub same_fails : sink_fails sink ≡ fails

-- A call takes the lesser of the step and the piece's length. It fails exactly where the list has its number, and it is
-- counted. Step and list stay.
pub record WritesByList (old new : MemSink) (piece : List ℕ) (result : Result ℕ OutsideError) : Type 0 where
  pub step : IfOk result (λ n. n ≡ min (sink_step old) (length piece))
  pub listed : IsErrOf result Failed ↔ IsTrue (is_listed (sink_fails old) (sink_calls old))
  pub one_call : sink_calls new ≡ min (sink_calls old + 1) (2 ^ 64 - 1)
  pub same_step : sink_step new ≡ sink_step old
  pub same_fails : sink_fails new ≡ sink_fails old
