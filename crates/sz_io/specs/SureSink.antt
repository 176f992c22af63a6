-- A sink in memory of which no call fails, as its callers see it.
use Rattle.std.specs.Prelude.{◌≡◌, ℕ, min, List, [], length, Result, IfOk}
use Rattle.sz_io.specs.declared.error.OutsideError.{OutsideError}
use Rattle.sz_io.specs.declared.sure_sink.SureSink.{SureSink}

-- the bytes that it has taken
abbrev pub kept_bytes : SureSink → List ℕ
kept_bytes sink = sink.taken.items

-- the most bytes that one call takes
abbrev pub most_taken : SureSink → ℕ
most_taken sink = sink.step

-- how many calls have run out of memory
abbrev pub times_refused : SureSink → ℕ
times_refused sink = sink.refusals

-- a sink that was called by nobody
pub record IsUnused (sink : SureSink) (step : ℕ) : Type 0 where
  pub no_bytes : kept_bytes sink ≡ []
  pub no_refusal : times_refused sink ≡ 0
  pub same_step : most_taken sink ≡ step

-- a call takes the lesser of the step and the piece's length, and the step stays
pub record TakesByStep (old new : SureSink) (piece : List ℕ) (result : Result ℕ OutsideError) : Type 0 where
  pub count : IfOk result (λ n. n ≡ min (most_taken old) (length piece))
  pub same_step : most_taken new ≡ most_taken old
