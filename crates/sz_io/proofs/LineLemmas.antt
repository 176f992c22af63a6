-- What a write of a line says of it, whatever it answers.
use Rattle.std.proofs.Common.{◌≡◌, ℕ, inl, inr, List, length, take, refl, subst, sym, arith}
use Rattle.std.specs.Prelude.{Result, Ok, Err, OnOk, IfErr}
use Rattle.std.specs.Io.KnownBytes.{Appends}
use Rattle.std.proofs.lemmas.List.{take_all}
use Rattle.sz_io.specs.declared.error.WriteError.{WriteError}
use Rattle.sz_io.specs.declared.error.WriteError.TheVariants as write
use Rattle.sz_io.specs.declared.sink.Sink as sink
use Rattle.sz_io.specs.Calls.{GainsLine, bytes_taken}
use Rattle.sz_io.specs.Rose.{Rose}

-- the line was written whole, or a front of it where a count of the sink rose
pub line_told : {E : Type 0} (the_err : sink.Ghosts E) (old new : E) (line : List ℕ)
    (result : Result (Unit {0}) WriteError) → OnOk result (Appends (the_err.taken old) (the_err.taken new) line)
    → IfErr result (λ e. Appends (the_err.taken old) (the_err.taken new) (take (bytes_taken e) line))
    → ((n : ℕ) → result ≡ Err (write.Failed n) → Rose (the_err.faults old) (the_err.faults new))
    → ((n : ℕ) → result ≡ Err (write.NoMemory n) → Rose (the_err.refusals old) (the_err.refusals new))
    → GainsLine the_err old new line
line_told the_err old new line (Ok done) whole prefix failed refused = record {
  count = length line;
  appends =
      subst (Appends (the_err.taken old) (the_err.taken new)) (sym (take_all (length line) line (omega arith))) whole;
  whole = inl (omega arith);
}
line_told the_err old new line (Err (write.Failed n)) whole prefix failed refused = record {
  count = n;
  appends = prefix;
  whole = inr (inl (failed n refl));
}
line_told the_err old new line (Err (write.NoMemory n)) whole prefix failed refused = record {
  count = n;
  appends = prefix;
  whole = inr (inr (refused n refl));
}
