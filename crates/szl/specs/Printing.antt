-- What printing an answer gives.
use Rattle.std.specs.Prelude.{◌≡◌, ◌≢◌, ℕ, List, [], Option, Result, Ok, Err}
use Rattle.std.specs.Io.KnownBytes.{Appends}
use Rattle.szl.specs.declared.failure.Failure.{Failure}
use Rattle.szl.specs.declared.failure.Failure.TheVariants.{WriteFailed, NoMemory}
use Rattle.szl.specs.Promise.{AppendsPrefix}

-- The output is written whole, or a prefix of it where writing or memory failed, which of no bytes can't fail; a failure that
-- was there before stays, and nothing is written.
abbrev pub Prints : {T : Type 0} → Option (List ℕ) → Option (List ℕ) → Result (List ℕ) Failure → Result T Failure → Type 0
Prints old new (Ok output) (Ok _) = Appends old new output
Prints old new (Ok output) (Err WriteFailed) = (output ≢ []) × AppendsPrefix old new output
Prints old new (Ok output) (Err NoMemory) = AppendsPrefix old new output
Prints old new (Ok output) (Err failure) = ⊥
Prints old new (Err failure) (Ok _) = ⊥
Prints old new (Err failure) (Err same) = (same ≡ failure) × Appends old new []

-- no call was made of the sink where there was a failure, nor where there was no byte to print
abbrev pub PrintsNothing : {O : Type 0} → Result (List ℕ) Failure → O → O → Type 0
PrintsNothing (Ok output) old new = output ≡ [] → new ≡ old
PrintsNothing (Err failure) old new = new ≡ old
