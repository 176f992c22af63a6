-- What the calls that read and write a whole text promise.
use Rattle.std.specs.Prelude.{◌≡◌, ℕ, ◌⊎◌, Bool, true, false, IsTrue, List, [], ◌∷◌, ◌++◌, Option, Result, Err, IfSome, IsSome, ◌<◌, ◌≤◌, length, take}
use Rattle.std.specs.Io.KnownBytes.{Appends, IsAtEnd}
use Rattle.sz_io.specs.declared.error.ReadError.{ReadError}
use Rattle.sz_io.specs.declared.error.ReadError.TheVariants.{NoMemory}
use Rattle.sz_io.specs.declared.error.WriteError.{WriteError}
use Rattle.sz_io.specs.declared.error.WriteError.TheVariants as Write
use Rattle.sz_io.specs.declared.files.Files.{Ghosts}
use Rattle.sz_io.specs.declared.sink.Sink as sink
use Rattle.sz_io.specs.Rose.{Rose}

-- the names opened gain exactly this name; where memory ran out, this name or none
abbrev pub NamesGain : Bool → List (List ℕ) → List (List ℕ) → List ℕ → Type 0
NamesGain true old new name = (new ≡ old) ⊎ (new ≡ old ++ name ∷ [])
NamesGain false old new name = new ≡ old ++ name ∷ []

-- whether memory ran out
abbrev pub ran_out : {T : Type 0} → Result T ReadError → Bool
ran_out (Err NoMemory) = true
ran_out result = false

-- One file was opened since, and no byte of it is left. It tells what is left where the bytes under the name were told.
pub record ReadToEnd {F : Type 0} (files : Ghosts F) (old new : F) (name : List ℕ) : Type 0 where
  pub file : ℕ
  pub not_before : IsTrue (files.given old file) → ⊥
  pub given_now : IsTrue (files.given new file)
  pub no_other : (other : ℕ) → IsTrue (files.given new other) → (other ≡ file) ⊎ IsTrue (files.given old other)
  pub none_left : IsAtEnd (files.left new file)
  pub told : IfSome (files.held old name) (λ _. IsSome (files.left new file))

-- one file was opened since
pub record OpensOne {F : Type 0} (files : Ghosts F) (old new : F) : Type 0 where
  pub file : ℕ
  pub not_before : IsTrue (files.given old file) → ⊥
  pub given_now : IsTrue (files.given new file)

-- how many bytes the sink took before the error
abbrev pub bytes_taken : WriteError → ℕ
bytes_taken (Write.Failed n) = n
bytes_taken (Write.NoMemory n) = n

-- a front of the bytes was written, but not all of them
pub record AppendsPart (old new : Option (List ℕ)) (bytes : List ℕ) : Type 0 where
  pub count : ℕ
  pub less : count < length bytes
  pub appends : Appends old new (take count bytes)

-- a sink gained the line, or a prefix of it where one of the sink's two counts rose
pub record GainsLine {S : Type 0} (the_sink : sink.Ghosts S) (old new : S) (line : List ℕ) : Type 0 where
  pub count : ℕ
  pub appends : Appends (the_sink.taken old) (the_sink.taken new) (take count line)
  pub whole : (length line ≤ count)
      ⊎ (Rose (the_sink.faults old) (the_sink.faults new) ⊎ Rose (the_sink.refusals old) (the_sink.refusals new))
