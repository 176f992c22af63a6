-- What a call writes and opens.
use Rattle.std.specs.Prelude.{◌≡◌, ℕ, ◌<◌, ◌⊎◌, Bool, true, false, List, length, take, Option, Some, None, IfSome, Result, Err}
use Rattle.std.specs.Io.KnownBytes.{Appends}
use Rattle.sz_io.specs.Calls.{NamesGain}
use Rattle.sz_io.specs.declared.files.Files as files
use Rattle.sz_io.specs.declared.sink.Sink as sink
use Rattle.szl_cut.specs.declared.failure.Failure.{Failure}
use Rattle.szl_cut.specs.declared.failure.Failure.TheVariants.{WriteFailed, NoMemory}
use Rattle.szl_cut.specs.Cuts.{IsCutAt}
use Rattle.szl_cut.specs.Answers.{Asked, places_text}

-- places were written, each on a line: those at which the file that is asked for is cut, if the bytes under its name
-- are told
pub record Writes (held : List ℕ → Option (List ℕ)) (asked : Option Asked) (old new : Option (List ℕ)) : Type 0 where
  pub name : List ℕ
  pub size : ℕ
  pub is : asked ≡ Some (record { name = name; size = size })
  pub places : List ℕ
  pub cut : IfSome (held name) (λ file. IsCutAt size file places)
  pub appends : Appends old new (places_text places)

-- a front of places was written, but not all of it: of those at which the file that is asked for is cut, if the bytes
-- under its name are told
pub record WritesSome (held : List ℕ → Option (List ℕ)) (asked : Option Asked)
    (old new : Option (List ℕ)) : Type 0 where
  pub name : List ℕ
  pub size : ℕ
  pub is : asked ≡ Some (record { name = name; size = size })
  pub places : List ℕ
  pub cut : IfSome (held name) (λ file. IsCutAt size file places)
  pub count : ℕ
  pub less : count < length (places_text places)
  pub appends : Appends old new (take count (places_text places))

-- what a failure leaves of the output: a front of the places where writing failed, that or no call where memory ran
-- out, and else no call
abbrev pub Leaves : {O : Type 0} → sink.Ghosts O → (List ℕ → Option (List ℕ)) → Option Asked → Failure → O → O → Type 0
Leaves the_out held asked WriteFailed old new = WritesSome held asked (the_out.taken old) (the_out.taken new)
Leaves the_out held asked NoMemory old new = (new ≡ old) ⊎ WritesSome held asked (the_out.taken old) (the_out.taken new)
Leaves the_out held asked failure old new = new ≡ old

-- whether memory ran out
abbrev pub ran_out : {T : Type 0} → Result T Failure → Bool
ran_out (Err NoMemory) = true
ran_out answer = false

-- The name that is asked for was opened, and no other; where memory ran out, that name or none. Where none is asked
-- for, no call was made of the files
abbrev pub OpensAsked : {F : Type 0} → files.Ghosts F → Option Asked → Bool → F → F → Type 0
OpensAsked the_files None wanting old new = new ≡ old
OpensAsked the_files (Some asked) wanting old new =
    NamesGain wanting (the_files.names old) (the_files.names new) asked.name
