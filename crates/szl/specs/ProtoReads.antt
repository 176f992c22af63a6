-- What reading the `.proto` file of a command line gives.
use Rattle.std.specs.Prelude.{◌≡◌, ⊤, List, [], ◌∷◌, ℕ, Option, Some, None, IfSome, Result, Ok, Err}
use Rattle.sz_io.specs.Rose.{Rose}
use Rattle.sz_io.specs.Calls.{NamesGain, OpensOne}
use Rattle.sz_io.specs.declared.files.Files as files
use Rattle.sz_protofile.specs.Types.{TypeShape}
use Rattle.sz_protofile_types.specs.Readings.{bad_file, with_types}
use Rattle.sz_save_format.specs.Types.{HasTypeBytes}
use Rattle.szl.specs.declared.proto.TypesFile.{TypesFile}
use Rattle.szl.specs.declared.failure.Failure.{Failure}
use Rattle.szl.specs.declared.failure.Failure.TheVariants.{BadProtoFile, ReadFailed, NoMemory}
use Rattle.szl.specs.Opening.{ran_out, status_of_answer}
use Rattle.szl.specs.Promise.{IfRead}
use Rattle.szl.specs.ProtoFiles.{IsFileRead, file_too_long}

-- each of these types has its bytes in a saved file, but for its height
abbrev pub HaveTypeBytes : List TypeShape → Type 0
HaveTypeBytes [] = ⊤
HaveTypeBytes (t ∷ types) = HasTypeBytes t.shape × HaveTypeBytes types

-- the failure for a file that is too long
abbrev pub past_file : Failure
past_file = BadProtoFile file_too_long

-- what the types of these bytes are said to be: those that they have; that they are refused; that a read failed, or want of memory
abbrev pub TellsTypes : List ℕ → Type 0 → Result (List TypeShape) Failure → Type 0
TellsTypes bytes rose (Ok types) = IsFileRead bytes (with_types types)
TellsTypes bytes rose (Err (BadProtoFile f)) = IsFileRead bytes (bad_file f)
TellsTypes bytes rose (Err ReadFailed) = rose
TellsTypes bytes rose (Err NoMemory) = ⊤
TellsTypes bytes rose (Err failure) = ⊥

-- the types of a file, or why there are none
abbrev pub types_of : Result TypesFile Failure → Result (List TypeShape) Failure
types_of (Ok file) = Ok file.types
types_of (Err failure) = Err failure

-- a file of this name was read: it holds these bytes where it is told, and the answer is of these
pub record ReadsTypes {F : Type 0} (the_files : files.Ghosts F) (name : List ℕ) (old new : F) (answer : Result (List TypeShape) Failure) : Type 0 where
  pub bytes : List ℕ
  pub holds : IfSome (the_files.held old name) (λ told. told ≡ bytes)
  pub tells : TellsTypes bytes (Rose (the_files.faults old) (the_files.faults new)) answer
  pub gained : NamesGain (ran_out answer) (the_files.names old) (the_files.names new) name
  pub opened : IfRead (status_of_answer answer) (OpensOne the_files old new)

-- the types of the file of this name, if there is one, and else none; no file is opened then
abbrev pub GivesTypes : {F : Type 0} → files.Ghosts F → Option (List ℕ) → F → F → Result (List TypeShape) Failure → Type 0
GivesTypes the_files None old new answer = (new ≡ old) × (answer ≡ Ok [])
GivesTypes the_files (Some name) old new answer = ReadsTypes the_files name old new answer
