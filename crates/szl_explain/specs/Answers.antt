-- What a command line is answered.
use Rattle.std.specs.Prelude.{◌≡◌, ℕ, ◌⊎◌, Bool, true, false, List, [], ◌∷◌, ◌++◌, codes}
use Rattle.std.specs.Prelude.{Option, Some, None, IfSome, IfNone, if◌then◌else◌}
use Rattle.std.specs.Io.KnownBytes.{Appends}
use Rattle.sz_io.specs.Words.{is_file_name}
use Rattle.sz_io.specs.Calls.{AppendsPart, NamesGain}
use Rattle.sz_io.specs.declared.files.Files as files
use Rattle.sz_io.specs.declared.sink.Sink as sink
use Rattle.sz_refusals.specs.declared.refusal.Refusal.{Refusal}
use Rattle.sz_refusals.specs.Lines.{refusal_line}
use Rattle.szl_explain_judge.specs.Refusing.{IsProgram, IsRefused}
use Rattle.szl_explain.specs.declared.program.Status.{Status}
use Rattle.szl_explain.specs.declared.program.Status.TheVariants.{Done, Usage, Program, ReadFailed, WriteFailed, NoMemory}

-- the name that the words ask for: the one word, if it names a file
abbrev pub asked_in : List (List ℕ) → Option (List ℕ)
asked_in (word ∷ []) = if is_file_name word then Some word else None
asked_in words = None

-- the exit statuses
abbrev pub code_of : Status → ℕ
code_of Done = 0
code_of Usage = 1
code_of Program = 2
code_of ReadFailed = 5
code_of WriteFailed = 6
code_of NoMemory = 8

-- the lines that tell why there is no explanation
abbrev pub line_of : Status → List ℕ
line_of Done = []
line_of Usage = codes "bad command line\n"
line_of Program = []
line_of ReadFailed = codes "read failed\n"
line_of WriteFailed = codes "write failed\n"
line_of NoMemory = codes "out of memory\n"

-- the first line: that of the refusal, or that there is none
abbrev pub first_line : Option Refusal → List ℕ
first_line None = codes "the program passes\n"
first_line (Some r) = refusal_line r

-- the status of a program that was explained: that it passes, or is refused
abbrev pub status_of : Option Refusal → Status
status_of None = Done
status_of (Some r) = Program

-- This is said of a file, and this is its refusal, if it has one: it is a program, or it is refused so, and the line
-- that says it stands in front. What stands after that line may be anything. Where a file doesn't tell its bytes, it
-- is as if it held some
pub record Explains (told : Option (List ℕ)) (refusal : Option Refusal) (said : List ℕ) : Type 0 where
  pub text : List ℕ
  pub holds : IfSome told (λ bytes. bytes ≡ text)
  pub program : IfNone refusal (IsProgram text)
  pub refused : IfSome refusal (IsRefused text)
  pub more : List ℕ
  pub is : said ≡ first_line refusal ++ more

-- all that is said of a file was written, and its status is this
pub record Writes (told : Option (List ℕ)) (status : Status) (old new : Option (List ℕ)) : Type 0 where
  pub refusal : Option Refusal
  pub said : List ℕ
  pub explains : Explains told refusal said
  pub is : status ≡ status_of refusal
  pub appends : Appends old new said

-- a front of what is said of a file was written, but not all of it
pub record WritesSome (told old new : Option (List ℕ)) : Type 0 where
  pub refusal : Option Refusal
  pub said : List ℕ
  pub explains : Explains told refusal said
  pub appends : AppendsPart old new said

-- What a status says of the file under the name that is asked for, and of the output: all was written that is said of
-- the file, a front of that where writing failed, that or no call where memory ran out, and else no call
abbrev pub IsAnswer : {O : Type 0} → sink.Ghosts O → Option (List ℕ) → Status → O → O → Type 0
IsAnswer the_out told Usage old new = ⊥
IsAnswer the_out told ReadFailed old new = new ≡ old
IsAnswer the_out told WriteFailed old new = WritesSome told (the_out.taken old) (the_out.taken new)
IsAnswer the_out told NoMemory old new = (new ≡ old) ⊎ WritesSome told (the_out.taken old) (the_out.taken new)
IsAnswer the_out told status old new = Writes told status (the_out.taken old) (the_out.taken new)

-- the same by what the words ask for; where that is nothing, there is no call of the output
abbrev pub Answers : {O : Type 0} → sink.Ghosts O → (List ℕ → Option (List ℕ)) → Option (List ℕ) → Status
    → O → O → Type 0
Answers the_out held None status old new = (status ≡ Usage) × (new ≡ old)
Answers the_out held (Some name) status old new = IsAnswer the_out (held name) status old new

-- whether memory ran out
abbrev pub ran_out : Status → Bool
ran_out NoMemory = true
ran_out status = false

-- The name that is asked for was opened, and no other; where memory ran out, that name or none. Where none is asked
-- for, no call was made of the files
abbrev pub OpensAsked : {F : Type 0} → files.Ghosts F → Option (List ℕ) → Status → F → F → Type 0
OpensAsked the_files None status old new = new ≡ old
OpensAsked the_files (Some name) status old new =
    NamesGain (ran_out status) (the_files.names old) (the_files.names new) name
