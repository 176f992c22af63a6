-- What a call of the program promises.
use Rattle.std.specs.Prelude.{◌≡◌, ◌≢◌, ℕ, ◌≤◌, ⊤, Bool, IsTrue, List, [], ◌∷◌, ◌++◌, length, take, Option, Some, IfSome, IsSome, option_to_list}
use Rattle.std.specs.Io.KnownBytes.{Appends, IsAtEnd}
use Rattle.sz_feed.specs.Feed.{file_of}
use Rattle.sz_feed.specs.Program.{program_text}
use Rattle.sz_io.specs.Calls.{GainsLine}
use Rattle.sz_io.specs.declared.files.Files as files
use Rattle.sz_io.specs.declared.sink.Sink as sink
use Rattle.szl.specs.declared.status.Status.{Status}
use Rattle.szl.specs.declared.status.Status.TheVariants.{Done, Usage, ReadFailed, WriteFailed, NoMemory}
use Rattle.sz_words.specs.declared.settings.Settings.{Settings}
use Rattle.sz_words.specs.declared.settings.Settings.TheVariants.{Run, Check, Selftest, Merge}
use Rattle.sz_words.specs.Settings.{settings_in}
use Rattle.szl.specs.Judgement.{Reading, IsRead}
use Rattle.szl.specs.Settings.{frame_asked}
use Rattle.szl.specs.Records.{Cut, IsCutInto}
use Rattle.szl.specs.Merging.{Merged, IsMerged, AreBytesOf}
use Rattle.szl.specs.Answers.{Answer, read_failed_line, write_failed_line, no_memory_line}
use Rattle.szl.specs.ProtoFiles.{IsFileRead, IsOfFile, proto_asked}
use Rattle.szl.specs.Outcome.{outcome}
use Rattle.sz_protofile_types.specs.Readings.{FileReading}

-- The status is the outcome's, or one of the three that a device or want of memory brings: reading can fail only where
-- the words are a command line, and writing only where there are bytes to write.
abbrev pub IsStatusOf : Answer → Status → Type 0
IsStatusOf answer NoMemory = ⊤
IsStatusOf answer ReadFailed = answer.status ≢ Usage
IsStatusOf answer WriteFailed = (answer.status ≡ Done) × (answer.output ≢ [])
IsStatusOf answer status = status ≡ answer.status

-- what a sink has taken grew by a prefix of the bytes
pub record AppendsPrefix (old new : Option (List ℕ)) (bytes : List ℕ) : Type 0 where
  pub count : ℕ
  pub appends : Appends old new (take count bytes)

-- what the output gained: all bytes where the call is done, a prefix where writing or memory failed, else nothing
abbrev pub GainsOutput : Status → Option (List ℕ) → Option (List ℕ) → List ℕ → Type 0
GainsOutput Done old new output = Appends old new output
GainsOutput WriteFailed old new output = AppendsPrefix old new output
GainsOutput NoMemory old new output = AppendsPrefix old new output
GainsOutput status old new output = Appends old new []

-- no call was made of the output at a status under which nothing is written, nor where there is no byte to write
abbrev pub IsLeftAlone : {O : Type 0} → Status → List ℕ → O → O → Type 0
IsLeftAlone Done output old new = output ≡ [] → new ≡ old
IsLeftAlone WriteFailed output old new = output ≡ [] → new ≡ old
IsLeftAlone NoMemory output old new = output ≡ [] → new ≡ old
IsLeftAlone status output old new = new ≡ old

-- the line of a status: those of the three free statuses are fixed, every other one is the outcome's
abbrev pub line_of : Answer → Status → List ℕ
line_of answer ReadFailed = read_failed_line
line_of answer WriteFailed = write_failed_line
line_of answer NoMemory = no_memory_line
line_of answer status = answer.line

-- the names that settings may open after a `.proto` file, in order: the program, and then the input of a run; or the files to be joined
abbrev pub later_names : Option Settings → List (List ℕ)
later_names (Some (Run s)) = s.program ∷ s.input ∷ []
later_names (Some (Check program proto)) = program ∷ []
later_names (Some (Merge names save)) = names
later_names _ = []

-- the names that settings may open, in order: the `.proto` file, if one is asked for, and then the others
abbrev pub names_asked : Option Settings → List (List ℕ)
names_asked asked = option_to_list (proto_asked asked) ++ later_names asked

-- how many files may have been opened before a call, so that there is room for those that it opens
abbrev pub most_before : Option Settings → ℕ
most_before (Some (Merge names save)) = 64
most_before _ = 125

-- what is so, unless a read failed or memory ran out
abbrev pub IfRead : Status → Type 0 → Type 0
IfRead status fact = status ≢ ReadFailed → status ≢ NoMemory → fact

-- the file is none of these
abbrev pub IsNoneOf : ℕ → List ℕ → Type 0
IsNoneOf file [] = ⊤
IsNoneOf file (other ∷ others) = (file ≢ other) × IsNoneOf file others

-- each of these files, no two of them the same, was given now and not before
abbrev pub AreNew : (ℕ → Bool) → (ℕ → Bool) → List ℕ → Type 0
AreNew before now [] = ⊤
AreNew before now (file ∷ files) = ((IsTrue (before file) → ⊥) × IsTrue (now file)) × (IsNoneOf file files × AreNew before now files)

-- a file of its own was given for each of these names: as many as there are names
pub record HasFileEach {F : Type 0} (the_files : files.Ghosts F) (old new : F) (names : List (List ℕ)) : Type 0 where
  pub opened : List ℕ
  pub one_each : length opened ≡ length names
  pub are_new : AreNew (the_files.given old) (the_files.given new) opened

-- The first of the names asked for were opened, in order, and at most this many. They are all that many, and each has a file, unless
-- a read failed or memory ran out; and a read fails only of a name that was opened.
pub record OpensFiles {F : Type 0} (the_files : files.Ghosts F) (old new : F) (asked : List (List ℕ)) (most : ℕ) (status : Status) : Type 0 where
  pub count : ℕ
  pub within : count ≤ most
  pub opened : the_files.names new ≡ the_files.names old ++ take count asked
  pub all : IfRead status (take count asked ≡ take most asked)
  pub each : IfRead status (HasFileEach the_files old new (take count asked))
  pub of_some : status ≡ ReadFailed → take count asked ≢ []

-- the bytes under each name that the words ask for are these, where they are told: of a program, an input, or files to be joined; those of a
-- self test are its program and its file
abbrev pub AreOfFiles : Option Settings → (List ℕ → Option (List ℕ)) → List ℕ → List ℕ → List (List ℕ) → Type 0
AreOfFiles (Some (Run s)) held text input saved = IfSome (held s.program) (λ bytes. bytes ≡ text) × IfSome (held s.input) (λ bytes. bytes ≡ input)
AreOfFiles (Some (Check program proto)) held text input saved = IfSome (held program) (λ bytes. bytes ≡ text)
AreOfFiles (Some (Selftest seed records workers)) held text input saved = (text ≡ program_text) × (input ≡ file_of seed records)
AreOfFiles (Some (Merge names save)) held text input saved = AreBytesOf held names saved
AreOfFiles _ held text input saved = ⊤

-- where files are to be joined, it ends so for files of these bytes
abbrev pub IsMergedFor : Option Settings → List (List ℕ) → Merged → Type 0
IsMergedFor (Some (Merge names save)) saved merged = IsMerged saved merged
IsMergedFor _ saved merged = ⊤

-- The call's status, its output, its line and the files that it opens are those of the outcome, for the bytes that the
-- files hold, the readings of the `.proto` file and of the program's text, the records of the input, and what joining files comes to. Where a
-- file doesn't tell its bytes, it is as if it held some. Since each of the two has just one reading, an input is cut in just one way and
-- joining ends in just one, the outcome is determined by the words and the bytes.
pub record MeansSource {F O E : Type 0} (the_files : files.Ghosts F) (the_out : sink.Ghosts O) (the_err : sink.Ghosts E)
    (words : List (List ℕ)) (status : Status) (files new_files : F) (out new_out : O) (err new_err : E) : Type 0 where
  pub file_bytes : List ℕ
  pub file : FileReading
  pub file_read : IsFileRead file_bytes file
  pub of_file : IsOfFile (proto_asked (settings_in words)) (the_files.held files) file_bytes
  pub text : List ℕ
  pub reading : Reading
  pub read : IsRead text reading
  pub input : List ℕ
  pub cut : Cut
  pub is_cut : IsCutInto (frame_asked (settings_in words)) input cut
  pub saved : List (List ℕ)
  pub merged : Merged
  pub is_merged : IsMergedFor (settings_in words) saved merged
  pub of_files : AreOfFiles (settings_in words) (the_files.held files) text input saved
  pub answers : IsStatusOf (outcome words file reading cut merged) status
  pub output : GainsOutput status (the_out.taken out) (the_out.taken new_out) (outcome words file reading cut merged).output
  pub left_alone : IsLeftAlone status (outcome words file reading cut merged).output out new_out
  pub line : GainsLine the_err err new_err (line_of (outcome words file reading cut merged) status)
  pub opened : OpensFiles the_files files new_files (names_asked (settings_in words)) (outcome words file reading cut merged).opens status

-- the fact, where the bytes under all these names are told
abbrev pub IfTold : (List ℕ → Option (List ℕ)) → List (List ℕ) → Type 0 → Type 0
IfTold held [] fact = fact
IfTold held (name ∷ names) fact = IfSome (held name) (λ _. IfTold held names fact)

-- Under each of these names, and no other, a file of its own was opened. Each file opened since is at its end, and what is left of it is
-- told where the bytes under all the names are.
pub record AreReadToEnd {F : Type 0} (the_files : files.Ghosts F) (old new : F) (names : List (List ℕ)) : Type 0 where
  pub all_opened : the_files.names new ≡ the_files.names old ++ names
  pub each : HasFileEach the_files old new names
  pub none_left : (file : ℕ) → (IsTrue (the_files.given old file) → ⊥) → IsTrue (the_files.given new file)
      → IsAtEnd (the_files.left new file)
  pub told : (file : ℕ) → (IsTrue (the_files.given old file) → ⊥) → IsTrue (the_files.given new file)
      → IfTold (the_files.held old) names (IsSome (the_files.left new file))
