-- The `.proto` file that a command line may name: what it is read as, and the line of one that is refused.
use Rattle.std.specs.Prelude.{◌≡◌, ℕ, suc, ◌<◌, ◌≤◌, List, [], ◌∷◌, ◌++◌, length, slice_index_or, codes, Option, Some, None, IfSome}
use Rattle.sz_protofile.specs.declared.fault.Fault.{Fault}
use Rattle.sz_protofile.specs.Types.{TypeShape, first_place, refused_at}
use Rattle.sz_protofile_types.specs.Readings.{FileReading, bad_file, with_types, IsReading}
use Rattle.sz_words.specs.declared.settings.Settings.{Settings}
use Rattle.sz_words.specs.declared.settings.Settings.TheVariants.{Run, Check}
use Rattle.szl.specs.declared.status.Status.TheVariants as status
use Rattle.sz_refusals.specs.Lines.{place_text, name_text}
use Rattle.szl.specs.Answers.{Answer, refusal}

-- the most bytes of the file
abbrev pub most_file_bytes : ℕ
most_file_bytes = 1048576

-- the refusal of a file with more
abbrev pub file_too_long : Fault
file_too_long = refused_at 1 first_place

-- what the file of these bytes is read as, by what they are alone: refused, where they are too many, and else what reading them gives
pub data IsFileRead (bytes : List ℕ) : FileReading → Type 0 where
  long : most_file_bytes < length bytes → IsFileRead bytes (bad_file file_too_long)
  short : (file : FileReading) → length bytes ≤ most_file_bytes → IsReading bytes file → IsFileRead bytes file

-- the bytes of a file are read as something
pub record HasFileReading (bytes : List ℕ) : Type 0 where
  pub file : FileReading
  pub read : IsFileRead bytes file

-- each file is read as something
abbrev pub EveryFileIsRead : Type 0
EveryFileIsRead = (bytes : List ℕ) → HasFileReading bytes

-- no file is read in two ways
abbrev pub HasOneFileReading : Type 0
HasOneFileReading = (bytes : List ℕ) (a b : FileReading) → IsFileRead bytes a → IsFileRead bytes b → a ≡ b

-- ---- what settings ask for

-- the name of the `.proto` file that is asked for without a disk, if one is; of `resume` see Resuming.antt
abbrev pub proto_asked : Option Settings → Option (List ℕ)
proto_asked (Some (Run s)) = s.proto
proto_asked (Some (Check program proto)) = proto
proto_asked _ = None

-- these are the bytes of the file of this name, where they are told; without a name it is as if the file were empty
abbrev pub IsOfFile : Option (List ℕ) → (List ℕ → Option (List ℕ)) → List ℕ → Type 0
IsOfFile None held bytes = bytes ≡ []
IsOfFile (Some name) held bytes = IfSome (held name) (λ told. told ≡ bytes)

-- ---- what is answered

-- the texts of the refusals, by their numbers from 1
abbrev pub file_texts : List (List ℕ)
file_texts =
    [] ∷ codes "too long" ∷ codes "syntax" ∷ codes "declared twice" ∷ codes "bad field number" ∷ codes "unknown type"
    ∷ codes "too many fields" ∷ []

-- the line that says why the file is refused, and where
abbrev pub bad_file_line : Fault → List ℕ
bad_file_line f =
    codes "proto file: " ++ (slice_index_or file_texts f.number [] ++ (name_text f.name ++ (codes " at " ++ (place_text f.place ++ 10 ∷ []))))

-- the outcome of a file that is refused; that it is opened itself isn't counted here
abbrev pub outcome_bad_file : Fault → Answer
outcome_bad_file f = refusal status.BadProtoFile (bad_file_line f) 0

-- the outcome by what the file is read as, where it has one for each list of types
abbrev pub outcome_of_file : FileReading → (List TypeShape → Answer) → Answer
outcome_of_file (bad_file f) go = outcome_bad_file f
outcome_of_file (with_types types) go = go types

-- the answer, where the file of this name was opened before, if there is one
abbrev pub after_file : Option (List ℕ) → Answer → Answer
after_file None answer = answer
after_file (Some name) answer = record answer { opens = suc answer.opens }
