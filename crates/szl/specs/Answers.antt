-- What a call of the program answers, and the lines that say why there is no output.
use Rattle.std.specs.Prelude.{◌≡◌, ℕ, List, [], ◌∷◌, ◌++◌, slice_index_or, codes}
use Rattle.std.specs.Fmt.{decimal}
use Rattle.sz_refusals.specs.Lines.{place_text}
use Rattle.sz_world_rules.specs.World.{Fault}
use Rattle.szl.specs.declared.status.Status.{Status}
use Rattle.szl.specs.declared.status.Status.TheVariants as status

-- what a call of the program answers: its status, the bytes of its output, the line that names the cause, and how many of the files
-- that the words name it opens, if it names so many
pub record Answer : Type 0 where
  pub status : Status
  pub output : List ℕ
  pub line : List ℕ
  pub opens : ℕ

-- the lines of the causes that name no place of a program
abbrev pub usage_line : List ℕ
usage_line = codes "bad command line\n"

abbrev pub read_failed_line : List ℕ
read_failed_line = codes "read failed\n"

abbrev pub write_failed_line : List ℕ
write_failed_line = codes "write failed\n"

abbrev pub no_memory_line : List ℕ
no_memory_line = codes "out of memory\n"

-- the lines of an input whose records don't end with it, by the byte at which the next one would begin
abbrev pub damaged_line : ℕ → List ℕ
damaged_line byte = codes "input damaged at byte " ++ (decimal byte ++ 10 ∷ [])

abbrev pub limit_line : ℕ → List ℕ
limit_line byte = codes "input limit at byte " ++ (decimal byte ++ 10 ∷ [])

-- the lines of a saved file, by its number among those that are joined, counted from 1: it holds no saved tables, its tables are declared
-- otherwise than those of the first file, or the bounds up to it pass the greatest one together
abbrev pub bad_tables_line : ℕ → List ℕ
bad_tables_line number = codes "bad tables in file " ++ (decimal number ++ 10 ∷ [])

abbrev pub other_tables_line : ℕ → List ℕ
other_tables_line number = codes "other tables in file " ++ (decimal number ++ 10 ∷ [])

abbrev pub tables_limit_line : ℕ → List ℕ
tables_limit_line number = codes "table limit in file " ++ (decimal number ++ 10 ∷ [])

-- the lines of a journal: it is that of another job, or it is damaged after the gate at a place, or its disk failed
abbrev pub other_job_line : List ℕ
other_job_line = codes "other job in journal\n"

abbrev pub journal_damaged_line : ℕ → List ℕ
journal_damaged_line gate = codes "journal damaged at byte " ++ (decimal gate ++ 10 ∷ [])

abbrev pub disk_failed_line : List ℕ
disk_failed_line = codes "disk failed\n"

-- the line of a shard that is lost
abbrev pub lost_line : ℕ → List ℕ
lost_line shard = codes "shard " ++ (decimal shard ++ codes " lost\n")

-- the texts of the faults, by their kinds from 1
abbrev pub fault_texts : List (List ℕ)
fault_texts =
    [] ∷ codes "undefined value used" ∷ codes "store outside the value" ∷ codes "calls too deep" ∷ codes "budget passed" ∷ []

-- the line of a fault in a record; that of a fault in a static names record 0
abbrev pub fault_line : ℕ → Fault → List ℕ
fault_line number fault =
    codes "record " ++ (decimal number ++ (codes ": " ++ (slice_index_or fault_texts fault.kind []
    ++ (codes " at " ++ (place_text fault.place ++ 10 ∷ [])))))

-- an answer of all the output
abbrev pub success : List ℕ → Answer
success output = record { status = status.Done; output = output; line = []; opens = 2 }

-- an answer without output, with the line that says why, after so many files
abbrev pub refusal : Status → List ℕ → ℕ → Answer
refusal status line opens = record { status = status; output = []; line = line; opens = opens }

-- the answer says what this one does, however many files are opened for it
abbrev pub Says : Answer → Answer → Type 0
Says answer told = answer ≡ record told { opens = answer.opens }
