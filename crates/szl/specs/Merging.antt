-- What merging saved files comes to.
use Rattle.std.specs.Prelude.{◌≡◌, ℕ, suc, ◌^◌, ◌<◌, ◌≤◌, ◌⊎◌, ⊤, Bool, true, false, List, [], ◌∷◌, ◌++◌, length, Option, IfSome}
use Rattle.sz_save_format.specs.Saved.{SavedState, saved_bytes}
use Rattle.sz_print.specs.Tables.{lists_text}
use Rattle.sz_merge.specs.declared.error.MergeError.TheVariants.{BadTables, OtherTables, TablesLimit}
use Rattle.sz_merge.specs.Together.{AreTogether}
use Rattle.sz_merge.specs.Files.{Follows, IsStopped}
use Rattle.szl.specs.declared.status.Status.TheVariants as status
use Rattle.szl.specs.Answers.{Answer, success, refusal, limit_line, bad_tables_line, other_tables_line, tables_limit_line}

-- the most bytes of a saved file
abbrev pub most_saved_bytes : ℕ
most_saved_bytes = 2 ^ 40

-- how merging files ends: with what all of them are together, or at a file, by its number from 1, that has too many bytes, is no saved file,
-- has other declarations than the first, or with which the bounds together are too large
pub data Merged : Type 0 where
  together : SavedState → Merged
  too_long : (file : ℕ) → Merged
  bad : (file : ℕ) → Merged
  other : (file : ℕ) → Merged
  past : (file : ℕ) → Merged

-- a file of these bytes can be joined to those before it, as this state
abbrev pub IsJoined : List SavedState → List ℕ → SavedState → Type 0
IsJoined before bytes state = (length bytes ≤ most_saved_bytes) × Follows before bytes state

-- merging ends at the file with a number, which has these bytes; the causes are looked for in this order
abbrev pub EndsAt : ℕ → List SavedState → List ℕ → Merged → Type 0
EndsAt number before bytes (together all) = ⊥
EndsAt number before bytes (too_long file) = (file ≡ number) × (most_saved_bytes < length bytes)
EndsAt number before bytes (bad file) = (file ≡ number) × (length bytes ≤ most_saved_bytes) × IsStopped before bytes BadTables
EndsAt number before bytes (other file) = (file ≡ number) × (length bytes ≤ most_saved_bytes) × IsStopped before bytes OtherTables
EndsAt number before bytes (past file) = (file ≡ number) × (length bytes ≤ most_saved_bytes) × IsStopped before bytes TablesLimit

-- merging the files of these bytes, after those of the states before them, ends so: at the first file that can't be joined to those before
-- it, or with what all are together
abbrev pub MergesFrom : List SavedState → List (List ℕ) → Merged → Type 0
MergesFrom before [] (together all) = AreTogether before all
MergesFrom before [] end = ⊥
MergesFrom before (bytes ∷ files) end =
    EndsAt (suc (length before)) before bytes end ⊎ ((state : SavedState) × IsJoined before bytes state × MergesFrom (before ++ state ∷ []) files end)

-- merging the files of these bytes ends so
abbrev pub IsMerged : List (List ℕ) → Merged → Type 0
IsMerged files end = MergesFrom [] files end

-- the bytes of what is left, or its text
abbrev pub merged_output : Bool → SavedState → List ℕ
merged_output true all = saved_bytes all
merged_output false all = lists_text all.decls all.tables

-- the outcome of merging so many files
abbrev pub outcome_of_merge : ℕ → Bool → Merged → Answer
outcome_of_merge count save (together all) = record (success (merged_output save all)) { opens = count }
outcome_of_merge count save (too_long file) = refusal status.Limit (limit_line most_saved_bytes) file
outcome_of_merge count save (bad file) = refusal status.BadTables (bad_tables_line file) file
outcome_of_merge count save (other file) = refusal status.OtherTables (other_tables_line file) file
outcome_of_merge count save (past file) = refusal status.TablesLimit (tables_limit_line file) file

-- the bytes under each of these names are these, where they are told
abbrev pub AreBytesOf : (List ℕ → Option (List ℕ)) → List (List ℕ) → List (List ℕ) → Type 0
AreBytesOf held [] [] = ⊤
AreBytesOf held (name ∷ names) (bytes ∷ files) = IfSome (held name) (λ told. told ≡ bytes) × AreBytesOf held names files
AreBytesOf held _ _ = ⊥

-- merging the files ends in some way
pub record HasMerged (files : List (List ℕ)) : Type 0 where
  pub merged : Merged
  pub is : IsMerged files merged

-- merging 1 to 64 files ends in some way, whatever their bytes are
abbrev pub EveryListIsMerged : Type 0
EveryListIsMerged = (files : List (List ℕ)) → 1 ≤ length files → length files ≤ 64 → HasMerged files

-- and in one way only
abbrev pub IsMergedOnce : Type 0
IsMergedOnce = (files : List (List ℕ)) (first second : Merged) → IsMerged files first → IsMerged files second → first ≡ second
