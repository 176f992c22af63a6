-- What contracts see of records: their bytes lie in one list, and each ends where the next one begins. What lies
-- between two records in their file isn't kept.
use Rattle.std.specs.Prelude.{◌≡◌, ℕ, suc, ◌+◌, ◌-◌, ◌*◌, ◌^◌, ◌<◌, ◌≤◌, List, [], ◌∷◌, ◌++◌, length, take, drop, get_or}
use Rattle.std.specs.List.{slice_range}

-- What a contract sees of records: the bytes of each, and where each ends in its file. An end is the place just after
-- the record, a line's newline included, counted from the file's first byte as 0
pub record RecordsData : Type 0 where
  pub items : List (List ℕ)
  pub ends : List ℕ

-- no records
abbrev pub no_records : RecordsData
no_records = record { items = []; ends = [] }

-- one record more, which ends here
abbrev pub with_record : List ℕ → ℕ → RecordsData → RecordsData
with_record bytes end records = record { items = records.items ++ bytes ∷ []; ends = records.ends ++ end ∷ [] }

-- so many of them alone, from the front
abbrev pub first_of : ℕ → RecordsData → RecordsData
first_of count records = record { items = take count records.items; ends = take count records.ends }

-- those after so many
abbrev pub later_of : ℕ → RecordsData → RecordsData
later_of count records = record { items = drop count records.items; ends = drop count records.ends }

-- the records that end at these places of the bytes, of which the first one begins here
abbrev pub records_at : ℕ → List ℕ → List ℕ → List (List ℕ)
records_at from [] bytes = []
records_at from (end ∷ ends) bytes = slice_range bytes from end ∷ records_at end ends bytes

-- the ends rise from here on, and the last one is the end of so many bytes
abbrev pub AreEnds : ℕ → List ℕ → ℕ → Type 0
AreEnds from [] len = from ≡ len
AreEnds from (end ∷ ends) len = (from ≤ end) × AreEnds end ends len

-- Where records end in their file that end at these places of the buffer, after k others: the first of all begins at
-- byte `from`, each follows the one before, and takes so many bytes besides its own
abbrev pub laid_ends : ℕ → ℕ → ℕ → List ℕ → List ℕ
laid_ends from more k [] = []
laid_ends from more k (end ∷ ends) = (from + end + more * suc k) ∷ laid_ends from more (suc k) ends

-- where all records end in their file, if the places of the last ones are kept, and the ones before these are laid
abbrev pub file_ends : ℕ → ℕ → List ℕ → List ℕ → List ℕ
file_ends from more ends placed = laid_ends from more 0 (take (length ends - length placed) ends) ++ placed

-- the places are those of so many bytes, and the laid records end within 2^64
pub record AreKept (from more : ℕ) (ends placed : List ℕ) (len : ℕ) : Type 0 where
  pub order : AreEnds 0 ends len
  pub few : length placed ≤ length ends
  pub bound : from + get_or (0 ∷ ends) (length ends - length placed) 0 + more * (length ends - length placed) < 2 ^ 64
