-- The law of entries behind gates.
use Rattle.std.specs.Prelude.{◌≡◌, ℕ, List}
use Rattle.sz_disk.specs.Entries.{Holds}

-- no bytes hold two lists of entries
abbrev pub IsOneList : Type 0
IsOneList = (bytes : List ℕ) (entries others : List (List ℕ)) → Holds entries bytes → Holds others bytes
    → entries ≡ others
