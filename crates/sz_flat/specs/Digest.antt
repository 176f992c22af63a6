-- A short number of bytes, and of the list of values that they spell.
use Rattle.std.specs.Prelude.{ℕ, ◌+◌, ◌*◌, ◌/◌, ◌%◌, ◌^◌, List, fold}
use Rattle.sz_value.specs.Data.{Datum, data_of}
use Rattle.sz_flat.specs.Spelling.{spelled_parts}

-- the sum of so many bytes, with one more: both are mixed by a factor
abbrev pub mixed : ℕ → ℕ → ℕ
mixed sum byte = ((sum + byte) % 2 ^ 32) * 2654435769 % 2 ^ 32

-- the high 8 of the 32 bits of the sum of all bytes
abbrev pub digest : List ℕ → ℕ
digest bytes = fold mixed 0 bytes / 2 ^ 24

-- the same of the bytes that spell a list of values
abbrev pub list_digest : List Datum → ℕ
list_digest values = digest (spelled_parts (data_of values))
