-- Which words of a command line name a file.
use Rattle.std.specs.Prelude.{ℕ, List, length, Bool, not, ◌&&◌, ◌==◌, nat_lt, slice_index_or}

-- whether a word begins with `-` and goes on
abbrev pub is_dashed : List ℕ → Bool
is_dashed word = nat_lt 1 (length word) && (slice_index_or word 0 0 == 45)

-- whether a word names a file: it isn't empty, and doesn't begin with `-` unless it is `-`, which is standard input
abbrev pub is_file_name : List ℕ → Bool
is_file_name word = nat_lt 0 (length word) && not (is_dashed word)
