-- The bytes of a generated file: records of one message each, drawn from a seed.
use Rattle.std.specs.Prelude.{ℕ, zero, suc, ◌+◌, ◌*◌, ◌%◌, ◌/◌, List, [], ◌∷◌, ◌++◌, length, nat_eq, nat_lt, if◌then◌else◌, codes}

-- the draw that follows a draw
abbrev pub next : ℕ → ℕ
next x = (75 * x + 74) % 65537

-- a number below 2 ^ 14 as a varint in its shortest form: seven bits a byte, the low ones first
abbrev pub varint : ℕ → List ℕ
varint n = if nat_lt n 128 then n ∷ [] else (n % 128 + 128) ∷ n / 128 ∷ []

-- the four countries, counted from 0
abbrev pub country : ℕ → List ℕ
country n =
    if nat_eq n 0 then codes "de" else
    if nat_eq n 1 then codes "fr" else
    if nat_eq n 2 then codes "jp" else codes "us"

-- the record of three draws: one in seven is no message, the others have a country, an hour and a number of
-- microseconds
abbrev pub record_of : (a b c : ℕ) → List ℕ
record_of a b c =
    if nat_eq (a % 7) 0 then 8 ∷ []
    else (10 ∷ 2 ∷ country (a % 4)) ++ ((16 ∷ varint (b % 24)) ++ (24 ∷ varint (c % 1000)))

-- a record with its length before it
abbrev pub framed : List ℕ → List ℕ
framed bytes = varint (length bytes) ++ bytes

-- this many records from the draws that follow one
abbrev pub records_after : ℕ → ℕ → List ℕ
records_after x zero = []
records_after x (suc n) =
    let a = next x in
    let b = next a in
    let c = next b in
    framed (record_of a b c) ++ records_after c n

-- the file of a seed, of this many records
abbrev pub file_of : ℕ → ℕ → List ℕ
file_of seed records = records_after (seed % 65536) records
