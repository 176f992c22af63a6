-- The text of the program that goes with generated files.
use Rattle.std.specs.Prelude.{ℕ, List, ◌++◌, codes}

-- the program, line by line
unfoldable pub program_text : List ℕ
program_text =
    codes "type Query = proto { country: string @ 1, hour: int @ 2, micros: int @ 3 };\n"
    ++ (codes "q: Query = input;\n"
    ++ (codes "queries: table sum[country: string] of int;\n"
    ++ (codes "slow: table maximum(3) of string weight micros: int;\n"
    ++ (codes "hours: table set(24) of int;\n"
    ++ (codes "emit queries[q.country] <- 1;\n"
    ++ (codes "emit slow <- q.country weight q.micros;\n"
    ++ codes "emit hours <- q.hour;\n"))))))
