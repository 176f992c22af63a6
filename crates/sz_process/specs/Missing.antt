-- How a program ends that lacks a standard stream and can't open a folder in its place.
use Rattle.std.specs.Prelude.{ℕ, List, codes}
use Rattle.sz_process.specs.declared.streams.Stream.{Stream}
use Rattle.sz_process.specs.declared.streams.Stream.TheVariants.{Input, Output, Error}

-- the exit status, which is that of a read or a write of the stream that failed
abbrev pub missing_code : Stream → ℕ
missing_code Input = 5
missing_code Output = 6
missing_code Error = 6

-- the line on the error stream
abbrev pub missing_line : Stream → List ℕ
missing_line Input = codes "read failed\n"
missing_line Output = codes "write failed\n"
missing_line Error = codes "write failed\n"
