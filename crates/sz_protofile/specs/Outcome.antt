-- What a function that reads returned, against what reading gives.
use Rattle.std.specs.Prelude.{◌≡◌, Option, Some, None, Result, Ok, Err}
use Rattle.sz_protofile.specs.declared.failed.Failed.{Failed}
use Rattle.sz_protofile.specs.declared.failed.Failed.TheVariants as failures
use Rattle.sz_protofile_lex.specs.declared.error.LexError.{LexError}
use Rattle.sz_protofile_lex.specs.declared.error.LexError.TheVariants as lexing
use Rattle.sz_protofile.specs.declared.error.FileError.{FileError}
use Rattle.sz_protofile.specs.declared.error.FileError.TheVariants as errors

-- nothing is read, unless memory ran out
abbrev pub Fails : {Y : Type 0} → Failed → Option Y → Type 0
Fails failures.Memory read = Unit {0}
Fails failures.Unfit read = read ≡ None

-- the result, seen by view, is what is read, unless memory ran out
abbrev pub Gives : {X Y : Type 0} → (X → Y) → Result X Failed → Option Y → Type 0
Gives view (Ok x) read = read ≡ Some (view x)
Gives view (Err e) read = Fails e read

-- the refusal of a file whose bytes have no tokens
abbrev pub refusal : LexError → FileError
refusal (lexing.Refused p) = errors.Syntax p
refusal lexing.NoMemory = errors.NoMemory
