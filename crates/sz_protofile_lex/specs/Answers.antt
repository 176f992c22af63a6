-- What a call answered, against what a text has.
use Rattle.std.specs.Prelude.{◌≡◌, Result, Ok, Err}
use Rattle.sz_types.specs.declared.place.Place.{Place}
use Rattle.sz_protofile_lex.specs.declared.error.LexError.{LexError}
use Rattle.sz_protofile_lex.specs.declared.error.LexError.TheVariants as errors

-- the answer, seen by view, is this value or this refused place, unless memory ran out
abbrev pub Gives : {X Y : Type 0} → (X → Y) → Result X LexError → Result Y Place → Type 0
Gives view (Ok x) read = read ≡ Ok (view x)
Gives view (Err errors.NoMemory) read = Unit {0}
Gives view (Err (errors.Refused p)) read = read ≡ Err p
