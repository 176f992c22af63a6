-- Why parsing gave no tree.
use Rattle.sz_types.specs.declared.place.Place.{Place}
use Rattle.sz_parse.specs.declared.error.ParseError.{ParseError}
use Rattle.sz_parse.specs.declared.error.ParseError.TheVariants as errors

-- memory ran out, or this holds of the place
abbrev pub OrNoMemory : ParseError → (Place → Type 0) → Type 0
OrNoMemory errors.NoMemory P = Unit {0}
OrNoMemory (errors.Syntax p) P = P p
