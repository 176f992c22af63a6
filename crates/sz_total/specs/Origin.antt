-- Where the rows of tables come from.
use Rattle.std.specs.Prelude.{List, All}
use Rattle.sz_tabs.specs.Data.{EmitDatum}
use Rattle.sz_tabs.specs.Fitting.{IsEmitTo}
use Rattle.sz_total.specs.Short.{HasShortParts}
use Rattle.sz_total.specs.States.{TotalState, declarations, emit_count, shown}
use Rattle.sz_total.specs.Totals.{StandsFor}

-- The tables stand for some list of emits, each of which goes to one of them, fits its declaration, and has short
-- lengths.
pub record ComesFromEmits (s : TotalState) : Type 0 where
  pub emits : List EmitDatum
  pub stands : StandsFor declarations emit_count shown s emits
  pub fit : All (IsEmitTo s.tables) emits
  pub short : All HasShortParts emits
