-- Those so far were spelled.
use Rattle.std.proofs.Common.{take}
use Rattle.std.specs.List.{AllByRecursion}
use Rattle.sz_save.specs.Spelled.{IsSpelledRow}
use Rattle.sz_save.proofs.spelled.spell_rows.Given as goal

abbrev pub invariant-loop-row : goal.invariant-loop-row
invariant-loop-row l = AllByRecursion IsSpelledRow (take l.row-index l.rows)
