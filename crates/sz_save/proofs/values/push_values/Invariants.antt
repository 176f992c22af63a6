-- The values of the rows so far were appended.
use Rattle.std.proofs.Common.{◌≡◌, ◌++◌, map, take}
use Rattle.sz_value.specs.Seen.{seen}
use Rattle.sz_save.specs.Joined.{values_shown}
use Rattle.sz_save.proofs.values.push_values.Given as goal

abbrev pub invariant-loop-row : goal.invariant-loop-row
invariant-loop-row l =
    map seen l.values.items ≡ map seen l.initial.values.items ++ values_shown (take l.row-index l.rows)
