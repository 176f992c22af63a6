-- Those so far were spelled.
use Rattle.std.proofs.Common.{map, take}
use Rattle.std.specs.List.{AllByRecursion}
use Rattle.sz_value.specs.Seen.{seen}
use Rattle.sz_save.specs.Spelled.{IsSpelled}
use Rattle.sz_save.proofs.spelled.spell_values.Given as goal

abbrev pub invariant-loop-value : goal.invariant-loop-value
invariant-loop-value l = AllByRecursion IsSpelled (map seen (take l.value-index l.values))
