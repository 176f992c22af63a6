-- Those so far were spelled.
use Rattle.std.proofs.Common.{take}
use Rattle.std.specs.List.{AllByRecursion}
use Rattle.sz_save.specs.Spelled.{IsSpelledEntry}
use Rattle.sz_save.proofs.spelled.spell_each_entry.Given as goal

abbrev pub invariant-loop-entry : goal.invariant-loop-entry
invariant-loop-entry l = AllByRecursion IsSpelledEntry (take l.entry-index l.entries)
