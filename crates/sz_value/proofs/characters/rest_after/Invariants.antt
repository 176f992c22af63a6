-- As many characters as rounds are passed.
use Rattle.std.specs.Str.Iter.{chars_rest}
use Rattle.sz_value.specs.Characters.{IsRestAfter}
use Rattle.sz_value.proofs.characters.rest_after.Given as goal

abbrev pub invariant-loop : goal.invariant-loop
invariant-loop l = IsRestAfter l.counter l.text (chars_rest l.rest)
