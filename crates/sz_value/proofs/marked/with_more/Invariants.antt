-- What is kept so far are places of the text.
use Rattle.sz_value.specs.Characters.{AreMarks}
use Rattle.sz_value.proofs.marked.with_more.Given as goal

abbrev pub invariant-loop : goal.invariant-loop
invariant-loop l = AreMarks l.text l.places.items
