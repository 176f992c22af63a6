-- What the rows show and their type are texts.
use denote.Text.{Utf8}
use denote.Shadow.{shadow}
use Rattle.sz_base_tests.proofs.rows.holds.Given as goal

abbrev pub invariant-loop-line : goal.invariant-loop-line
invariant-loop-line g l =
    (goal.iterator-loop-line g).can_next l.line-iterator
    × (goal.iterator-loop-line g).is_finite l.line-iterator
    × (shadow (Utf8 l.shown) × shadow (Utf8 l.type_text))
