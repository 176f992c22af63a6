-- the places so far are written
use Rattle.std.proofs.Common.{◌≡◌, take}
use Rattle.szl_cut.specs.Answers.{places_text}
use Rattle.szl_cut.proofs.lines.places_text.Given as goal

abbrev pub invariant-loop-place : goal.invariant-loop-place
invariant-loop-place l = l.text.items ≡ places_text (take l.place-index l.places)
