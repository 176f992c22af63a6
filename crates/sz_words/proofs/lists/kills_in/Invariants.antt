-- The entries still to come give with those before what all give.
use Rattle.std.proofs.Common.{◌≡◌, length}
use Rattle.sz_words.specs.Texts.{pieces}
use Rattle.sz_words.specs.Lists.{kills_with, kills_in}
use Rattle.sz_words.proofs.lists.kills_in.Given as goal

abbrev pub invariant-loop-entry : goal.invariant-loop-entry
invariant-loop-entry l = kills_with l.kills (pieces 44 l.rest) ≡ kills_in l.text

abbrev pub decreases-loop-entry : goal.decreases-loop-entry
decreases-loop-entry l = length l.rest
