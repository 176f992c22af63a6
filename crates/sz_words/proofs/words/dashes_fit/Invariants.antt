-- The words still to come decide.
use Rattle.std.proofs.Common.{◌≡◌, drop, map, false}
use Rattle.std.specs.Prelude.{string_bytes}
use Rattle.sz_words.specs.Dashes.{dashes_fit}
use Rattle.sz_words.proofs.words.dashes_fit.Given as goal

abbrev pub invariant-loop-word : goal.invariant-loop-word
invariant-loop-word l =
    dashes_fit l.is_value (map string_bytes (drop l.word-index l.words)) ≡ dashes_fit false (map string_bytes l.words)
