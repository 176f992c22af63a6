-- The flags and the other words so far, with those among the words that are left, are all that there are.
use Rattle.std.proofs.Common.{◌≡◌, ◌++◌, map, drop}
use Rattle.std.specs.Prelude.{string_bytes}
use Rattle.sz_words.specs.Flags.{flags_from, flags_in, plain_from, plain_words}
use Rattle.sz_words.proofs.flags.flags_apart.Given as goal

abbrev pub invariant-loop-word : goal.invariant-loop-word
invariant-loop-word l =
    (l.flags.items ++ flags_from l.at (map string_bytes (drop l.word-index l.words))
    ≡ flags_in (map string_bytes l.words)) × (map string_bytes l.plain.items
    ++ plain_from l.at (map string_bytes (drop l.word-index l.words)) ≡ plain_words (map string_bytes l.words))
