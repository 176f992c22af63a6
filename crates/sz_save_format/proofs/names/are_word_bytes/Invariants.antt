-- Those from here on may stand in a name exactly where all may.
use Rattle.std.proofs.Common.{◌≡◌, drop}
use Rattle.sz_lex.specs.Tokens.{all_word}
use Rattle.sz_save_format.proofs.names.are_word_bytes.Given as goal

abbrev pub invariant-loop-byte : goal.invariant-loop-byte
invariant-loop-byte l = all_word (drop l.byte-index l.bytes) ≡ all_word l.bytes
