use Rattle.std.proofs.Common.{◌≡◌, drop}
use Rattle.sz_lex.specs.Tokens.{all_word}
use Rattle.sz_protofile.proofs.token.all_word.Given as goal

-- the bytes so far are those of words
abbrev pub invariant-loop-byte : goal.invariant-loop-byte
invariant-loop-byte l = record { word : all_word (drop l.byte-index l.bytes) ≡ all_word l.bytes }
