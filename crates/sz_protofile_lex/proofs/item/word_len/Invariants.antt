use Rattle.std.proofs.Common.{length, drop, ◌-◌, ◌+◌, ◌≤◌, ◌≡◌}
use Rattle.std.specs.List.{prefix_len}
use Rattle.sz_protofile_lex.specs.Tokens.{in_word}
use Rattle.sz_protofile_lex.proofs.item.word_len.Given as goal

-- the bytes so far are of a word
abbrev pub invariant-loop-len : goal.invariant-loop-len
invariant-loop-len l = record {
  within : l.len ≤ length l.text;
  words : l.len + prefix_len in_word (drop l.len l.text) ≡ prefix_len in_word l.text;
}

abbrev pub decreases-loop-len : goal.decreases-loop-len
decreases-loop-len l = length l.text - l.len
