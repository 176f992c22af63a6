use Rattle.std.proofs.Common.{◌≡◌, ◌+◌, ◌≤◌, drop}
use Rattle.sz_protofile_lex.specs.Tokens.{tokens_from, tokens_of}
use Rattle.sz_protofile_lex.proofs.Turns.{with_front}
use Rattle.sz_protofile_lex.proofs.scan.lex.Given as goal

-- the tokens so far and those of the rest are those of all
abbrev pub invariant-loop-at : goal.invariant-loop-at
invariant-loop-at l = record {
  read : with_front l.tokens.items (tokens_from l.skip l.at l.place (drop l.at l.text)) ≡ tokens_of l.text;
  line : l.place.line ≤ l.at + 1;
  column : l.place.column ≤ l.at + 1;
}
