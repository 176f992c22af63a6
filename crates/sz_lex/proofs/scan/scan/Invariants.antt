use Rattle.std.proofs.Common.{◌≡◌, ◌+◌, ◌≤◌, drop}
use Rattle.sz_lex.specs.Tokens.{first_place}
use Rattle.sz_lex.specs.Reading.{lexed, with_front}
use Rattle.sz_lex.proofs.scan.scan.Given as goal

-- the tokens so far and those of the rest are those of all
abbrev pub invariant-loop-at : goal.invariant-loop-at
invariant-loop-at l = record {
  read : with_front l.tokens.items (lexed l.skip l.at l.place (drop l.at l.text)) ≡ lexed 0 0 first_place l.text;
  line : l.place.line ≤ l.at + 1;
  column : l.place.column ≤ l.at + 1;
}
