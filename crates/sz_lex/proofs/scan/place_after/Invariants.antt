use Rattle.std.proofs.Common.{◌≡◌, ◌+◌, ◌≤◌, drop}
use Rattle.sz_lex.specs.Tokens.{later, first_place}
use Rattle.sz_lex.proofs.scan.place_after.Given as goal

-- the place after the bytes so far
abbrev pub invariant-loop-byte : goal.invariant-loop-byte
invariant-loop-byte l = record {
  place : later (drop l.byte-index l.front) l.place ≡ later l.front first_place;
  line : l.place.line ≤ l.byte-index + 1;
  column : l.place.column ≤ l.byte-index + 1;
}
