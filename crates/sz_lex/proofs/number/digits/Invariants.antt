use Rattle.std.proofs.Common.{◌≡◌, ◌<◌, ◌^◌, drop}
use Rattle.sz_lex.specs.Numbers.{digits_from, below}
use Rattle.sz_lex.proofs.number.digits.Given as goal

-- the digits that are left, written after the number so far, give what all give
abbrev pub invariant-loop-byte : goal.invariant-loop-byte
invariant-loop-byte l = record {
  number : below (2 ^ 64) (digits_from l.base l.number (drop l.byte-index l.run))
      ≡ below (2 ^ 64) (digits_from l.base 0 l.run);
  fits : l.number < 2 ^ 64;
}
