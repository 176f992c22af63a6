use Rattle.std.proofs.Common.{◌≡◌, ◌≤◌, ◌^◌, drop}
use Rattle.sz_protofile.specs.Reading.{digits_from}
use Rattle.sz_protofile.proofs.number.digits.Given as goal

-- the digits that are left, after the number so far, give what all give
abbrev pub invariant-loop-byte : goal.invariant-loop-byte
invariant-loop-byte l = record {
  number : digits_from l.base l.number (drop l.byte-index l.run) ≡ digits_from l.base 0 l.run;
  most : l.number ≤ 2 ^ 29;
}
