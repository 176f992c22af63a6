-- A digit at a time is read.
use Rattle.sz_types.proofs.NumeralLemmas.{ReadsDigits}
use Rattle.sz_types.proofs.numerals.digits_up_to.Given as goal

abbrev pub invariant-loop-byte : goal.invariant-loop-byte
invariant-loop-byte l = ReadsDigits l.text l.byte-index l.value l.most
