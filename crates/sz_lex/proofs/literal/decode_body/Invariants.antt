use Rattle.std.proofs.Common.{◌-◌, ◌≤◌, length}
use Rattle.sz_lex.proofs.BodyLemmas.{IsDecoded}
use Rattle.sz_lex.proofs.literal.decode_body.Given as goal

-- what is left of the body, after the bytes so far and their value, is the body
abbrev pub invariant-loop-plain : goal.invariant-loop-plain
invariant-loop-plain l = record {
  within : l.at ≤ length l.body;
  decoded : IsDecoded l.quoted l.body l.at l.value.items;
}

abbrev pub decreases-loop-plain : goal.decreases-loop-plain
decreases-loop-plain l = length l.body - l.at
