use Rattle.std.proofs.Common.{◌≡◌, [], drop}
use Rattle.sz_protofile.specs.Brackets.{past}
use Rattle.sz_protofile.proofs.brackets.past.Given as goal

-- what is left after the rest, with the brackets due so far, is what is left after all
abbrev pub invariant-loop-at : goal.invariant-loop-at
invariant-loop-at l = record { read : past l.ends l.due.items (drop l.at l.tokens) ≡ past l.ends [] l.tokens }
