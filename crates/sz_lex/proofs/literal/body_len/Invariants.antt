use Rattle.std.proofs.Common.{◌≡◌, ◌+◌, ◌-◌, ◌≤◌, length, drop}
use Rattle.std.specs.Option.{option_map}
use Rattle.sz_lex.specs.Reading.{body_at}
use Rattle.sz_lex.proofs.literal.body_len.Given as goal

-- what is left of the body, after the bytes so far, is the body
abbrev pub invariant-loop-plain : goal.invariant-loop-plain
invariant-loop-plain l = record {
  within : l.at ≤ length l.text;
  len : option_map (λ b. l.at + b.len) (body_at l.quoted 0 (drop l.at l.text))
      ≡ option_map (λ b. b.len) (body_at l.quoted 0 l.text);
}

abbrev pub decreases-loop-plain : goal.decreases-loop-plain
decreases-loop-plain l = length l.text - l.at
