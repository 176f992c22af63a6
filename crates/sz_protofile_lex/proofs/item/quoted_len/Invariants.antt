use Rattle.std.proofs.Common.{◌≡◌, ◌+◌, drop, false}
use Rattle.std.specs.Option.{option_map}
use Rattle.sz_protofile_lex.specs.Tokens.{quoted_at}
use Rattle.sz_protofile_lex.proofs.item.quoted_len.Given as goal

-- the bytes so far, and what is left of the string, are the string
abbrev pub invariant-loop-at : goal.invariant-loop-at
invariant-loop-at l = record {
  len : option_map (λ n. l.at + n) (quoted_at l.quote l.escaped (drop l.at l.text)) ≡ quoted_at l.quote false l.text;
}
