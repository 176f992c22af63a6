use Rattle.std.proofs.Common.{◌≡◌, ◌+◌, drop, false}
use Rattle.std.specs.Option.{option_map}
use Rattle.sz_protofile_lex.specs.Tokens.{comment_at}
use Rattle.sz_protofile_lex.proofs.item.comment_len.Given as goal

-- the bytes so far, and what is left of the comment, are the comment
abbrev pub invariant-loop-at : goal.invariant-loop-at
invariant-loop-at l = record {
  len : option_map (λ n. l.at + n) (comment_at l.star (drop l.at l.text)) ≡ comment_at false l.text;
}
