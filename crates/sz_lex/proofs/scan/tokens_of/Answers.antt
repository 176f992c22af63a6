use Rattle.sz_lex.proofs.WholeLemmas.{given_tokens}
use Rattle.sz_lex.proofs.scan.tokens_of.Goals as goal

pub new-requires : goal.new-requires
new-requires c = record {
  utf8 = c.requires.utf8;
  tokens = given_tokens c.args.text.now c.in_ok-tokens.tokens.items c.in_ok-tokens.ensures;
}
