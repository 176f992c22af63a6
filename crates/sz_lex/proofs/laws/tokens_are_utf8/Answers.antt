use Rattle.sz_lex.proofs.Utf8Lemmas.{lexemes_are_utf8, strings_are_utf8}
use Rattle.sz_lex.proofs.laws.tokens_are_utf8.Goals as goal

pub returns : goal.returns
returns c = record { lexemes = lexemes_are_utf8; strings = strings_are_utf8 }
