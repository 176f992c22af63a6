use Rattle.std.proofs.Common.{◌∙◌}
use Rattle.memchr.specs.Find.{is_byte}
use Rattle.sz_lex.proofs.SearchLemmas.{first_passes}
use Rattle.sz_lex.proofs.item.line_len.Goals as goal

pub returns-clause-value : goal.returns-clause-value
returns-clause-value c =
    c.unwrap_or.ensures ∙ first_passes (is_byte 10) c.args.text.now c.memchr.result c.memchr.ensures
