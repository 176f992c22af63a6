use Rattle.std.proofs.Common.{◌∙◌}
use Rattle.sz_records.proofs.StandingLemmas.{first_newline}
use Rattle.sz_records.proofs.record_at.line_len.Goals as goal

pub returns-clause-value : goal.returns-clause-value
returns-clause-value c = c.unwrap_or.ensures ∙ first_newline c.args.bytes.now c.memchr.result c.memchr.ensures
