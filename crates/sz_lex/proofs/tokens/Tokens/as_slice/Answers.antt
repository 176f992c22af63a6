use Rattle.sz_lex.proofs.KeptLemmas.{kept}
use Rattle.sz_lex.proofs.tokens.Tokens.as_slice.Goals as goal

pub returns-clause-read : goal.returns-clause-read
returns-clause-read c =
    rw (← c.self.view_is) (kept c.self.inside.text.items c.self.inside.tokens.items c.self.invariant)
