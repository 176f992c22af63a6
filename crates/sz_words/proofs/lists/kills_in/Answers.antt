-- The last entry decides.
use Rattle.std.proofs.Common.{◌∙◌, sym, ap, []}
use Rattle.std.proofs.lemmas.Result.{err_from_is_err_and}
use Rattle.sz_words.specs.Lists.{kills_with}
use Rattle.sz_words.proofs.lists.kills_in.Goals as goal

pub returns-in_err-add_kill-2-clause-usage : goal.returns-in_err-add_kill-2-clause-usage
returns-in_err-add_kill-2-clause-usage c =
    let p = err_from_is_err_and c.from_residual-in_err-add_kill-2.result c.from_residual-in_err-add_kill-2.ensures.1 in
    rw p.1 (λ is. sym c.loop-entry.invariant ∙ ap (kills_with c.loop-entry.kills) c.in_default.ensures.pieces
    ∙ c.in_err-add_kill-2.ensures.usage (sym p.2 ∙ is) [])

pub returns-clause-value : goal.returns-clause-value
returns-clause-value c =
    sym c.loop-entry.invariant ∙ ap (kills_with _) c.in_default.ensures.pieces ∙ c.in_ok-add_kill-2.ensures.value []
