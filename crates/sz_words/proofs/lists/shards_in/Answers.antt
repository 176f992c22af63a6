-- The last entry decides.
use Rattle.std.proofs.Common.{◌∙◌, sym, ap, []}
use Rattle.std.proofs.lemmas.Result.{err_from_is_err_and}
use Rattle.sz_words.specs.Lists.{shards_with}
use Rattle.sz_words.proofs.lists.shards_in.Goals as goal

pub returns-in_err-add_shard-2-clause-usage : goal.returns-in_err-add_shard-2-clause-usage
returns-in_err-add_shard-2-clause-usage c =
    let p =
    err_from_is_err_and c.from_residual-in_err-add_shard-2.result c.from_residual-in_err-add_shard-2.ensures.1 in
    rw p.1 (λ is. sym c.loop-entry.invariant ∙ ap (shards_with c.loop-entry.shards) c.in_default.ensures.pieces
    ∙ c.in_err-add_shard-2.ensures.usage (sym p.2 ∙ is) [])

pub returns-clause-value : goal.returns-clause-value
returns-clause-value c =
    sym c.loop-entry.invariant ∙ ap (shards_with _) c.in_default.ensures.pieces ∙ c.in_ok-add_shard-2.ensures.value []
