-- Both steps together.
use Rattle.std.proofs.Common.{◌∷◌, []}
use Rattle.sz_save.proofs.PassingLemmas.{goes_further}
use Rattle.sz_save.proofs.walk.join_entry.Goals as goal

pub returns-clause-value : goal.returns-clause-value
returns-clause-value c =
    goes_further c.args.kind c.args.limit (c.args.entry ∷ [])
    (c.args.entry ∷ []) [] c.args.walk.joined c.args.walk.left.items c.in_ok-passed.passed.joined
    c.in_ok-passed.passed.left.items c.in_ok-now.now.joined c.in_ok-now.now.left.items c.in_ok-passed.ensures.value
    c.in_ok-now.ensures.value
