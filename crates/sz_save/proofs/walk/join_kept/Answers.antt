-- One step of the walk, over both sides.
use Rattle.std.proofs.Common.{◌∙◌, ◌∷◌, refl, ap}
use Rattle.sz_total.specs.Tables.{Indexed}
use Rattle.sz_save.proofs.RisingLemmas.{indexes_tie}
use Rattle.sz_save.proofs.PassingLemmas.{here_both, last_is}
use Rattle.sz_save.proofs.walk.join_kept.Goals as goal

pub returns-clause-value : goal.returns-clause-value
returns-clause-value c =
    here_both c.args.kind c.args.limit c.args.walk.joined (c.args.kept ∷ c.args.walk.left.items)
    c.args.walk.left.items c.push.new.self c.args.entry c.args.kept
    c.in_ok-both.both refl c.requires.tie c.in_ok-both.ensures.value c.in_ok-both.ensures.few c.in_ok-push.ensures.ok

pub returns-clause-last : goal.returns-clause-last
returns-clause-last c =
    last_is c.args.walk.joined c.push.new.self c.in_ok-both.both c.args.entry c.in_ok-push.ensures.ok
    (ap (λ (e : Indexed). e.indexes) c.in_ok-both.ensures.value
    ∙ indexes_tie c.args.kept.indexes c.args.entry.indexes c.requires.tie)
