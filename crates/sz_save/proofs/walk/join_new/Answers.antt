-- One step of the walk, over the other side.
use Rattle.std.proofs.Common.{ap}
use Rattle.sz_total.specs.Tables.{Indexed}
use Rattle.sz_save.proofs.PassingLemmas.{here_other, last_is}
use Rattle.sz_save.proofs.walk.join_new.Goals as goal

pub returns-clause-value : goal.returns-clause-value
returns-clause-value c =
    here_other c.args.kind c.args.limit c.args.walk.joined c.args.walk.left.items c.push.new.self c.args.entry
    c.in_ok-both.both c.requires.past c.requires.other
    c.in_ok-both.ensures.value c.in_ok-both.ensures.few c.in_ok-push.ensures.ok

pub returns-clause-last : goal.returns-clause-last
returns-clause-last c =
    last_is c.args.walk.joined c.push.new.self c.in_ok-both.both c.args.entry c.in_ok-push.ensures.ok
    (ap (λ (e : Indexed). e.indexes) c.in_ok-both.ensures.value)
