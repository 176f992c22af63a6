use Rattle.std.proofs.Common.{arith, sym, subst}
use Rattle.std.proofs.lemmas.Option.{get_or_from_slice_get}
use Rattle.sz_book_rules.specs.Machine.{IsDrawn}
use Rattle.sz_book.specs.Cores.{CoreData}
use Rattle.sz_book.proofs.TakingLemmas.{number_none, number_some}
use Rattle.sz_book.proofs.machine.Core.number.Goals as goal

pub returns-then-number-attempts : goal.returns-then-number-attempts
returns-then-number-attempts c =
    let drawn = subst (λ (d : CoreData). IsDrawn d.plan d.state c.args.claim.now) (sym c.self.view_is) c.requires in
    let given = get_or_from_slice_get c.self.inside.given c.args.claim.now.shard c.get-number.result.now 0
    c.get-number.ensures.value in
    let most = c.attempts.ensures.value in
    let all = c.if-number-attempts.true in
    rw (← c.self.view_is) (number_none _ c.args.claim.now drawn (omega arith))

pub returns : goal.returns
returns c =
    let drawn = subst (λ (d : CoreData). IsDrawn d.plan d.state c.args.claim.now) (sym c.self.view_is) c.requires in
    let given = get_or_from_slice_get c.self.inside.given c.args.claim.now.shard c.get-number.result.now 0
    c.get-number.ensures.value in
    let most = c.attempts.ensures.value in
    let low = c.if-number-attempts.false in
    rw (← c.self.view_is) (number_some _ c.args.claim.now c.get-number.result.now c.set.new.self drawn given
    (omega arith) c.set.ensures.value)
