use Rattle.std.proofs.Common.{◌∙◌, sym}
use Rattle.sz_book.proofs.UnplacedLemmas as unplaced
use Rattle.sz_book.proofs.machine.are_unplaced.Goals as goal

pub loop-i-preserved : goal.loop-i-preserved
loop-i-preserved c =
    let is = sym c.is_next.ensures.value ∙ c.if-not-is_next.false in
    unplaced.next_unplaced c.args.marks.now c.args.shards.now c.loop-i.i c.loop-i-test.true c.loop-i.invariant is

pub returns-then-not-is_next : goal.returns-then-not-is_next
returns-then-not-is_next c =
    let is = sym c.is_next.ensures.value ∙ c.if-not-is_next.true in
    let none = unplaced.not_unplaced c.args.marks.now c.args.shards.now c.loop-i.i c.loop-i-test.true is in
    record { value = (λ yes. absurd (cc yes), λ h. absurd (none h)) }
