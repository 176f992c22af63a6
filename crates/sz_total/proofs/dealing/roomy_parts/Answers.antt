-- Each turn makes one part.
use Rattle.sz_total.proofs.CountingLemmas.{roomy_more}
use Rattle.sz_total.proofs.dealing.roomy_parts.Goals as goal

pub loop-at-preserved : goal.loop-at-preserved
loop-at-preserved c =
    roomy_more c.loop-at.at c.counted-counts.result c.loop-at.parts.items c.push.new.self.items
    c.in_ok-with_room.field-0 c.in_ok-push.ensures.items c.in_ok-with_room.ensures.value c.loop-at.invariant
