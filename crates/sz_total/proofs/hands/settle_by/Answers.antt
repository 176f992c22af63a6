-- Parts may cross threads, and each call settles one.
use denote.Param.Send.{sendable}
use Rattle.std.proofs.Crossing.{crosses}
use Rattle.sz_total.proofs.SendLemmas.{part_send}
use Rattle.sz_total.proofs.RoomLemmas.{accepts_one}
use Rattle.sz_total.proofs.hands.settle_by.Goals as goal

pub for_each_mut-requires-send-T : goal.for_each_mut-requires-send-T
for_each_mut-requires-send-T g c κs within = search (sendable, crosses, part_send) depth 30

pub for_each_mut-requires-clause-accepts : goal.for_each_mut-requires-clause-accepts
for_each_mut-requires-clause-accepts g c κs within =
    λ i p less is. accepts_one c.args.parts.now.items _ (c.as_mut_slice.ensures.value) c.requires.may i p.now less is
