-- The last bytes so far, or some of those that are left.
use Rattle.std.proofs.Common.{◌≡◌, [], drop}
use Rattle.sz_proto.specs.Payloads.{payloads}
use Rattle.sz_proto.specs.Elements.{last_or}
use Rattle.sz_proto.specs.Found.{contents}
use Rattle.sz_proto.proofs.singles.last_octets.Given as goal

abbrev pub invariant-loop-field : goal.invariant-loop-field
invariant-loop-field l =
    last_or l.last (payloads (contents l.bytes (drop l.field-index l.run)))
    ≡ last_or [] (payloads (contents l.bytes l.run))
