use Rattle.std.proofs.Common.{◌≡◌, to_z, of_z, w32, w64, rules}
use Rattle.sz_proto.proofs.PackedLemmas.{fixed_element}
use Rattle.sz_proto.proofs.packed.packed_at.Goals as goal

pub returns-in-Ok-clause-some : goal.returns-in-Ok-clause-some
returns-in-Ok-clause-some c =
    let back : to_z w64 (of_z w64 c.from_four.result) ≡ c.from_four.result = search rules in
    rw (c.in-Fixed32.is, back)
    (fixed_element w32 c.args.bytes.now c.rest.result.now c.args.at c.in-Ok.number 4 c.from_four.result c.rest.ensures
    c.in-Ok.ensures.found c.from_four.ensures.value)

pub returns-in-Ok-eight_bytes-clause-some : goal.returns-in-Ok-eight_bytes-clause-some
returns-in-Ok-eight_bytes-clause-some c =
    let back : to_z w64 (of_z w64 c.from_eight.result) ≡ c.from_eight.result = search rules in
    rw (c.in-Fixed64.is, back) (fixed_element w64 c.args.bytes.now c.rest-in-Fixed64.result.now c.args.at
    c.in-Ok-eight_bytes.number 8 c.from_eight.result c.rest-in-Fixed64.ensures
    c.in-Ok-eight_bytes.ensures.found c.from_eight.ensures.value)
