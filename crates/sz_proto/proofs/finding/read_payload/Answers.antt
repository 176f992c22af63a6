use Rattle.std.proofs.Common.{◌≡◌, ◌<◌, ◌≤◌, length, take, drop, ap, Ok, Some}
use Rattle.sz_wire.specs.Field.{field_at, field_in, LiesBefore}
use Rattle.sz_proto.proofs.ReadingLemmas.{starts_reading, reads_more, read_all, read_none, front_end, not_at_end}
use Rattle.sz_proto.proofs.finding.read_payload.Goals as goal

pub loop-field-init : goal.loop-field-init
loop-field-init c = starts_reading c.args.bytes.now c.args.depth c.args.from c.args.to c.args.into.now.items
    c.requires.order c.requires.place c.requires.within

pub loop-field-preserved : goal.loop-field-preserved
loop-field-preserved c =
    let at = c.in-Ok-Some.field-0-is in
    let forward : c.loop-field.at < c.in-Ok-Some.field.next = rw at at c.in-Ok-Some.ensures.forward in
    let within : c.in-Ok-Some.field.next ≤ length (take c.args.to c.args.bytes.now) =
    rw at at c.in-Ok-Some.ensures.within in
    let placed : LiesBefore c.in-Ok-Some.field.next c.in-Ok-Some.field.kind = rw at at c.in-Ok-Some.ensures.placed in
    let found : field_at c.args.depth (drop c.loop-field.at (take c.args.to c.args.bytes.now))
    ≡ Some (
      field_in (take c.args.to c.args.bytes.now) c.in-Ok-Some.field,
      drop c.in-Ok-Some.field.next (take c.args.to c.args.bytes.now),
    ) =
    rw at at c.in-Ok-Some.ensures.found in
    rw c.in_ok-push-in-Ok-Some.ensures.items
    (reads_more c.args.bytes.now c.args.depth c.args.from c.args.to c.loop-field.at c.args.into.now.items
    c.loop-field.into.items c.in-Ok-Some.field c.requires.place c.loop-field.invariant forward within placed found)

pub returns-in-Ok-None-clause-read : goal.returns-in-Ok-None-clause-read
returns-in-Ok-None-clause-read c =
    read_all c.args.bytes.now c.args.depth c.args.from c.args.to c.loop-field.at c.args.into.now.items
    c.loop-field.into.items c.requires.place c.loop-field.invariant
    (front_end c.args.bytes.now c.args.to c.loop-field.at c.requires.place
    (c.in-Ok-None.ensures.none.0 (ap Ok c.in-Ok-None.field-0-is)))

pub returns-in-Err-clause-read : goal.returns-in-Err-clause-read
returns-in-Err-clause-read c =
    read_none c.args.bytes.now c.args.depth c.args.from c.args.to c.loop-field.at c.args.into.now.items
    c.loop-field.into.items c.requires.place c.loop-field.invariant
    (not_at_end c.args.bytes.now c.args.to c.loop-field.at c.requires.place c.loop-field.invariant.place
    (λ end. absurd (let e = c.in-Err.ensures.none.1 end in cc))) c.in-Err.ensures.bad
