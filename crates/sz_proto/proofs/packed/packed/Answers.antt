use Rattle.std.proofs.Common.{rules, sym}
use Rattle.sz_proto.proofs.PackedLemmas.{unpacks_more, unpacks_none, unpacked}
use Rattle.sz_proto.proofs.packed.packed.Goals as goal

pub loop-at-preserved : goal.loop-at-preserved
loop-at-preserved c =
    let h = unpacks_more c.args.code c.args.bytes.now c.loop-at.at c.in-Some.next c.loop-at.numbers.items
    c.in-Some.number c.loop-at.invariant c.loop-at-test.true
    c.in-Some.ensures.some c.in-Some.ensures.forward c.in-Some.ensures.within in
    rw c.in_ok-push-in-Some.ensures.items (search (rules, h))

pub returns-in-None : goal.returns-in-None
returns-in-None c = record {
  value = sym (unpacks_none c.args.code c.args.bytes.now c.loop-at.at c.loop-at.numbers.items c.loop-at.invariant
      c.loop-at-test.true c.in-None.ensures.none);
}

pub returns : goal.returns
returns c = record {
  value = sym (unpacked c.args.code c.args.bytes.now c.loop-at.at c.loop-at.numbers.items c.loop-at.invariant
      c.loop-at-test.false);
}
