-- What is popped is the worst, whichever kind of value it is.
use Rattle.std.proofs.Common.{◌<◌, length, rules, arith}
use Rattle.std.specs.BinaryHeap.{heap_items, heap_len, heap_capacity}
use Rattle.sz_extreme.proofs.HeapLemmas.{one_popped}
use Rattle.sz_extreme.proofs.heap.trim.Goals as goal

pub loop-heap-preserved-in-loop-heap : goal.loop-heap-preserved-in-loop-heap
loop-heap-preserved-in-loop-heap c =
    let less : c.args.limit < heap_len c.loop-heap.heap = omega (arith, c.loop-heap-test.true) in
    let more : c.args.limit < length (heap_items c.loop-heap.heap) = search rules in
    one_popped c.args.limit (heap_len c.loop-heap.heap) (heap_capacity c.loop-heap.heap)
    (heap_capacity c.args.heap.now) (heap_capacity c.pop.new.self)
    (heap_items c.args.heap.now) (heap_items c.loop-heap.heap) (heap_items c.pop.new.self) c.pop.result less more
    c.pop.ensures.variant.1 c.pop.ensures.heap_order c.pop.ensures.permutation c.pop.ensures.below_top
    c.pop.ensures.capacity c.loop-heap.invariant
