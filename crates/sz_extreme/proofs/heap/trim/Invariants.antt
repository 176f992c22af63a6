-- What is kept is a heap of the least of those at first.
use Rattle.std.proofs.Common.{◌≡◌, map}
use Rattle.std.specs.BinaryHeap.{IsHeap, heap_items, heap_len, heap_capacity}
use Rattle.sz_extreme.specs.Ranks.{rank_order, seen_rank, HoldsLeast}
use Rattle.sz_extreme.proofs.heap.trim.Given as goal

abbrev pub invariant-loop-heap : goal.invariant-loop-heap
invariant-loop-heap l =
    IsHeap rank_order (heap_items l.heap)
    × HoldsLeast l.limit (map seen_rank (heap_items l.initial.heap)) (map seen_rank (heap_items l.heap))
    × (heap_capacity l.heap ≡ heap_capacity l.initial.heap)

abbrev pub decreases-loop-heap : goal.decreases-loop-heap
decreases-loop-heap l = heap_len l.heap
