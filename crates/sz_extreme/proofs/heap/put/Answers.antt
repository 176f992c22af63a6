-- What is put is trimmed.
use Rattle.std.proofs.Common.{◌++◌, ◌∷◌, [], ◌+◌, arith}
use Rattle.std.specs.BinaryHeap.{heap_items}
use Rattle.sz_extreme.specs.Ranks.{seen_rank}
use Rattle.sz_extreme.proofs.HeapLemmas.{ranks, one_more, kept_of_kept}
use Rattle.sz_tabs.proofs.ForCallers.{surely}
use Rattle.sz_extreme.proofs.heap.put.Goals as goal

pub returns : goal.returns
returns c =
    let old = heap_items c.args.heap.now in
    let now = heap_items c.push.new.self in
    let moved = surely c.push.result (c.push.ensures.succeeds c.requires.room) c.push.ensures.permutation in
    record {
      heap = c.trim.ensures.heap;
      few = c.trim.ensures.few;
      value = kept_of_kept c.args.limit (ranks old ++ seen_rank c.args.ranked ∷ []) (ranks now)
          (ranks (heap_items c.trim.new.heap))
          (one_more c.args.limit old now c.args.ranked moved) c.trim.ensures.value;
      capacity = omega (arith, c.push.ensures.capacity, c.trim.ensures.capacity);
    }
