-- What is put is trimmed.
use Rattle.std.proofs.Common.{◌++◌, ◌+◌, arith}
use Rattle.std.specs.BinaryHeap.{heap_items}
use Rattle.sz_extreme.proofs.HeapLemmas.{ranks, all_more, kept_of_kept}
use Rattle.sz_tabs.proofs.ForCallers.{surely}
use Rattle.sz_extreme.proofs.heap.put_all.Goals as goal

pub returns : goal.returns
returns c =
    let old = heap_items c.args.heap.now in
    let others = heap_items c.args.others.now in
    let now = heap_items c.append.new.self in
    let moved = surely c.append.result (c.append.ensures.succeeds c.requires.room) c.append.ensures.permutation in
    record {
      heap = c.trim.ensures.heap;
      few = c.trim.ensures.few;
      value = kept_of_kept c.args.limit (ranks old ++ ranks others) (ranks now) (ranks (heap_items c.trim.new.heap))
          (all_more c.args.limit old others now moved) c.trim.ensures.value;
      capacity = omega (arith, c.append.ensures.capacity, c.trim.ensures.capacity);
    }
