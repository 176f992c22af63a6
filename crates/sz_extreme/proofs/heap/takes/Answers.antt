-- What isn't before the worst is passed over.
use Rattle.std.proofs.Common.{◌∙◌, ◌≤◌, length, sym, ap, rules, is_lt}
use Rattle.std.specs.Int.{w64}
use Rattle.std.specs.BinaryHeap.{heap_items}
use Rattle.std.proofs.lemmas.Int.{to_z-of_z}
use Rattle.sz_value.specs.Seen.{seen}
use Rattle.sz_extreme.specs.Ranks.{by_rank, seen_rank}
use Rattle.sz_extreme.proofs.HeapLemmas.{passed_over}
use Rattle.sz_extreme.proofs.heap.takes.Goals as goal

pub returns-in-Some : goal.returns-in-Some
returns-in-Some c =
    let items = heap_items c.args.heap.now in
    let again = to_z-of_z w64 c.args.rank c.ranges.rank in
    let long : c.args.limit ≤ length items = search rules in
    record {
      not = λ no.
          passed_over c.args.limit items c.in-Some.worst.now (c.args.rank, seen c.args.value.now) long
          (c.in-Some.ensures.greatest c.requires.heap)
          (sym (ap (λ n. is_lt (by_rank (n, seen c.args.value.now) (seen_rank c.in-Some.worst.now))) again)
          ∙ sym c.is_before.ensures.value ∙ no);
    }
