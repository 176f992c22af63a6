use Rattle.std.proofs.Common.{◌≡◌, [], replicate}
use Rattle.sz_book.proofs.machine.empty_lists.Given as goal

abbrev pub invariant-loop : goal.invariant-loop
invariant-loop l = l.lists.items ≡ replicate l.counter (record { room = l.room; shards = [] })
