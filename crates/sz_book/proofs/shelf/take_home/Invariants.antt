use Rattle.std.proofs.Common.{◌≡◌, ◌+◌, ◌++◌, ◌≤◌, length, vec_len, vec_capacity}
use Rattle.std.specs.Vec.Iter.{into_iter_items, into_iter_len}
use Rattle.sz_book.specs.Books.{lanes_home}
use Rattle.sz_book.proofs.shelf.take_home.Given as goal

-- those of the homes so far were taken, and there is room for all lanes that are left
abbrev pub invariant-loop-home : goal.invariant-loop-home
invariant-loop-home g l = (l.yielded ++ into_iter_items l.home-iterator ≡ into_iter_items l.initial.home-iterator)
    × (l.lanes.items ≡ l.initial.lanes.items ++ lanes_home l.yielded)
    × (vec_len l.lanes + into_iter_len l.home-iterator ≤ vec_capacity l.lanes)
    × (into_iter_len l.home-iterator ≡ length (into_iter_items l.home-iterator))
