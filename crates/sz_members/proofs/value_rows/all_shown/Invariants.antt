-- What is made, and what the values that are left show, are all that is shown.
use Rattle.std.proofs.Common.{◌≡◌, ◌++◌, map}
use Rattle.sz_members.specs.Repeats.{seen_repeated}
use Rattle.sz_members.specs.Showing.{shown_of, seen_ref}
use Rattle.sz_members.proofs.value_rows.all_shown.Given as goal

abbrev pub invariant-loop-value : goal.invariant-loop-value
invariant-loop-value l =
    map seen_ref l.made.items ++ shown_of l.kind (map seen_repeated l.value-iterator)
    ≡ shown_of l.kind (map seen_repeated l.tally.entries)
