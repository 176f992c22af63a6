-- The options still to come decide.
use Rattle.std.proofs.Common.{◌≡◌, drop, length, map}
use Rattle.std.specs.Prelude.{nat_le}
use Rattle.std.specs.List.{list_all}
use Rattle.sz_words.specs.Matches.{values_in}
use Rattle.sz_words.proofs.words.stand_at_most.Given as goal

abbrev pub invariant-loop-name : goal.invariant-loop-name
invariant-loop-name l =
    list_all (λ name. nat_le (length (values_in l.matches name)) l.most) (map (λ n. n.now) (drop l.name-index l.names))
    ≡ list_all (λ name. nat_le (length (values_in l.matches name)) l.most) (map (λ n. n.now) l.names)
