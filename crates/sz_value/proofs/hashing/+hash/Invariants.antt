-- What is fed so far, and then what is ahead, is the whole.
use Rattle.std.proofs.Common.{◌≡◌, drop}
use Rattle.std.specs.List.{fold}
use Rattle.sz_value.proofs.HashLemmas.{list_writes, pairs_writes}
use Rattle.sz_value.proofs.hashing.+hash.Given as goal

abbrev pub invariant-feed_list-loop-value : goal.invariant-feed_list-loop-value
invariant-feed_list-loop-value g l =
    fold g.H.Hasher.write l.state (list_writes (drop l.value-index l.value-items))
    ≡ fold g.H.Hasher.write l.initial.state (list_writes l.value-items)

abbrev pub invariant-feed_pairs-loop-place : goal.invariant-feed_pairs-loop-place
invariant-feed_pairs-loop-place g l =
    fold g.H.Hasher.write l.state (pairs_writes (drop l.place l.pairs))
    ≡ fold g.H.Hasher.write l.initial.state (pairs_writes l.pairs)
