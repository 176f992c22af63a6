-- The texts so far, with the names still to come, are all names.
use Rattle.std.proofs.Common.{◌≡◌, ◌++◌, drop, map}
use Rattle.sz_words.proofs.files.texts_of.Given as goal

abbrev pub invariant-loop-name : goal.invariant-loop-name
invariant-loop-name l = l.texts ++ map (λ n. n.now) (drop l.name-index l.names) ≡ map (λ n. n.now) l.names
