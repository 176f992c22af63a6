-- The names still to come decide.
use Rattle.std.proofs.Common.{◌≡◌, drop, map}
use Rattle.sz_words.specs.Settings.{are_files}
use Rattle.sz_words.proofs.files.are_files.Given as goal

abbrev pub invariant-loop-name : goal.invariant-loop-name
invariant-loop-name l =
    are_files l.left (map (λ n. n.now) (drop l.name-index l.names)) ≡ are_files l.inputs (map (λ n. n.now) l.names)
