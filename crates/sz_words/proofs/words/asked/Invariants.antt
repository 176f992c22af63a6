-- The options still to come are added to the command.
use Rattle.std.proofs.Common.{◌≡◌, drop, map}
use Rattle.clap.specs.Words.{app_of}
use Rattle.sz_words.specs.Asked.{asked_bare, with_options}
use Rattle.sz_words.proofs.words.asked.Given as goal

abbrev pub invariant-loop-name : goal.invariant-loop-name
invariant-loop-name l =
    with_options (app_of l.command) (map (λ n. n.now) (drop l.name-index l.name-items))
    ≡ with_options asked_bare (map (λ n. n.now) l.name-items)
