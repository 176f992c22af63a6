-- An option at a time is counted.
use Rattle.std.proofs.Common.{◌∙◌}
use Rattle.sz_words.specs.Matches.{values_in}
use Rattle.sz_words.proofs.MatchLemmas.{one_fits}
use Rattle.sz_words.proofs.words.stand_at_most.Goals as goal

pub loop-name-preserved : goal.loop-name-preserved
loop-name-preserved c =
    one_fits (values_in c.args.matches.now) c.args.most _ c.loop-name.name-index _ c.loop-name-test.true _
    c.count.ensures.value c.if-count-most.false ∙ c.loop-name.invariant
