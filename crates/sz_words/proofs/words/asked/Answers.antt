-- An option at a time is added.
use Rattle.std.proofs.Common.{◌∙◌, ap}
use Rattle.clap.specs.Words.{app_of, with_rule}
use Rattle.sz_words.proofs.MatchLemmas.{one_added}
use Rattle.sz_words.proofs.words.asked.Goals as goal

pub loop-name-preserved : goal.loop-name-preserved
loop-name-preserved c =
    one_added _ c.loop-name.name-index _ c.loop-name-test.true (app_of c.loop-name.command)
    (app_of c.in_ok-command.command) _ (c.in_ok-command.ensures.shape c.option.ensures.global
    ∙ ap (with_rule (app_of c.loop-name.command)) c.option.ensures.value) c.loop-name.invariant
