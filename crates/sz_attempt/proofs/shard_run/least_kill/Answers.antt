use Rattle.std.proofs.Common.{◌∙◌, sym, ap, take, get_or}
use Rattle.std.proofs.lemmas.List.{take_more}
use Rattle.sz_words.specs.declared.settings.Kill.{Kill}
use Rattle.sz_attempt.specs.Attempts.{kills_of, least_of}
use Rattle.sz_attempt.specs.ShardRuns.{least_with}
use Rattle.sz_attempt.proofs.ListedLemmas.{kills_more}
use Rattle.sz_attempt.proofs.shard_run.least_kill.Goals as goal

-- one kill more
pub loop-kill-preserved : goal.loop-kill-preserved
loop-kill-preserved c =
    let kills = c.args.kills.now in
    let i = c.loop-kill.kill-index in
    let none : Kill = record { shard = 0; number = 0; after = 0 } in
    c.least_with-least.ensures.value
    ∙ ap (least_with c.args.shard_no c.args.number (get_or kills i none)) c.loop-kill.invariant
    ∙ sym (kills_more c.args.shard_no c.args.number (take i kills) (get_or kills i none))
    ∙ ap (λ ks. least_of (kills_of c.args.shard_no c.args.number ks))
    (sym (take_more kills i none c.loop-kill-test.true))
