-- The rounds have come as far as the last of them.
use Rattle.std.proofs.Common.{◌∙◌, sym, ap}
use Rattle.sz_journal.specs.Rounds.{last_progress}
use Rattle.sz_journal.specs.Logged.{logged}
use Rattle.sz_journal.proofs.FollowLemmas.{behind_one_more}
use Rattle.sz_journal.proofs.tail.Tail.move_behind.Goals as goal

pub invariant_of-self-clause-reached : goal.invariant_of-self-clause-reached
invariant_of-self-clause-reached c =
    c.after-self.ensures.value
    ∙ sym (ap (λ items. last_progress (logged items)) c.and-self.ensures ∙ behind_one_more c.args.self.now.log.items c.args.round.now _)
