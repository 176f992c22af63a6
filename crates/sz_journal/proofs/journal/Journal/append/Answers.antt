-- The tail gains the round, and so do the rounds that are kept.
use Rattle.std.proofs.Common.{◌≡◌, ◌∙◌, slice_get, sym}
use Rattle.sz_journal.proofs.FollowLemmas.{at_end}
use Rattle.sz_journal.proofs.journal.Journal.append.Goals as goal

pub returns-then-is_err-clause-leaves : goal.returns-then-is_err-clause-leaves
returns-then-is_err-clause-leaves g c =
    let same : c.get.result.now ≡ c.args.round = at_end c.args.self.now.rounds c.args.round c.get.result.now
    (sym (λ i. slice_get (c.in_ok-push.ensures.ok i) (c.len-count.ensures.value i)) ∙ c.get.ensures.value) in
    rw same at c.append-written.ensures.leaves

pub returns-else-is_err-clause-ok : goal.returns-else-is_err-clause-ok
returns-else-is_err-clause-ok g c =
    let same : c.get.result.now ≡ c.args.round = at_end c.args.self.now.rounds c.args.round c.get.result.now
    (sym (λ i. slice_get (c.in_ok-push.ensures.ok i) (c.len-count.ensures.value i)) ∙ c.get.ensures.value) in
    rw same at c.append-written.ensures.ok

pub returns-else-is_err-clause-leaves : goal.returns-else-is_err-clause-leaves
returns-else-is_err-clause-leaves g c =
    let same : c.get.result.now ≡ c.args.round = at_end c.args.self.now.rounds c.args.round c.get.result.now
    (sym (λ i. slice_get (c.in_ok-push.ensures.ok i) (c.len-count.ensures.value i)) ∙ c.get.ensures.value) in
    rw same at c.append-written.ensures.leaves
