-- The round may follow, and the bounds of all rounds together are the records done times the budget.
use Rattle.std.proofs.Common.{true≢false, sym, ◌∙◌, subst}
use Rattle.sz_journal.specs.Rounds.{MayFollow}
use Rattle.sz_journal.proofs.FollowLemmas.{next_told, next_tells}
use Rattle.sz_journal.proofs.following.can_follow.Goals as goal

pub returns-then-may_follow : goal.returns-then-may_follow
returns-then-may_follow c = record {
  value = λ rounds are is.
      let may = subst (λ before. MayFollow c.args.job.now c.args.decls.now before c.args.round.now) is
      (c.may_follow.ensures.value.0 c.if-may_follow.true) in (
        λ yes. next_told c.args.job.now c.args.decls.now rounds c.args.round.now are may (c.is_bound.ensures.value.0 yes),
        λ more. c.is_bound.ensures.value.1 (next_tells c.args.job.now c.args.decls.now rounds c.args.round.now more).1,
      );
}

pub returns-else-may_follow : goal.returns-else-may_follow
returns-else-may_follow c = record {
  value = λ rounds are is. (
    λ yes. absurd (true≢false (sym yes ∙ c.if-may_follow.false)),
    λ more. c.may_follow.ensures.value.1 (subst (λ before. MayFollow c.args.job.now c.args.decls.now before c.args.round.now) (sym is)
        (next_tells c.args.job.now c.args.decls.now rounds c.args.round.now more).0),
  );
}
