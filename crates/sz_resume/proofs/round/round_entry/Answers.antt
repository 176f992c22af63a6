use Rattle.std.proofs.Common.{rules, ◌∙◌, ◌≤◌, ◌^◌, sym, subst}
use Rattle.sz_save.specs.Saving.{HaveSpelling, state_of_emits}
use Rattle.sz_resume.proofs.RoundLemmas.{numbers_of, bound_is, bound_fits, low_bound, few_emits, stands_for, same_done}
use Rattle.sz_resume.proofs.round.round_entry.Goals as goal

-- the round has a shard, and its numbers are within their bounds
pub done_with-done-requires : goal.done_with-done-requires
done_with-done-requires c =
    let h = numbers_of c.args.job.now c.args.intake.now c.requires.round.0 c.requires.round.1 in
    record { begun = h.begun; some = h.some; within = h.within; few = h.few; numbers = h.numbers; passed = c.requires.fits }

pub records_run-requires : goal.records_run-requires
records_run-requires c = record { begun = (numbers_of c.args.job.now c.args.intake.now c.requires.round.0 c.requires.round.1).begun }

-- the bound fits a word
pub overflow_mul-bound : goal.overflow_mul-bound
overflow_mul-bound c =
    let job = c.args.job.now in
    let intake = c.args.intake.now in
    let h = numbers_of job intake c.requires.round.0 c.requires.round.1 in
    let low = bound_fits c.args.passed intake c.done_with-done.result c.records_run.result job.budget c.done_with-done.ensures.value
    c.records_run.ensures.value h c.requires.job.budget.most in
    search (rules, low)

-- the bound is enough, and can be saved
pub save-requires : goal.save-requires
save-requires c =
    let job = c.args.job.now in
    let intake = c.args.intake.now in
    let total = c.args.tables.now in
    let h = numbers_of job intake c.requires.round.0 c.requires.round.1 in
    let same = sym c.tables.ensures.value in
    let bound = sym (bound_is c.args.passed intake c.done_with-done.result c.records_run.result job.budget c.done_with-done.ensures.value
    c.records_run.ensures.value) in
    record {
      same = c.requires.part.2.tables ∙ same;
      spelled = subst HaveSpelling same c.requires.spelled;
      enough = subst (λ n. total.count ≤ n) bound (few_emits job intake total c.args.passed c.requires.part h);
      low = subst (λ n. n ≤ 2 ^ 63) bound (low_bound intake job.budget h c.requires.job.budget.most);
    }

-- the entry is that of the round
pub returns : goal.returns
returns c =
    let job = c.args.job.now in
    let intake = c.args.intake.now in
    let bound = bound_is c.args.passed intake c.done_with-done.result c.records_run.result job.budget c.done_with-done.ensures.value
    c.records_run.ensures.value in
    let stands = stands_for job intake c.args.tables.now c.args.passed c.requires.part in
    record {
      value = λ emits is. record {
        done = same_done c.args.passed intake c.done_with-done.result c.done_with-done.ensures.value;
        saved = c.in_ok-saved.ensures.emits emits (stands emits is) ∙ (λ i. state_of_emits (bound i) (c.tables.ensures.value i) emits);
        can = c.bound.ensures.can;
      };
    }
