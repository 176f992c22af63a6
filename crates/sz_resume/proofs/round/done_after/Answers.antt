use Rattle.sz_resume.proofs.RoundLemmas.{can_go_on, few_passed}
use Rattle.sz_resume.proofs.round.done_after.Goals as goal

-- the input can be run on after rounds of a job
pub returns-clause-can : goal.returns-clause-can
returns-clause-can c =
    λ name decls rounds are is. can_go_on name decls rounds c.args.progress is are

pub returns-clause-passed : goal.returns-clause-passed
returns-clause-passed c =
    λ name decls rounds are is. few_passed name decls rounds c.args.progress is are
