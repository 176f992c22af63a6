-- What the bytes are for the job, by where the journal ends.
use Rattle.std.proofs.Common.{Ok, sym, ap, ◌∙◌, subst}
use Rattle.sz_journal.specs.Opening.{FitsAnswer}
use Rattle.sz_journal.proofs.opening.open_journal.Goals as goal

pub returns-in-Ok-clause-causes : goal.returns-in-Ok-clause-causes
returns-in-Ok-clause-causes g c held told =
    subst (FitsAnswer c.args.job.now c.args.decls.now held) (c.in-Ok.is ∙ ap (λ tail. Ok tail) (sym c.new.ensures.value))
    (c.open_rounds.ensures.causes held told)
