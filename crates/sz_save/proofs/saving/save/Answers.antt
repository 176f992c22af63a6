-- What the total shows is what its emits give.
use Rattle.std.proofs.Common.{◌≡◌}
use Rattle.std.proofs.lemmas.Result.{IfOk-weaker}
use Rattle.sz_save.specs.Saving.{state_shown, state_of_emits}
use Rattle.sz_save.proofs.SavingLemmas.{state_of_its_emits}
use Rattle.sz_save.proofs.saving.save.Goals as goal

pub returns-clause-emits : goal.returns-clause-emits
returns-clause-emits c = λ emits stands.
    IfOk-weaker c.state_of.result (λ saved. saved ≡ state_shown c.args.bound c.args.total.now)
    (λ saved. saved ≡ state_of_emits c.args.bound c.args.decls.now emits)
    (λ saved is. state_of_its_emits c.args.total.now c.args.bound c.args.decls.now saved c.requires.same is emits
    stands) c.state_of.ensures.value
