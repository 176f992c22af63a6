use Rattle.std.proofs.Common.{ap, ◌∙◌}
use Rattle.sz_scope.specs.declared.sight.Sight.TheVariants.{Function}
use Rattle.sz_check_names.specs.Knowledge.{in_function}
use Rattle.sz_check_names.specs.Keeping.{knowledge_of, blocks_by}
use Rattle.sz_check_names.proofs.KeepingLemmas.{function_known}
use Rattle.sz_check_names.proofs.known.Known.enter_function.Goals as goal

pub returns-clause-value : goal.returns-clause-value
returns-clause-value c =
    let k = c.self.inside in
    (λ i. knowledge_of (blocks_by k.types k.meanings.items (c.in_ok-push.ensures.ok i))
    ((c.replace.ensures.after ∙ ap (λ n. Function n) c.depth-outside.ensures.value) i)
    k.types ((c.replace-2.ensures.after ∙ c.new-none.ensures.value) i))
    ∙ function_known k.types k.meanings.items k.scopes k.sight k.locals c.self.invariant
    ∙ ap in_function c.self.view_is
