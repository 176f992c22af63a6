-- One emit more is kept after the others.
use Rattle.std.proofs.Common.{[], ◌∷◌, ◌++◌, map, ◌∙◌, ap}
use Rattle.std.proofs.lemmas.List.{map-append}
use Rattle.sz_tabs.specs.SeenKept.{seen_kept}
use Rattle.sz_tabs.proofs.PlainLemmas.{plain_gains}
use Rattle.sz_tabs.proofs.plain.PlainAggregatorAggregator.add.Goals as goal

pub returns-clause-ok : goal.returns-clause-ok
returns-clause-ok c =
    plain_gains _ _ (ap (λ a. a.table) c.self.view_is) _
    (ap (map seen_kept) c.in_ok-push.ensures.items ∙ map-append seen_kept _ _
    ∙ (λ i. (c.self.view_is i).emits ++ record { value = c.in_ok-value.ensures.value i; weight = c.args.weight } ∷ []))
