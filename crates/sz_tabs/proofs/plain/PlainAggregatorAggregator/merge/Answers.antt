-- The emits of the other side are kept after those of this side.
use Rattle.std.proofs.Common.{◌++◌, map, ◌∙◌, ap}
use Rattle.std.proofs.lemmas.List.{map-append}
use Rattle.sz_tabs.specs.SeenKept.{seen_kept}
use Rattle.sz_tabs.proofs.PlainLemmas.{plain_joins}
use Rattle.sz_tabs.proofs.plain.PlainAggregatorAggregator.merge.Goals as goal
use Rattle.sz_tabs.proofs.plain.PlainAggregatorAggregator.merge.Goals.{in-Ok, in-Err}

pub returns-clause-ok : goal.returns-clause-ok
returns-clause-ok c = elim c.match-append.branch [
  | in-Ok w ↦ rw w.result-is (
      plain_joins _ _ (ap (λ a. a.table) c.self.view_is) _ c.requires.same
      (ap (map seen_kept) w.in-Ok.ensures.items ∙ map-append seen_kept _ _
      ∙ (λ i. (c.self.view_is i).emits ++ (c.other.view_is i).emits)))
  | in-Err w ↦ rw w.result-is tt
]
