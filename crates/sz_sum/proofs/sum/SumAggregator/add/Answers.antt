-- The components of the value are added, and the emit is counted.
use Rattle.std.proofs.Common.{◌∙◌, ◌+◌, ◌*◌, ◌^◌, ◌<◌, sym, ap, subst, arith}
use Rattle.sz_types.specs.SeenTables.{seen_table}
use Rattle.sz_value.specs.Seen.{seen}
use Rattle.sz_tabs.specs.Rows.{components_of, plus}
use Rattle.sz_tabs.specs.Aggregating.{weighted}
use Rattle.sz_tabs.specs.Fitting.{Fits}
use Rattle.sz_tabs.proofs.ForCallers.{within_further}
use Rattle.sz_sum.specs.Kept.{IsKept}
use Rattle.sz_sum.proofs.WidthLemmas.{components_wide}
use Rattle.sz_sum.proofs.SumLemmas.{kept_more, sum_gains}
use Rattle.sz_sum.proofs.sum.SumAggregator.add.Goals as goal

pub add_value-requires-clause-room : goal.add_value-requires-clause-room
add_value-requires-clause-room c =
    let fits = subst (λ s. Fits s.table (weighted (seen c.args.value.now) c.args._weight))
    (sym c.self.view_is) c.requires.fits in
    let wide = components_wide (seen c.args.value.now) (seen_table c.self.inside.table.now).element fits.element in
    omega (arith, wide, c.self.invariant.wide)

pub add_value-requires-clause-within : goal.add_value-requires-clause-within
add_value-requires-clause-within c =
    within_further (2 ^ 63 * c.self.inside.count)
    (2 ^ 126) c.self.inside.sums (omega (arith, c.self.invariant.few)) c.self.invariant.within

pub invariant_of-self : goal.invariant_of-self
invariant_of-self c =
    let fits = subst (λ s. Fits s.table (weighted (seen c.args.value.now) c.args._weight))
    (sym c.self.view_is) c.requires.fits in
    let wide = components_wide (seen c.args.value.now) (seen_table c.self.inside.table.now).element fits.element in
    let room = subst (λ s. s.count < 2 ^ 63) (sym c.self.view_is) c.requires.room in
    kept_more (seen_table c.self.inside.table.now) c.self.inside.count c.self.inside.sums c.add_value.new.sums
    (components_of (seen c.args.value.now)) c.self.invariant room wide
    c.add_value.ensures.within c.add_value.ensures.value

pub returns-clause-ok : goal.returns-clause-ok
returns-clause-ok c =
    let kept = subst (λ s. IsKept s.table s.count s.numbers) c.self.view_is c.self.invariant in
    sum_gains _ _ _ kept (ap (λ s. s.table) c.self.view_is) (ap (λ s. s.count + 1) c.self.view_is)
    (components_wide (seen c.args.value.now) _ c.requires.fits.element)
    (c.add_value.ensures.value ∙ ap (λ s. plus s.numbers (components_of (seen c.args.value.now))) c.self.view_is)
