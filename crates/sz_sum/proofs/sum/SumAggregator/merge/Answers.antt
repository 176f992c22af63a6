-- The sums of both sides are added, and so are their numbers of emits.
use Rattle.std.proofs.Common.{◌∙◌, ◌+◌, ◌*◌, ◌^◌, ◌≤◌, sym, ap, subst, arith}
use Rattle.sz_types.specs.SeenTables.{seen_table}
use Rattle.sz_tabs.specs.Rows.{plus}
use Rattle.sz_tabs.specs.Bounds.{AreWithin}
use Rattle.sz_tabs.proofs.ForCallers.{within_further, within_plus}
use Rattle.sz_sum.specs.Kept.{IsKept}
use Rattle.sz_sum.proofs.SumLemmas.{kept_both, sum_joins}
use Rattle.sz_sum.proofs.sum.SumAggregator.merge.Goals as goal

pub add_sums-requires-clause-within : goal.add_sums-requires-clause-within
add_sums-requires-clause-within c =
    within_further (2 ^ 63 * c.self.inside.count)
    (2 ^ 126) c.self.inside.sums (omega (arith, c.self.invariant.few)) c.self.invariant.within

pub add_sums-requires-clause-more : goal.add_sums-requires-clause-more
add_sums-requires-clause-more c =
    subst (AreWithin (2 ^ 126)) (sym c.as_slice.ensures.value)
    (within_further (2 ^ 63 * c.other.inside.count)
    (2 ^ 126) c.other.inside.sums (omega (arith, c.other.invariant.few)) c.other.invariant.within)

pub add_sums-requires-clause-fits : goal.add_sums-requires-clause-fits
add_sums-requires-clause-fits c =
    let a = c.self.inside.count in
    let b = c.other.inside.count in
    let room : a + b ≤ 2 ^ 63 =
    subst (λ n. n ≤ 2 ^ 63) (λ i. (sym c.self.view_is i).count + (sym c.other.view_is i).count) c.requires.room in
    let both = plus c.self.inside.sums c.other.inside.sums in
    let sum = within_plus (2 ^ 63 * a)
    (2 ^ 63 * b) c.self.inside.sums c.other.inside.sums c.self.invariant.within c.other.invariant.within in
    subst (λ ns. AreWithin (2 ^ 126) (plus c.self.inside.sums ns)) (sym c.as_slice.ensures.value)
    (within_further (2 ^ 63 * a + 2 ^ 63 * b) (2 ^ 126) both (omega (arith, room)) sum)

pub invariant_of-self : goal.invariant_of-self
invariant_of-self c =
    let same = ap (λ s. s.table) c.other.view_is ∙ c.requires.same ∙ ap (λ s. s.table) (sym c.self.view_is) in
    let room =
    subst (λ n. n ≤ 2 ^ 63) (λ i. (sym c.self.view_is i).count + (sym c.other.view_is i).count) c.requires.room in
    kept_both (seen_table c.self.inside.table.now) c.self.inside.count c.self.inside.sums
    (record {
      table = seen_table c.other.inside.table.now;
      count = c.other.inside.count;
      numbers = c.other.inside.sums;
    })
    c.add_sums.new.sums c.self.invariant c.other.invariant same room
    (c.add_sums.ensures.value ∙ ap (plus c.self.inside.sums) c.as_slice.ensures.value)

pub returns-clause-ok : goal.returns-clause-ok
returns-clause-ok c =
    let kept = subst (λ s. IsKept s.table s.count s.numbers) c.self.view_is c.self.invariant in
    let other = subst (λ s. IsKept s.table s.count s.numbers) c.other.view_is c.other.invariant in
    sum_joins _ _ _ kept other c.requires.same (ap (λ s. s.table) c.self.view_is)
    (λ i. (c.self.view_is i).count + (c.other.view_is i).count)
    (c.add_sums.ensures.value ∙ ap (plus c.self.inside.sums) c.as_slice.ensures.value
    ∙ (λ i. plus (c.self.view_is i).numbers (c.other.view_is i).numbers))
