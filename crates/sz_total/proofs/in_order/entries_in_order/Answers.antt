-- What was lent is sorted.
use Rattle.std.proofs.Common.{subst, sym, IsPermutation}
use Rattle.std.proofs.lemmas.List.Sorted.{IsPermutation-refl}
use Rattle.sz_total.specs.Parts.{entries_of}
use Rattle.sz_total.proofs.in_order.entries_in_order.Goals as goal

pub returns-clause-value : goal.returns-clause-value
returns-clause-value c =
    let all = entries_of c.args.parts.now.items in
    c.sort_all.ensures.value.rows all c.in_ok-entries.ensures.apart
    (subst (IsPermutation all) (sym c.in_ok-entries.ensures.value) (IsPermutation-refl all))

pub returns-clause-same : goal.returns-clause-same
returns-clause-same c = subst (λ old. IsPermutation old c.sort_all.new.entries.items)
    c.in_ok-entries.ensures.value c.sort_all.ensures.value.same
