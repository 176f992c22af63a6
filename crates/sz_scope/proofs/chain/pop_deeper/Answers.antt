use Rattle.std.proofs.Common.{ap, sym, ◌∙◌, ◌-◌, slice_get, length}
use Rattle.sz_scope.proofs.ChainLemmas.{popped}
use Rattle.sz_scope.proofs.chain.pop_deeper.Goals as goal

-- what leaves is the last entry, of which the depth was asked
pub returns-in-Some-clause-some : goal.returns-in-Some-clause-some
returns-in-Some-clause-some c =
    let last = ap (λ l. slice_get l (length l - 1)) (sym c.deref.ensures.value) ∙ sym (c.in-Some.ensures.value) in
    popped c.pop.result c.args.entries.now.items c.pop.new.self.items c.in-Some.last.now c.args.depth
    c.pop.ensures.items last c.if-last-depth.true
