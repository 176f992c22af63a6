-- The sides changed places, which nobody can see.
use Rattle.std.proofs.Common.{subst}
use Rattle.sz_total.specs.States.{declarations, emit_count, shown}
use Rattle.sz_total.specs.Totals.{Joins}
use Rattle.sz_total.proofs.OrderLemmas.{joins_turned}
use Rattle.sz_total.proofs.total.Total.absorb_with.Goals as goal

pub returns-in-Ok-clause-ok : goal.returns-in-Ok-clause-ok
returns-in-Ok-clause-ok g c =
    let new = c.merge_with-2.new.self in
    let joins =
    subst (λ a. Joins declarations emit_count shown a c.swap.new.y new) c.swap.ensures.x_after c.in-Ok.ensures.ok in
    joins_turned c.args.self.now c.args.other new c.requires.same
    (subst (λ b. Joins declarations emit_count shown c.args.other b new) c.swap.ensures.y_after joins)
