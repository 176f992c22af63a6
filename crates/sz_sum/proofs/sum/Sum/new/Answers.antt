-- A new sum has a zero for each component.
use Rattle.std.proofs.Common.{◌∙◌, pos, replicate, ap}
use Rattle.sz_types.specs.SeenTables.{seen_table}
use Rattle.sz_sum.proofs.SumLemmas.{kept_new}
use Rattle.sz_sum.proofs.sum.Sum.new.Goals as goal

pub invariant_of-result : goal.invariant_of-result
invariant_of-result c =
    kept_new (seen_table c.args.table.now) c.in_ok-sums.sums c.requires.kind
    (c.in_ok-sums.ensures.value ∙ ap (λ n. replicate n (pos 0)) c.width_of.ensures.value)
