-- The sums of both sides are as many, and near to 0.
use Rattle.std.proofs.Common.{◌∙◌, ◌-◌, length, take, drop, sym, ap}
use Rattle.sz_tabs.specs.Data.{RowDatum}
use Rattle.sz_save.specs.Joined.{sums_in}
use Rattle.sz_save.proofs.ListLemmas.{split}
use Rattle.sz_save.proofs.SumLemmas.{found_near}
use Rattle.sz_save.proofs.sums.join_sums.Goals as goal

pub added_row-requires : goal.added_row-requires
added_row-requires c =
    let theirs = c.as_slice.result.now in
    let near = found_near c.args.rows c.args.others c.replace-row.result c.other-item.result
    (take (length theirs - 1) (drop 1 theirs)) c.sums_in.result.now
    c.replace-row.ensures.value
    (sym c.as_slice.ensures.value ∙ split theirs c.other-item.result c.in-len1-up.len_at_least c.other-item.is)
    (c.sums_in.ensures.value ∙ ap (λ (r : RowDatum). sums_in r.shown) c.other.view_is) c.requires.can in
    record { as_many = near.as_many; within = near.first; others = near.second; fits = near.added }
