-- The first of what is sorted are shown.
use Rattle.std.proofs.Common.{◌≡◌, ◌∙◌, map, take, ap}
use Rattle.std.proofs.lemmas.Result.{IfOk-weaker}
use Rattle.sz_tabs.specs.Sorting.{sorted}
use Rattle.sz_tabs.specs.Rows.{least_first, weighted_row}
use Rattle.sz_tabs.specs.SeenKept.{seen_kept, seen_least}
use Rattle.sz_tabs.proofs.PlainLemmas.{taken_as_seen}
use Rattle.sz_tabs.proofs.plain_rows.rows_of_minimum.Goals as goal

pub returns : goal.returns
returns c =
    let in_order = sorted least_first (map seen_kept c.args.kept.now) in
    let first = ap (map seen_least) c.truncate.ensures.items
    ∙ taken_as_seen seen_least c.args.limit c.in_ok-least.least.items in_order c.in_ok-least.ensures.value in
    record {
      value = IfOk-weaker c.rows_by_least.result
          (λ rows. rows ≡ map weighted_row (map seen_least c.truncate.new.self.items))
          (λ rows. rows ≡ map weighted_row (take c.args.limit in_order))
          (λ rows is. is ∙ ap (map weighted_row) first) c.rows_by_least.ensures.value;
    }
