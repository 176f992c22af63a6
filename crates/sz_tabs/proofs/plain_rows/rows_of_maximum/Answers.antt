-- The first of what is sorted are shown.
use Rattle.std.proofs.Common.{◌≡◌, ◌∙◌, map, take, ap}
use Rattle.std.proofs.lemmas.Result.{IfOk-weaker}
use Rattle.sz_tabs.specs.Sorting.{sorted}
use Rattle.sz_tabs.specs.Rows.{greatest_first, weighted_row}
use Rattle.sz_tabs.specs.SeenKept.{seen_kept, seen_greatest}
use Rattle.sz_tabs.proofs.PlainLemmas.{taken_as_seen}
use Rattle.sz_tabs.proofs.plain_rows.rows_of_maximum.Goals as goal

pub returns : goal.returns
returns c =
    let in_order = sorted greatest_first (map seen_kept c.args.kept.now) in
    let first = ap (map seen_greatest) c.truncate.ensures.items
    ∙ taken_as_seen seen_greatest c.args.limit c.in_ok-greatest.greatest.items in_order
    c.in_ok-greatest.ensures.value in
    record {
      value = IfOk-weaker c.rows_by_greatest.result
          (λ rows. rows ≡ map weighted_row (map seen_greatest c.truncate.new.self.items))
          (λ rows. rows ≡ map weighted_row (take c.args.limit in_order))
          (λ rows is. is ∙ ap (map weighted_row) first) c.rows_by_greatest.ensures.value;
    }
