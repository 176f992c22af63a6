-- A stable sort leaves what is sorted, and the first of it are kept.
use Rattle.std.proofs.Common.{◌≡◌, ◌∙◌, take, ap, rules}
use Rattle.std.proofs.lemmas.Fn.{always_returns_same}
use Rattle.sz_tabs.specs.Sorting.{sorted}
use Rattle.sz_tabs.proofs.ForCallers.{stable_sort_is_sorted}
use Rattle.sz_save.specs.Joined.{greatest_rows}
use Rattle.sz_save.proofs.RowLemmas.{greatest_rows_total, greatest_less, greatest_ordered}
use Rattle.sz_save.proofs.rows.join_maximum.Goals as goal

pub returns : goal.returns
returns c =
    let both = c.in_ok-both.both.items in
    let in_order : c.sort_by.new.self.items ≡ sorted greatest_rows both =
    stable_sort_is_sorted greatest_rows_total both c.sort_by.new.self.items
    (c.in_ok-sort_by.ensures.sorted greatest_less greatest_ordered
    (always_returns_same _ _ _ (λ a r f called. search rules))) (c.sort_by.ensures.stable greatest_less
    greatest_ordered (always_returns_same _ _ _ (λ a r f called. search rules))) in
    record {
      value = c.from_vec.ensures.value ∙ c.truncate.ensures.items
          ∙ ap (take c.args.limit) (in_order ∙ ap (sorted greatest_rows) c.in_ok-both.ensures.value);
    }
