-- What is left without repeats are the distinct values.
use Rattle.std.proofs.Common.{◌≡◌, ◌∙◌, ◌<◌, ◌≤◌, ◌∷◌, [], map, length, sym, rules}
use Rattle.std.proofs.lemmas.Result.{IfOk-weaker}
use Rattle.sz_value.specs.Order.{compare}
use Rattle.sz_value.specs.Seen.{seen}
use Rattle.sz_tabs.specs.Rows.{values_of, value_row, overflow_row, set_rows}
use Rattle.sz_tabs.specs.Sorting.{distinct}
use Rattle.sz_tabs.specs.SeenKept.{seen_kept}
use Rattle.sz_tabs.proofs.PlainLemmas.{distinct_left, set_is_full, set_holds}
use Rattle.sz_tabs.proofs.plain_rows.rows_of_set.Goals as goal

pub returns-then-len-limit : goal.returns-then-len-limit
returns-then-len-limit c =
    let values = values_of (map seen_kept c.args.kept.now) in
    let left = distinct_left c.in_ok-values.values.items c.dedup.new.self.items values
    c.dedup.ensures.filtered c.in_ok-values.ensures.value in
    let above : c.args.limit < length c.dedup.new.self.items = search rules in
    let full = set_is_full c.args.limit c.dedup.new.self.items (distinct compare values) left above in
    record {
      value = IfOk-weaker c.overflow_rows.result (λ rows. rows ≡ overflow_row ∷ [])
          (λ rows. rows ≡ set_rows c.args.limit (distinct compare values))
          (λ rows is. is ∙ sym full) c.overflow_rows.ensures.value;
    }

pub returns : goal.returns
returns c =
    let values = values_of (map seen_kept c.args.kept.now) in
    let left = distinct_left c.in_ok-values.values.items c.dedup.new.self.items values
    c.dedup.ensures.filtered c.in_ok-values.ensures.value in
    let below : length c.dedup.new.self.items ≤ c.args.limit = search rules in
    let kept = set_holds c.args.limit c.dedup.new.self.items (distinct compare values) left below in
    record {
      value = IfOk-weaker c.value_rows.result (λ rows. rows ≡ map value_row (map seen c.dedup.new.self.items))
          (λ rows. rows ≡ set_rows c.args.limit (distinct compare values))
          (λ rows is. is ∙ sym kept) c.value_rows.ensures.value;
    }
