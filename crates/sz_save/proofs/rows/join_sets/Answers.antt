-- Neither side has too many values, so the rows are those of the distinct ones of both.
use Rattle.std.proofs.Common.{◌≡◌, ◌∙◌, ◌++◌, map, sym}
use Rattle.std.proofs.lemmas.Result.{IfOk-weaker}
use Rattle.sz_value.specs.Seen.{seen}
use Rattle.sz_tabs.specs.Rows.{set_rows}
use Rattle.sz_tabs.proofs.PlainLemmas.{distinct_left}
use Rattle.sz_save.specs.Joined.{values_shown, joined_sets}
use Rattle.sz_save.proofs.RowLemmas.{sets_kept}
use Rattle.sz_save.proofs.rows.join_sets.Goals as goal

pub returns : goal.returns
returns c =
    let rows = c.args.rows.now in
    let others = c.args.others.now in
    let values = map seen c.dedup.new.self.items in
    let left = distinct_left c.in_ok-values.values.items c.dedup.new.self.items
    (values_shown rows ++ values_shown others) c.dedup.ensures.filtered
    c.in_ok-values.ensures.value in
    let kept = sets_kept c.args.limit rows others values (sym c.overflows.ensures.value ∙ c.if-overflows.false)
    (sym c.overflows-else-overflows.ensures.value ∙ c.if-overflows-2.false) left in
    record {
      value = IfOk-weaker c.distinct_rows.result (λ joined. joined ≡ set_rows c.args.limit values)
          (λ joined. joined ≡ joined_sets c.args.limit rows others)
          (λ joined is. is ∙ sym kept) c.distinct_rows.ensures.value;
    }
