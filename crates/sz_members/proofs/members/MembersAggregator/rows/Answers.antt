-- The rows of what is kept are those that the aggregator shows.
use Rattle.std.proofs.Common.{◌≡◌, ◌∙◌, ap}
use Rattle.std.proofs.lemmas.Result.{IfOk-weaker}
use Rattle.sz_types.specs.SeenTables.{seen_table}
use Rattle.sz_tabs.specs.Rows.{rows_of}
use Rattle.sz_members.specs.Data.{rows_of_members}
use Rattle.sz_members.specs.Repeats.{emits_tallied}
use Rattle.sz_members.proofs.members.MembersAggregator.rows.Goals as goal

pub returns : goal.returns
returns c = record {
  value = IfOk-weaker c.rows_of.result
      (λ rows. rows ≡ rows_of (seen_table c.self.inside.table.now) (emits_tallied c.self.inside.tally.entries))
      (λ rows. rows ≡ rows_of_members c.args.self.now)
      (λ rows is. is ∙ ap rows_of_members c.self.view_is) c.rows_of.ensures.value;
}
