use Rattle.szl.proofs.MergedRuns.{merges_to_one_run, saves_its_answer}
use Rattle.szl.proofs.laws.merged_runs_are_one_run.Goals as goal

pub returns : goal.returns
returns c = record {
  merged = merges_to_one_run c.one_spelling.ensures.law c.merging_forgets_the_order.ensures.law c.saved_runs_join.ensures.state c.saved_runs_join.ensures.text;
  saved = saves_its_answer;
}
