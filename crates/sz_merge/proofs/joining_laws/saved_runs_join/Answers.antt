-- The laws are lemmas.
use Rattle.sz_merge.proofs.RunLemmas.{runs_join, bytes_of_one, text_of_one}
use Rattle.sz_merge.proofs.joining_laws.saved_runs_join.Goals as goal

pub returns : goal.returns
returns c = record {
  state = runs_join c.joining_adds_emits.ensures.states;
  bytes = bytes_of_one c.joining_adds_emits.ensures.states;
  text = text_of_one c.joining_adds_emits.ensures.states c.rows_have_the_text_of_their_emits.ensures.emits;
}
