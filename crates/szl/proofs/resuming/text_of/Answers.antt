-- The text of what is saved of emits is theirs.
use Rattle.std.proofs.Common.{◌∙◌}
use Rattle.szl.proofs.AfterRoundsLemmas.{saved_text}
use Rattle.szl.proofs.SavedLemmas.{map_ok}
use Rattle.szl.proofs.resuming.text_of.Goals as goal

pub returns : goal.returns
returns c = record {
  value = λ bound decls emits is.
      map_ok c.text_held.result
      (λ text same. same ∙ saved_text c.saved_runs_join.ensures.text c.args.all.now c.bound.ensures.can decls bound emits is) c.text_held.ensures.value;
}
