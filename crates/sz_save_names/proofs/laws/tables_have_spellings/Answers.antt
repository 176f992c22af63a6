-- The law is a lemma.
use Rattle.sz_save_names.proofs.DeclaredLemmas.{tables_spelled}
use Rattle.sz_save_names.proofs.laws.tables_have_spellings.Goals as goal

pub returns : goal.returns
returns c = record {
  value = λ text tokens types statements program ignoring short has spells have judged sound low.
      tables_spelled text tokens types statements program ignoring short
      (c.spans_lie_in_order.ensures text tokens has) spells have judged sound low;
}
