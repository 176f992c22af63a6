-- Types are alike where they are equal, and equality is an equivalence.
use Rattle.std.proofs.Common.{sym, ◌∙◌}
use Rattle.sz_types.proofs.AlikeLemmas.{alike_equal, alike_itself, alike_is_equality}
use Rattle.sz_types.proofs.laws.alike_is_an_equivalence.Goals as goal

pub returns : goal.returns
returns c = record {
  itself = alike_itself;
  turned = λ s t h. (alike_is_equality t s).1 (sym (alike_equal s t h));
  chained = λ s t u h k. (alike_is_equality s u).1 (alike_equal s t h ∙ alike_equal t u k);
}
