use Rattle.std.proofs.Common.{ℕ, List, find, sym, ap, ◌∙◌}
use Rattle.std.specs.Str.{bytes_eq}
use Rattle.std.proofs.lemmas.List.{drop_all}
use Rattle.sz_protofile.specs.Scalars.{scalar_text}
use Rattle.sz_protofile_names.proofs.WordLemmas.{passed_item}
use Rattle.sz_protofile_names.proofs.words.scalar_of.Goals as goal

pub loop-scalar-preserved : goal.loop-scalar-preserved
loop-scalar-preserved c =
    sym (passed_item (λ s. bytes_eq (scalar_text s) c.args.word.now) _ c.loop-scalar.scalar-index _
    c.loop-scalar-test.true
    (ap (λ (t : List ℕ). bytes_eq t c.args.word.now) (sym c.text.ensures.value) ∙ sym c.eq.ensures ∙ c.if-eq.false))
    ∙ c.loop-scalar.invariant

pub returns : goal.returns
returns c = record {
  value = sym (ap (find (λ s. bytes_eq (scalar_text s) c.args.word.now))
      (drop_all c.loop-scalar.scalar-index _ c.loop-scalar-test.false)) ∙ c.loop-scalar.invariant;
}
