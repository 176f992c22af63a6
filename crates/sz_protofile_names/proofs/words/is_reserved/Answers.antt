use Rattle.std.proofs.Common.{ℕ, List, sym, ap, ◌∙◌, is_some}
use Rattle.std.specs.Str.{bytes_eq}
use Rattle.sz_lex.specs.Words.{word_text}
use Rattle.sz_protofile_names.proofs.WordLemmas.{found_item, passed_item}
use Rattle.sz_protofile_names.proofs.words.is_reserved.Goals as goal

pub returns-then-eq : goal.returns-then-eq
returns-then-eq c = record {
  value = ap is_some
      (sym (found_item (λ w. bytes_eq (word_text w) c.args.name.now) _ c.loop-word.word-index _ c.loop-word-test.true
      (ap (λ (t : List ℕ). bytes_eq t c.args.name.now) (sym c.text.ensures.value)
      ∙ ap (bytes_eq c.text.result.now) (sym c.as_bytes.ensures.value) ∙ sym c.eq.ensures ∙ c.if-eq.true))
      ∙ c.loop-word.invariant);
}

pub loop-word-preserved : goal.loop-word-preserved
loop-word-preserved c =
    sym (passed_item (λ w. bytes_eq (word_text w) c.args.name.now) _ c.loop-word.word-index _ c.loop-word-test.true
    (ap (λ (t : List ℕ). bytes_eq t c.args.name.now) (sym c.text.ensures.value)
    ∙ ap (bytes_eq c.text.result.now) (sym c.as_bytes.ensures.value) ∙ sym c.eq.ensures ∙ c.if-eq.false))
    ∙ c.loop-word.invariant
