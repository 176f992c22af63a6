use Rattle.std.proofs.Common.{ℕ, List, sym, ap, ◌∙◌}
use Rattle.std.specs.Str.{bytes_eq}
use Rattle.sz_lex.proofs.WordLemmas.{found_word, passed_word}
use Rattle.sz_lex.proofs.word.word_of.Goals as goal

pub returns-then-eq : goal.returns-then-eq
returns-then-eq c =
    sym (found_word _ c.loop-word.word-index _ c.args.text.now c.loop-word-test.true (ap (λ
    (t : List ℕ). bytes_eq t c.args.text.now) (sym c.text.ensures.value) ∙ sym c.eq.ensures ∙ c.if-eq.true))
    ∙ c.loop-word.invariant

pub loop-word-preserved : goal.loop-word-preserved
loop-word-preserved c =
    sym (passed_word _ c.loop-word.word-index _ c.args.text.now c.loop-word-test.true (ap (λ
    (t : List ℕ). bytes_eq t c.args.text.now) (sym c.text.ensures.value) ∙ sym c.eq.ensures ∙ c.if-eq.false))
    ∙ c.loop-word.invariant
