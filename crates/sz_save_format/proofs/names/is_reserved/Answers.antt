-- A word that is spelled so is found, and the others are passed.
use Rattle.std.proofs.Common.{ℕ, List, sym, ap, ◌∙◌, is_some}
use Rattle.std.specs.Str.{bytes_eq}
use Rattle.sz_lex.proofs.WordLemmas.{found_word, passed_word}
use Rattle.sz_save_format.proofs.names.is_reserved.Goals as goal

pub returns-then-eq : goal.returns-then-eq
returns-then-eq c =
    record {
      value = sym
          (ap is_some (sym c.loop-word.invariant
          ∙ found_word _ c.loop-word.word-index _ c.args.bytes.now c.loop-word-test.true
          (ap (λ (t : List ℕ). bytes_eq t c.args.bytes.now) (sym c.text.ensures.value) ∙ sym c.eq.ensures
          ∙ c.if-eq.true)));
    }

pub loop-word-preserved : goal.loop-word-preserved
loop-word-preserved c =
    sym (passed_word _ c.loop-word.word-index _ c.args.bytes.now c.loop-word-test.true
    (ap (λ (t : List ℕ). bytes_eq t c.args.bytes.now) (sym c.text.ensures.value) ∙ sym c.eq.ensures ∙ c.if-eq.false))
    ∙ c.loop-word.invariant
