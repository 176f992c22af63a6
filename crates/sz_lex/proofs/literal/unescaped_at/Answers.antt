use Rattle.std.proofs.Common.{◌+◌, ℕ, sym, ap, ◌∙◌}
use Rattle.std.specs.Option.{option_map}
use Rattle.sz_lex.proofs.SearchLemmas.{none_closed, first_closes}
use Rattle.sz_lex.proofs.literal.unescaped_at.Goals as goal

pub returns-in_err-end-clause-value : goal.returns-in_err-end-clause-value
returns-in_err-end-clause-value c = c.from_residual.ensures ∙ sym (none_closed c.args.text.now c.in_err-end.ensures)

pub returns-in_err-character-clause-value : goal.returns-in_err-character-clause-value
returns-in_err-character-clause-value c =
    c.from_residual-in_err-character.ensures
    ∙ ap (option_map (λ (x : ℕ). (x, c.in_ok-end.end + 1))) c.in_err-character.ensures
    ∙ sym (first_closes c.args.text.now c.in_ok-end.end c.in_ok-end.ensures)

pub returns-clause-value : goal.returns-clause-value
returns-clause-value c =
    ap (option_map (λ (x : ℕ). (x, c.in_ok-end.end + 1))) c.in_ok-character.ensures
    ∙ sym (first_closes c.args.text.now c.in_ok-end.end c.in_ok-end.ensures)
