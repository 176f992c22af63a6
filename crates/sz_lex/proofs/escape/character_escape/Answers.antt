use Rattle.std.proofs.Common.{◌<◌, sym, ap, ◌∙◌, arith}
use Rattle.std.specs.Option.{option_and_then}
use Rattle.sz_lex.specs.Literals.{character_escape}
use Rattle.sz_lex.proofs.NumberLemmas.{four_fit, four_digits, no_character}
use Rattle.sz_lex.proofs.escape.character_escape.Goals as goal

pub returns-in_err-code : goal.returns-in_err-code
returns-in_err-code c = c.from_residual.ensures ∙ ap (option_and_then character_escape) (c.in_err-code.ensures
    ∙ four_fit c.args.digits.now c.requires)

pub overflow_cast-code : goal.overflow_cast-code
overflow_cast-code c =
    let most : c.in_ok-code.code < 65536 =
    four_digits c.args.digits.now c.in_ok-code.code c.requires (sym (c.in_ok-code.ensures
    ∙ four_fit c.args.digits.now c.requires)) in
    omega (arith, most)

pub returns-in_err-from_u32 : goal.returns-in_err-from_u32
returns-in_err-from_u32 c =
    let is = c.in_ok-code.ensures ∙ four_fit c.args.digits.now c.requires in
    c.from_residual-in_err-from_u32.ensures
    ∙ sym (no_character c.in_ok-code.code c.in_err-from_u32.ensures.cases
    (four_digits c.args.digits.now c.in_ok-code.code c.requires (sym is)))
    ∙ ap (option_and_then character_escape) is
