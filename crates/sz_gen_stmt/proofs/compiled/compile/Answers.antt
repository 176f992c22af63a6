use Rattle.std.proofs.Common.{subst, sym}
use Rattle.sz_mean.specs.Marked.{marked}
use Rattle.sz_gen_rules.specs.Compiled.{IsCompiled}
use Rattle.sz_gen_stmt.proofs.compiled.compile.Goals as goal

-- the program is sound, and this is its code
pub invariant_of-result : goal.invariant_of-result
invariant_of-result c =
    let code = c.in_ok-code.code in
    subst (λ program. IsCompiled (marked program c.of-2.result.value) code) (sym c.of.ensures)
    (subst (λ ignore. IsCompiled (marked c.args.program ignore) code) (sym c.of-2.ensures)
    (c.code_of_a_sound_program_is_compiled.ensures.value (marked c.args.program c.args.ignore) code
    c.in_ok-code.ensures.sound c.in_ok-code.ensures.value))
