use Rattle.std.proofs.Common.{sym, ◌∙◌, subst, true≢false}
use Rattle.std.proofs.lemmas.Result.{err_from_is_err_and}
use Rattle.sz_mean.specs.Marked.{marked}
use Rattle.sz_tree.specs.View.{program_of}
use Rattle.szl.specs.Judging.{IsFailureOn}
use Rattle.szl.specs.Savable.{savable}
use Rattle.szl.proofs.SavableLemmas.{still_refused, high_refused, low_found, can_save}
use Rattle.szl.proofs.savable.savable.Goals.{then-save+in_ok-unless_high, else-save}
use Rattle.szl.proofs.savable.savable.Goals as goal

-- the program is refused for another cause
pub returns-in_err-program-clause-refused : goal.returns-in_err-program-clause-refused
returns-in_err-program-clause-refused c =
    let p = err_from_is_err_and c.from_residual.result c.from_residual.ensures.1 in
    rw (p.1, p.2) (still_refused c.args.types.now c.args.save c.args.ignoring (program_of c.args.tree.now) c.in_err-program.field-0.0
    c.in_err-program.ensures.refused)

-- a table can't be saved
pub returns-in_err-unless_high-clause-refused : goal.returns-in_err-unless_high-clause-refused
returns-in_err-unless_high-clause-refused c =
    let p = err_from_is_err_and c.from_residual-in_err-unless_high.result c.from_residual-in_err-unless_high.ensures.1 in
    let ss = program_of c.args.tree.now in
    let core = c.in_ok-program.program in
    let f = c.in_err-unless_high.field-0.0 in
    rw (p.1, p.2) (subst (λ save. IsFailureOn (savable c.args.types.now save c.args.ignoring ss) f) (sym c.if-save.true)
    (high_refused c.args.types.now c.args.ignoring ss core c.in_ok-program.ensures.found f
    (c.in_err-unless_high.ensures.refused (marked core c.args.ignoring))))

-- the program is to be run
pub returns-clause-found : goal.returns-clause-found
returns-clause-found c =
    low_found c.args.types.now c.args.ignoring (program_of c.args.tree.now) c.in_ok-program.program c.in_ok-program.ensures.found c.args.save
    (λ is. elim c.if-save.branch [
      | then-save+in_ok-unless_high w ↦ w.in_ok-unless_high.ensures.ok
      | else-save w ↦ absurd (true≢false (sym is ∙ w.if-save.false))
    ])

-- and its tables can be saved, if they are to be
pub returns-clause-spelled : goal.returns-clause-spelled
returns-clause-spelled c text short has is =
    elim c.if-save.branch [
      | then-save+in_ok-unless_high w ↦ can_save c.tables_have_spellings.ensures.value c.args.types.now c.args.ignoring (program_of c.args.tree.now)
          c.in_ok-program.program c.requires.named c.in_ok-program.ensures.sound c.in_ok-program.ensures.found w.in_ok-unless_high.ensures.ok text short has
      | else-save w ↦ absurd (true≢false (sym is ∙ w.if-save.false))
    ]
