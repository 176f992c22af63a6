use Rattle.std.proofs.Common.{◌∙◌, ap, subst, length}
use Rattle.std.proofs.lemmas.Result.{IfOk-weaker}
use Rattle.sz_core.specs.Statements.{stms_of}
use Rattle.sz_core.specs.Programs.{functions_of, statics_of, statements_of, tables_of}
use Rattle.sz_mean.specs.Marked.{Marked, marked, with_lines, counting_behind}
use Rattle.sz_gen_expr.proofs.Builds.{no_more, after}
use Rattle.sz_gen_rules.specs.StatementCode.{no_exits}
use Rattle.sz_gen_rules.specs.ProgramCode.{IsCodeOf}
use Rattle.sz_gen_stmt.specs.Making.{AppendsStms, ExtendsFunctions, ExtendsStatics}
use Rattle.sz_gen_stmt.proofs.Made.{program_made}
use Rattle.sz_gen_stmt.proofs.program.gen_program.Goals as goal

pub returns-clause-value : goal.returns-clause-value
returns-clause-value c =
    let is = c.items-items.ensures.value in
    let whole : Marked = marked c.args.program.now c.args.ignore in
    let declared = c.in_ok-tables.ensures.value ∙ ap tables_of is in
    IfOk-weaker c.finished.result _ (IsCodeOf whole) (λ code made. program_made whole code
    c.new-into.result c.gen_functions.new.into c.gen_statics.new.into c.free.new.into c.here-entry.result
    c.in_ok-small.field-0 c.count_lines.new.tables c.in_ok-counting.counting
    c.new-into.ensures.lines c.new-into.ensures.functions c.new-into.ensures.statics
    (subst (λ xs. ExtendsFunctions c.new-into.result c.gen_functions.new.into (functions_of xs)) is
    c.in_ok-gen_functions.ensures.made) (subst (λ xs. ExtendsStatics c.gen_functions.new.into c.gen_statics.new.into
    (length c.gen_functions.new.into.statics) (statics_of xs)) is
    c.in_ok-gen_statics.ensures.made)
    c.here-entry.ensures.value
    (no_more (after (subst
    (λ xs. AppendsStms c.gen_statics.new.into c.gen_statements.new.into (stms_of (statements_of xs)) no_exits) is
    c.in_ok-gen_statements.ensures.made) c.in_ok-free.ensures.made))
    (c.in_ok-small.ensures.value ∙ c.len.ensures.value ∙ ap length c.locals.ensures.value)
    (c.in_ok-counting.ensures.tables ∙ ap (with_lines c.args.ignore) declared)
    (c.in_ok-counting.ensures.number ∙ ap (λ ts. counting_behind c.args.ignore (length ts)) declared)
    made) c.finished.ensures.value
