-- The declaration is read, compared, and what the table holds is read behind it.
use Rattle.std.proofs.Common.{◌∙◌, sym, true≢false}
use Rattle.std.proofs.lemmas.Result.{err_from_is_err_and}
use Rattle.sz_types.specs.SeenTables.{seen_table}
use Rattle.sz_save.proofs.TablesReadLemmas.{declaration_stops, entries_stop, table_reads, other_table}
use Rattle.sz_save.proofs.reading.join_table_read.Goals as goal

pub returns-in_err-read-clause-stopped : goal.returns-in_err-read-clause-stopped
returns-in_err-read-clause-stopped c =
    let p = err_from_is_err_and c.from_residual.result c.from_residual.ensures.1 in
    rw (p.1, p.2) (declaration_stops c.args.bound c.args.flat.now (seen_table c.args.decl.now)
    c.in_err-read.field-0.0 c.in_err-read.ensures.value)

pub returns-then-not-same_decl-clause-stopped : goal.returns-then-not-same_decl-clause-stopped
returns-then-not-same_decl-clause-stopped c =
    other_table c.args.bound c.args.flat.now (seen_table c.in_ok-read.read)
    c.in_ok-read.rest.now c.in_ok-read.ensures.value (seen_table c.args.decl.now)
    (λ same. true≢false (sym (c.same_decl.ensures.value.1 same) ∙ c.if-not-same_decl.true))

pub returns-in_err-rows-clause-stopped : goal.returns-in_err-rows-clause-stopped
returns-in_err-rows-clause-stopped c =
    let p = err_from_is_err_and c.from_residual-in_err-rows.result c.from_residual-in_err-rows.ensures.1 in
    rw (p.1, p.2) (entries_stop c.args.bound c.args.flat.now (seen_table c.in_ok-read.read)
    c.in_ok-read.rest.now c.in_ok-read.ensures.value (seen_table c.args.decl.now) c.in_err-rows.field-0.0
    (c.same_decl.ensures.value.0 c.if-not-same_decl.false) c.in_err-rows.ensures.stopped)

pub returns-clause-value : goal.returns-clause-value
returns-clause-value c =
    table_reads c.args.bound c.args.flat.now (seen_table c.in_ok-read.read)
    c.in_ok-read.rest.now c.in_ok-read.ensures.value (seen_table c.args.decl.now)
    c.args.kept c.in_ok-rows.rows c.in_ok-rows.rest.now (c.same_decl.ensures.value.0 c.if-not-same_decl.false)
    c.in_ok-rows.ensures.value
