-- The tables behind the bound are joined, and nothing follows them.
use Rattle.std.proofs.Common.{◌∙◌, ◌+◌, length, sym, eqb-true}
use Rattle.std.proofs.lemmas.List.{nil_from_length}
use Rattle.std.proofs.lemmas.Result.{err_from_is_err_and}
use Rattle.sz_save.proofs.TablesReadLemmas.{kept_can, head_stops, tables_stop, end_stops, read_saved_both, read_joins}
use Rattle.sz_save.proofs.reading.join_read.Goals as goal

pub returns-in_err-bound-clause-stopped : goal.returns-in_err-bound-clause-stopped
returns-in_err-bound-clause-stopped c =
    let p = err_from_is_err_and c.from_residual.result c.from_residual.ensures.1 in
    rw (p.1, p.2) (head_stops c.args.one c.args.bytes.now c.in_err-bound.field-0.0 c.in_err-bound.ensures.value)

pub join_tables_read-requires : goal.join_tables_read-requires
join_tables_read-requires c = record {
  can = kept_can c.args.one c.in_ok-bound.bound c.into_parts-decls.result.0 c.into_parts-decls.result.1
      c.bound.ensures.can (c.requires.low c.in_ok-bound.bound c.in_ok-bound.rest.now c.in_ok-bound.ensures.value)
      c.into_parts-decls.ensures.decls c.into_parts-decls.ensures.tables;
}

pub returns-in_err-joined-clause-stopped : goal.returns-in_err-joined-clause-stopped
returns-in_err-joined-clause-stopped c =
    let p = err_from_is_err_and c.from_residual-in_err-joined.result c.from_residual-in_err-joined.ensures.1 in
    rw (p.1, p.2) (tables_stop c.args.one c.args.bytes.now c.in_ok-bound.bound c.in_ok-bound.rest.now
    c.in_ok-bound.ensures.value c.into_parts-decls.result.0
    c.in_err-joined.field-0.0 c.into_parts-decls.ensures.decls c.in_err-joined.ensures.stopped)

pub returns-then-not-is_empty-clause-stopped : goal.returns-then-not-is_empty-clause-stopped
returns-then-not-is_empty-clause-stopped c =
    end_stops c.args.one c.args.bytes.now c.in_ok-bound.bound c.in_ok-bound.rest.now c.in_ok-bound.ensures.value
    c.into_parts-decls.result.0 c.into_parts-decls.result.1 c.in_ok-joined.joined c.in_ok-joined.left.now
    c.in_ok-joined.ensures.value (sym c.is_empty.ensures ∙ c.if-not-is_empty.true)

pub new-requires : goal.new-requires
new-requires c =
    let left = c.in_ok-joined.left.now in
    record {
      can = read_saved_both c.args.one c.args.bytes.now c.in_ok-bound.bound c.in_ok-bound.rest.now
          c.in_ok-bound.ensures.value c.into_parts-decls.result.0 c.into_parts-decls.result.1 c.in_ok-joined.joined
          left c.in_ok-joined.ensures.value (c.bound.result + c.in_ok-bound.bound) c.bound.ensures.can
          (c.requires.low c.in_ok-bound.bound c.in_ok-bound.rest.now c.in_ok-bound.ensures.value)
          c.into_parts-decls.ensures.decls c.into_parts-decls.ensures.tables
          (λ i. c.bound.ensures.value i + c.in_ok-bound.bound)
          (nil_from_length left (eqb-true (length left) 0 (sym c.is_empty.ensures ∙ c.if-not-is_empty.false)));
    }

pub returns-clause-value : goal.returns-clause-value
returns-clause-value c =
    let left = c.in_ok-joined.left.now in
    read_joins c.args.one c.args.bytes.now c.in_ok-bound.bound c.in_ok-bound.rest.now c.in_ok-bound.ensures.value
    c.into_parts-decls.result.0 c.into_parts-decls.result.1 c.in_ok-joined.joined left c.in_ok-joined.ensures.value
    (c.bound.result + c.in_ok-bound.bound) c.bound.ensures.can
    (c.requires.low c.in_ok-bound.bound c.in_ok-bound.rest.now c.in_ok-bound.ensures.value)
    c.into_parts-decls.ensures.decls c.into_parts-decls.ensures.tables
    (λ i. c.bound.ensures.value i + c.in_ok-bound.bound)
    (nil_from_length left (eqb-true (length left) 0 (sym c.is_empty.ensures ∙ c.if-not-is_empty.false)))
    c.new.result c.new.ensures.value
