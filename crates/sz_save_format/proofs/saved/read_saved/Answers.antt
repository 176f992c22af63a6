-- What is read behind the bound, all of it, is saved so; and where something is missing nothing is.
use Rattle.std.proofs.Common.{◌∙◌, length, zip, sym, eqb-true}
use Rattle.std.proofs.lemmas.List.{nil_from_length}
use Rattle.std.proofs.lemmas.Result.{err_from_is_err_and}
use Rattle.sz_save_format.specs.Decoding.{counted_at}
use Rattle.sz_save_format.specs.DecodingRows.{head_at, table_at}
use Rattle.sz_save_format.proofs.FrontLemmas.{stopped}
use Rattle.sz_save_format.proofs.SavedLemmas.{lists_save, nothing_saves, no_head, no_tables, no_end}
use Rattle.sz_save_format.proofs.saved.read_saved.Goals as goal

pub returns-in_err-bound-clause-not_saved : goal.returns-in_err-bound-clause-not_saved
returns-in_err-bound-clause-not_saved c = λ is saved h.
    let p = err_from_is_err_and c.from_residual.result c.from_residual.ensures.1 in
    let flat = c.args.bytes.now in
    nothing_saves flat
    (no_head flat (stopped (head_at flat) c.in_err-bound.field-0.0 c.in_err-bound.ensures.value
    (let both = sym p.1 ∙ is in let e = p.2 in cc))) saved h

pub returns-in_err-tables-clause-not_saved : goal.returns-in_err-tables-clause-not_saved
returns-in_err-tables-clause-not_saved c = λ is saved h.
    let p = err_from_is_err_and c.from_residual-in_err-tables.result c.from_residual-in_err-tables.ensures.1 in
    let flat = c.args.bytes.now in
    let bound = c.in_ok-bound.bound in
    let rest = c.in_ok-bound.rest.now in
    nothing_saves flat
    (no_tables flat bound rest c.in_ok-bound.ensures.value
    (stopped (counted_at (table_at bound) rest) c.in_err-tables.field-0.0 c.in_err-tables.ensures.value
    (let both = sym p.1 ∙ is in let e = p.2 in cc))) saved h

pub returns-then-not-is_empty-clause-not_saved : goal.returns-then-not-is_empty-clause-not_saved
returns-then-not-is_empty-clause-not_saved c = λ is saved h.
    let flat = c.args.bytes.now in
    let tables = c.in_ok-tables.tables in
    nothing_saves flat
    (no_end flat c.in_ok-bound.bound c.in_ok-bound.rest.now (zip tables.decls tables.tables)
    c.in_ok-tables.rest.now c.in_ok-bound.ensures.value
    c.in_ok-tables.ensures.value (sym c.is_empty.ensures ∙ c.if-not-is_empty.true)) saved h

pub invariant_of-result : goal.invariant_of-result
invariant_of-result c =
    let tables = c.in_ok-tables.tables in
    let left = c.in_ok-tables.rest.now in
    (lists_save c.args.bytes.now c.in_ok-bound.bound c.in_ok-bound.rest.now tables.decls tables.tables left
    c.in_ok-bound.ensures.value c.in_ok-tables.ensures.value c.in_ok-tables.ensures.as_many
    (nil_from_length left (eqb-true (length left) 0 (sym c.is_empty.ensures ∙ c.if-not-is_empty.false)))).can

pub returns-clause-value : goal.returns-clause-value
returns-clause-value c =
    let tables = c.in_ok-tables.tables in
    let left = c.in_ok-tables.rest.now in
    lists_save c.args.bytes.now c.in_ok-bound.bound c.in_ok-bound.rest.now tables.decls tables.tables left
    c.in_ok-bound.ensures.value c.in_ok-tables.ensures.value c.in_ok-tables.ensures.as_many
    (nil_from_length left (eqb-true (length left) 0 (sym c.is_empty.ensures ∙ c.if-not-is_empty.false)))
