-- A type begins with the byte of its kind, and each turn reads one field more.
use Rattle.std.proofs.Common.{◌≡◌, ◌∙◌, ◌+◌, ◌-◌, ℕ, List, [], ◌∷◌, Bor, map, sym, ap, subst, arith}
use Rattle.std.proofs.lemmas.List.{map-append}
use Rattle.std.proofs.lemmas.Result.{err_from_is_err_and}
use Rattle.sz_types.specs.Seen.{seen, seen_field}
use Rattle.sz_types.specs.declared.ty.Ty.{Ty}
use Rattle.sz_save_format.specs.Decoding.{and_then, byte_at, picked, type_cases, many_at, field_at, fields_at, type_at, Reads}
use Rattle.sz_save_format.proofs.FrontLemmas.{after, many_goes, stops_too}
use Rattle.sz_save_format.proofs.TypeLemmas.{no_type_at_zero, type_at_more}
use Rattle.sz_save_format.proofs.types.+read.Goals as goal

pub read_type-returns-then-levels-eq0 : goal.read_type-returns-then-levels-eq0
read_type-returns-then-levels-eq0 t c = record {
  value = ap (λ n. type_at n c.args.flat.now) (omega (arith, c.if-levels-eq0.true)) ∙ no_type_at_zero c.args.flat.now;
}

pub read_type-returns-in_err-kind : goal.read_type-returns-in_err-kind
read_type-returns-in_err-kind t c =
    let p = err_from_is_err_and c.from_residual.result c.from_residual.ensures.1 in
    let flat = c.args.flat.now in
    let levels = c.args.levels in
    record {
      value = rw (p.1, p.2)
          (stops_too (byte_at flat) (type_at levels flat) c.in_err-kind.field-0.0
          (λ none. type_at_more levels flat (omega (arith, c.if-levels-eq0.false))
          ∙ ap (λ o. and_then o (picked (type_cases (type_at (levels - 1))))) none)
          c.in_err-kind.ensures.value);
    }

pub read_type-returns : goal.read_type-returns
read_type-returns t c =
    let flat = c.args.flat.now in
    let levels = c.args.levels in
    record {
      value = subst (λ found. Reads (λ (r : Ty × Bor (List ℕ)). (seen r.0, r.1.now)) found c.read_type_of.result)
          (sym (type_at_more levels flat (omega (arith, c.if-levels-eq0.false))
          ∙ ap (λ o. and_then o (picked (type_cases (type_at (levels - 1))))) c.in_ok-kind.ensures.value))
          c.read_type_of.ensures.value;
    }

pub read_fields-loop-preserved : goal.read_fields-loop-preserved
read_fields-loop-preserved t c =
    let read = field_at c.args.numbered (type_at c.args.levels) in
    let whole = fields_at c.args.numbered (type_at c.args.levels) c.args.flat.now in
    let n = c.in_ok-count.count in
    let i = c.loop.counter in
    let more = c.in_ok-field.after.now in
    let pushed = ap (map seen_field) c.in_ok-push.ensures.items
    ∙ map-append seen_field c.loop.fields.items (c.in_ok-field.field ∷ []) in (
      subst (λ done. whole ≡ after done (many_at read (n - (i + 1)) more)) (sym pushed)
          (many_goes read whole (map seen_field c.loop.fields.items) c.loop.rest.now n i
          (seen_field c.in_ok-field.field) more c.loop-test.true c.in_ok-field.ensures.value c.loop.invariant.0),
      omega (arith, c.loop-test.true),
    )
