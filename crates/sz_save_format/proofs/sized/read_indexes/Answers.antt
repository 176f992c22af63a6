-- Each turn reads one value more.
use Rattle.std.proofs.Common.{◌≡◌, ◌+◌, map, drop, sym, subst}
use Rattle.std.proofs.lemmas.Result.{err_from_is_err_and}
use Rattle.sz_types.specs.Seen as shapes
use Rattle.sz_value.specs.Seen.{seen}
use Rattle.sz_save_format.specs.DecodingRows.{sized_at, indexes_at}
use Rattle.sz_save_format.proofs.FrontLemmas.{after, stops_too}
use Rattle.sz_save_format.proofs.LoopLemmas.{indexes_go, indexes_stop, indexes_end}
use Rattle.sz_save_format.proofs.sized.read_indexes.Goals as goal

pub returns-in_err-value : goal.returns-in_err-value
returns-in_err-value c =
    let p = err_from_is_err_and c.from_residual-in_err-value.result c.from_residual-in_err-value.ensures.1 in
    let types = c.args.types.now in
    let whole = indexes_at (map shapes.seen types) c.args.flat.now in
    let ty = c.ty-item.result in
    let rest = c.loop-ty.rest.now in
    record {
      value = rw (p.1, p.2)
          (stops_too (sized_at (shapes.seen ty) rest) whole c.in_err-value.field-0.0
          (λ none. indexes_stop whole types c.loop-ty.values rest c.loop-ty.ty-index ty
          c.loop-ty-test.true c.ty-item.is none c.loop-ty.invariant) c.in_err-value.ensures.value);
    }

pub loop-ty-preserved : goal.loop-ty-preserved
loop-ty-preserved c =
    let types = c.args.types.now in
    let whole = indexes_at (map shapes.seen types) c.args.flat.now in
    let i = c.loop-ty.ty-index in
    let more = c.in_ok-value.after.now in
    subst (λ done. whole ≡ after done (indexes_at (map shapes.seen (drop (i + 1) types)) more))
    (sym c.in_ok-push.ensures.ok) (indexes_go whole types c.loop-ty.values c.loop-ty.rest.now i c.ty-item.result
    (seen c.in_ok-value.value) more c.loop-ty-test.true c.ty-item.is
    c.in_ok-value.ensures.value c.loop-ty.invariant)

pub returns : goal.returns
returns c =
    let types = c.args.types.now in
    record {
      value = indexes_end (indexes_at (map shapes.seen types) c.args.flat.now) types
          c.loop-ty.values c.loop-ty.rest.now c.loop-ty.ty-index c.loop-ty-test.false
          c.loop-ty.invariant;
    }
