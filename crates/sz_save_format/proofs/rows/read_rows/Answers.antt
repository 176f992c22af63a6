-- Each turn reads one row more.
use Rattle.std.proofs.Common.{◌≡◌, ◌+◌, ◌-◌, sym, subst, arith}
use Rattle.sz_types.specs.Seen as shapes
use Rattle.sz_save_format.specs.Decoding.{many_at}
use Rattle.sz_save_format.specs.DecodingRows.{row_at}
use Rattle.sz_save_format.proofs.FrontLemmas.{after, many_goes}
use Rattle.sz_save_format.proofs.rows.read_rows.Goals as goal

pub loop-preserved : goal.loop-preserved
loop-preserved c =
    let read = row_at c.args.ranked (shapes.seen c.args.element.now) in
    let n = c.args.count in
    let whole = many_at read n c.args.flat.now in
    let i = c.loop.counter in
    let more = c.in_ok-row.after.now in (
      subst (λ done. whole ≡ after done (many_at read (n - (i + 1)) more)) (sym c.in_ok-push.ensures.ok)
          (many_goes read whole c.loop.rows c.loop.rest.now n i c.in_ok-row.row more
          c.loop-test.true c.in_ok-row.ensures.value c.loop.invariant.0),
      omega (arith, c.loop-test.true),
    )
