-- Each turn reads one index list more.
use Rattle.std.proofs.Common.{◌≡◌, ◌+◌, ◌-◌, sym, subst, arith}
use Rattle.sz_types.specs.SeenTables.{seen_table}
use Rattle.sz_save_format.specs.Decoding.{many_at}
use Rattle.sz_save_format.specs.DecodingRows.{long_counted_at, entry_at}
use Rattle.sz_save_format.proofs.FrontLemmas.{after, many_goes}
use Rattle.sz_save_format.proofs.entries.read_lists.Goals as goal

pub loop-preserved : goal.loop-preserved
loop-preserved c =
    let read = entry_at c.args.bound (seen_table c.args.table.now) in
    let whole = long_counted_at read c.args.flat.now in
    let n = c.in_ok-count.count in
    let i = c.loop.counter in
    let more = c.in_ok-entry.after.now in (
      subst (λ done. whole ≡ after done (many_at read (n - (i + 1)) more)) (sym c.in_ok-push.ensures.ok)
          (many_goes read whole c.loop.entries c.loop.rest.now n i c.in_ok-entry.entry more
          c.loop-test.true c.in_ok-entry.ensures.value c.loop.invariant.0),
      omega (arith, c.loop-test.true),
    )
