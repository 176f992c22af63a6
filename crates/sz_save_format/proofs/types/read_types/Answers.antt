-- Each turn reads one type more.
use Rattle.std.proofs.Common.{◌≡◌, ◌+◌, ◌-◌, sym, subst, arith}
use Rattle.sz_types.specs.Seen.{seen}
use Rattle.sz_save_format.specs.Decoding.{many_at, saved_type_at, types_at}
use Rattle.sz_save_format.proofs.FrontLemmas.{after, many_goes}
use Rattle.sz_save_format.proofs.types.read_types.Goals as goal

pub loop-preserved : goal.loop-preserved
loop-preserved c =
    let whole = types_at c.args.flat.now in
    let n = c.in_ok-count.count in
    let i = c.loop.counter in
    let more = c.in_ok-ty.after.now in (
      subst (λ done. whole ≡ after done (many_at saved_type_at (n - (i + 1)) more)) (sym c.in_ok-push.ensures.ok)
          (many_goes saved_type_at whole c.loop.types c.loop.rest.now n i
          (seen c.in_ok-ty.ty) more c.loop-test.true c.in_ok-ty.ensures.value
          c.loop.invariant.0),
      omega (arith, c.loop-test.true),
    )
