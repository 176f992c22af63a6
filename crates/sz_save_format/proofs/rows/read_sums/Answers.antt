-- Each turn reads one sum more.
use Rattle.std.proofs.Common.{◌≡◌, ◌∙◌, ◌+◌, ◌-◌, ◌++◌, ◌∷◌, [], sym, subst, arith}
use Rattle.std.specs.Int.{w128}
use Rattle.std.proofs.lemmas.Int.{to_z-of_z}
use Rattle.sz_save_format.specs.Decoding.{many_at, counted_at}
use Rattle.sz_save_format.specs.DecodingRows.{sum_at}
use Rattle.sz_save_format.proofs.FrontLemmas.{after, many_goes}
use Rattle.sz_save_format.proofs.rows.read_sums.Goals as goal

pub loop-preserved : goal.loop-preserved
loop-preserved c =
    let read = sum_at c.args.most in
    let whole = counted_at read c.args.flat.now in
    let n = c.in_ok-count.count in
    let i = c.loop.counter in
    let more = c.in_ok-sum.after.now in
    let pushed = c.in_ok-push.ensures.ok
    ∙ (λ j. c.loop.sums ++ (to_z-of_z w128 c.in_ok-sum.sum c.in_ok-sum.ensures.fits j ∷ [])) in (
      subst (λ done. whole ≡ after done (many_at read (n - (i + 1)) more)) (sym pushed)
          (many_goes read whole c.loop.sums c.loop.rest.now n i c.in_ok-sum.sum more
          c.loop-test.true c.in_ok-sum.ensures.value c.loop.invariant.0),
      omega (arith, c.loop-test.true),
    )
