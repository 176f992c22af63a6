-- Each turn reads one table more.
use Rattle.std.proofs.Common.{◌≡◌, ◌∙◌, ◌+◌, ◌-◌, ◌∷◌, [], length, zip, sym, ap, subst, arith, length-append}
use Rattle.sz_types.specs.SeenTables.{seen_table}
use Rattle.sz_save_format.specs.Decoding.{many_at, counted_at}
use Rattle.sz_save_format.specs.DecodingRows.{table_at}
use Rattle.sz_save_format.proofs.FrontLemmas.{after, many_goes}
use Rattle.sz_save_format.proofs.SavedLemmas.{zip_more}
use Rattle.sz_save_format.proofs.saved.read_tables.Goals as goal

pub loop-preserved : goal.loop-preserved
loop-preserved c =
    let read = table_at c.args.bound in
    let whole = counted_at read c.args.flat.now in
    let n = c.in_ok-count.count in
    let i = c.loop.counter in
    let more = c.in_ok-decl.after.now in
    let ds = c.loop.decls in
    let ts = c.loop.tables in
    let d = seen_table c.in_ok-decl.decl in
    let t = c.in_ok-decl.rows in
    let decls = c.in_ok-push.ensures.ok in
    let tables = c.in_ok-push-2.ensures.ok in
    let together = (λ i. zip (decls i) (tables i)) ∙ zip_more ds ts d t c.loop.invariant.2 in
    let one_decl = ap length decls ∙ length-append ds (d ∷ []) in
    let one_table = ap length tables ∙ length-append ts (t ∷ []) in (
      subst (λ done. whole ≡ after done (many_at read (n - (i + 1)) more)) (sym together)
          (many_goes read whole (zip ds ts) c.loop.rest.now n i
          (d, t) more c.loop-test.true c.in_ok-decl.ensures.value c.loop.invariant.0),
      omega (arith, c.loop-test.true),
      omega (arith, one_decl, one_table, c.loop.invariant.2),
    )
