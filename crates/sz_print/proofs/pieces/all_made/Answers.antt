-- Each turn takes one piece that was made.
use Rattle.std.proofs.Common.{◌∙◌, ◌∷◌, ◌++◌, Ok, map, ap, sym, length, arith}
use Rattle.std.specs.Vec.Iter.{into_iter_items}
use Rattle.sz_print.proofs.PiecesLemmas.{one_made, all_are_made}
use Rattle.sz_print.proofs.pieces.all_made.Goals as goal

pub loop-one-preserved : goal.loop-one-preserved
loop-one-preserved c =
    let l = c.loop-one in
    let steps = c.in-Some.ensures.steps in
    let piece = c.in_ok-piece.piece in
    let rest = into_iter_items c.next.new.self in
    let before = map Ok l.pieces.items in (
      ap (λ ps. map Ok ps ++ rest) c.in_ok-push.ensures.items
          ∙ one_made l.pieces.items piece rest c.args.made.items
          (ap (λ one. before ++ one ∷ rest) (sym c.in_ok-piece.was) ∙ ap (λ ones. before ++ ones) (sym steps.0)
          ∙ l.invariant.0),
      omega (arith, l.invariant.1, ap length steps.0, steps.1),
    )

-- all were taken
pub returns : goal.returns
returns c =
    let l = c.loop-one in
    let rest = into_iter_items l.one-iterator in
    record {
      value = all_are_made (map Ok l.pieces.items) rest c.args.made.items
          (omega (arith, l.invariant.1, c.in-None.ensures.steps.0)) l.invariant.0;
    }
