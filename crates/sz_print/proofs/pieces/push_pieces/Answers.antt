-- Each turn appends one piece.
use Rattle.std.proofs.Common.{◌∙◌, ◌++◌, ap, sym, length, arith, append_assoc}
use Rattle.std.specs.List.{concat}
use Rattle.std.specs.Vec.Iter.{into_iter_items}
use Rattle.sz_print.proofs.PiecesLemmas.{all_are_appended}
use Rattle.sz_print.proofs.pieces.push_pieces.Goals as goal

pub loop-piece-preserved : goal.loop-piece-preserved
loop-piece-preserved c =
    let l = c.loop-piece in
    let steps = c.in-Some.ensures.steps in
    let piece = c.in-Some.piece in
    let rest = concat (into_iter_items c.next.new.self) in (
      ap (λ text. text ++ rest) (c.in_ok-extend_from_slice.ensures.items
          ∙ ap (λ text. l.out.items ++ text) c.as_slice-in-loop-piece.ensures.value)
          ∙ append_assoc l.out.items piece rest
          ∙ ap (λ pieces. l.out.items ++ concat pieces) (sym steps.0)
          ∙ l.invariant.0,
      omega (arith, l.invariant.1, ap length steps.0, steps.1),
    )

-- all were appended
pub returns : goal.returns
returns c =
    let l = c.loop-piece in
    record {
      value = all_are_appended l.out.items (c.args.out.now.items ++ concat c.args.pieces.items)
          (into_iter_items l.piece-iterator) (omega (arith, l.invariant.1, c.in-None.ensures.steps.0))
          (l.invariant.0 ∙ ap (λ text. text ++ concat c.args.pieces.items) c.in_ok-reserve_exact.ensures.items);
    }
