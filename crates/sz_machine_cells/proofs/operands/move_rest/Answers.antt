-- One cell more is moved.
use Rattle.std.proofs.Common.{rules, arith, ◌≡◌, ◌∙◌, ◌+◌, ◌<◌, ◌++◌, ◌∷◌, [], length, get_or, sym, ap}
use Rattle.std.proofs.lemmas.List.{take-set-le, length-set}
use Rattle.sz_machine_cells.proofs.ListLemmas.{one_moved, others_stay}
use Rattle.sz_machine_cells.proofs.operands.move_rest.Goals as goal

pub loop-i-preserved : goal.loop-i-preserved
loop-i-preserved c =
    let xs = c.args.cells.now.items in
    let ys = c.loop-i.cells.items in
    let from = c.args.from in
    let i = c.loop-i.i in
    let x = c.replace.result in
    let same = c.loop-i.invariant.above in
    let within : from + i < length xs = search (rules, arith) in
    let is : x ≡ get_or ys (from + i) x = search rules in
    record {
      moved = c.in_ok-push.ensures.items ∙ ap (λ l. l ++ x ∷ []) c.loop-i.invariant.moved
          ∙ sym (one_moved c.args.to.now.items xs ys from i same x within is);
      below = take-set-le from ys (from + i) c.replace.new.dest (omega arith) ∙ c.loop-i.invariant.below;
      above = others_stay c.args.to.now.items xs ys from i same c.replace.new.dest;
      count = length-set ys (from + i) c.replace.new.dest ∙ c.loop-i.invariant.count;
    }
