-- What was lent is sorted, in pieces or at once.
use Rattle.std.proofs.Common.{subst, sym, IsPermutation}
use Rattle.std.proofs.lemmas.List.Sorted.{IsPermutation-refl}
use Rattle.sz_total.specs.Parts.{entries_of}
use Rattle.sz_total.proofs.in_order.entries_in_order_by.Goals as goal

pub returns : goal.returns
returns g c =
    let all = entries_of c.args.parts.now.items in
    record {
      value = c.in_ok-merge_pieces.ensures.ok.rows all c.in_ok-entries.ensures.apart
          (subst (λ old. IsPermutation old c.sort_pieces.new.entries.items)
          c.in_ok-entries.ensures.value c.sort_pieces.ensures.same);
    }
