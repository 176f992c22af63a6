-- The values that are kept compare as the bytes tell.
use Rattle.std.proofs.Common.{◌∙◌, ℕ, List, subst}
use Rattle.std.specs.Cmp.Lexicographic.{slice_cmp}
use Rattle.sz_value.specs.Order.{compare}
use Rattle.sz_flat.specs.Comparing.{Orders}
use Rattle.sz_flat.proofs.ComparingLemmas.{kept_order}
use Rattle.sz_flat.proofs.flat_list.FlatList.order.Goals as goal

pub returns : goal.returns
returns c =
    let a = c.self.inside.bytes in
    let b = c.other.inside.bytes in
    record {
      value = kept_order a b c.self.inside.spelled c.other.inside.spelled c.order_all.result
          (subst (λ (p : List ℕ × List ℕ). Orders p.0 p.1 c.order_all.result)
          (λ i. (c.as_slice.ensures.value i, c.as_slice-2.ensures.value i))
          c.order_all.ensures.value)
          ∙ (λ i. slice_cmp compare (c.self.view_is i) (c.other.view_is i));
    }
