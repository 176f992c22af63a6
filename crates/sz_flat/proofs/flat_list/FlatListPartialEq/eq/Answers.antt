-- The bytes are equal just where the values are.
use Rattle.std.proofs.Common.{◌∙◌, nat_eq}
use Rattle.std.specs.Cmp.Lexicographic.{pointwise}
use Rattle.sz_flat.specs.Lists.{same_values}
use Rattle.sz_flat.proofs.ListLemmas.{same_bytes}
use Rattle.sz_flat.proofs.flat_list.FlatListPartialEq.eq.Goals as goal

pub returns : goal.returns
returns c =
    c.eq.ensures ∙ (λ i. pointwise nat_eq (c.as_slice.ensures.value i) (c.as_slice-2.ensures.value i))
    ∙ same_bytes c.self.inside.bytes c.other.inside.bytes c.self.inside.spelled c.other.inside.spelled
    ∙ (λ i. same_values (c.self.view_is i) (c.other.view_is i))
