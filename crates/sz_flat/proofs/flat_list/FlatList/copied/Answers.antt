-- The same bytes have the same values.
use Rattle.std.proofs.Common.{◌∙◌}
use Rattle.sz_flat.proofs.ListLemmas.{copy_is}
use Rattle.sz_flat.proofs.flat_list.FlatList.copied.Goals as goal

pub returns : goal.returns
returns c = record {
  value = copy_is c.self.inside.bytes c.in_ok-bytes.bytes c.self.inside.spelled c.result-1.given.0
      (c.in_ok-bytes.ensures.value ∙ c.as_slice.ensures.value) ∙ c.self.view_is;
}
