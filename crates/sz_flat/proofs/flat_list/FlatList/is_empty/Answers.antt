-- There are bytes where there are values.
use Rattle.std.proofs.Common.{◌∙◌, ◌==◌, length, ap, rules}
use Rattle.sz_flat.proofs.ListLemmas.{empty_alike}
use Rattle.sz_flat.proofs.flat_list.FlatList.is_empty.Goals as goal

pub returns : goal.returns
returns c = record {
  value =
      let bytes = empty_alike c.self.inside.bytes c.self.inside.spelled
      ∙ ap (λ values. length values == 0) c.self.view_is in
      search rules;
}
