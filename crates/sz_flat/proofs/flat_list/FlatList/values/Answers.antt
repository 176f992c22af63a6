-- The values that are read are those that are kept.
use Rattle.std.proofs.Common.{◌∙◌, Err, sym, ap, subst}
use Rattle.sz_flat.specs.Lists.{SpellsAll, SpellNone}
use Rattle.sz_flat.proofs.ListLemmas.{values_are, can_be_read}
use Rattle.sz_flat.proofs.flat_list.FlatList.values.Goals as goal

pub unreachable-requires : goal.unreachable-requires
unreachable-requires c =
    can_be_read c.self.inside.bytes c.self.inside.spelled
    (subst SpellNone c.as_slice.ensures.value (c.in-Err-NotFlat.ensures.not_flat (ap Err c.in-Err-NotFlat.field-0-is)))

pub returns-in-Ok : goal.returns-in-Ok
returns-in-Ok c = record {
  value = sym
      (values_are c.self.inside.bytes c.self.inside.spelled c.in-Ok.list
      (subst (λ flat. SpellsAll flat c.in-Ok.list) c.as_slice.ensures.value c.in-Ok.ensures.value))
      ∙ c.self.view_is;
}
