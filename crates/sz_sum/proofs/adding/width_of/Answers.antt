-- A tuple or a message has a component for each field.
use Rattle.std.proofs.Common.{◌∙◌, sym, ap}
use Rattle.sz_types.specs.Seen.{seen, seen_fields}
use Rattle.sz_types.proofs.ForCallers.{seen_tuple, seen_proto}
use Rattle.sz_sum.specs.Data.{width}
use Rattle.sz_sum.proofs.WidthLemmas.{count_of_list}
use Rattle.sz_sum.proofs.adding.width_of.Goals as goal

pub returns-in-Tuple : goal.returns-in-Tuple
returns-in-Tuple c = record {
  value =
      c.len.ensures.value ∙ sym (count_of_list (seen_fields c.in-Tuple.fields))
      ∙ ap width (sym (ap seen c.in-Tuple.is ∙ seen_tuple c.in-Tuple.fields));
}

pub returns-in-Proto : goal.returns-in-Proto
returns-in-Proto c = record {
  value =
      c.len-in-Proto.ensures.value ∙ sym (count_of_list (seen_fields c.in-Proto.fields))
      ∙ ap width (sym (ap seen c.in-Proto.is ∙ seen_proto c.in-Proto.fields));
}
