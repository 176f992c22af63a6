-- No bytes spell no values.
use Rattle.std.proofs.Common.{[]}
use Rattle.sz_flat.proofs.ListLemmas.{no_values, values_are}
use Rattle.sz_flat.proofs.flat_list.FlatList.new.Goals as goal

pub returns : goal.returns
returns c = record {
  value = values_are c.new.result c.result-1.given.0 [] (no_values c.new.result c.new.ensures.value);
}
