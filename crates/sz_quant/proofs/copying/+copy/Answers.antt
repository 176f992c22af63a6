-- A node whose parts stand in a vector is that of the copies.
use Rattle.sz_quant.proofs.TurnLemmas.{copied_call, copied_list, copied_map}
use Rattle.sz_quant.proofs.copying.+copy.Goals as goal

pub copy-returns-in_ok-copy_all-in-Call : goal.copy-returns-in_ok-copy_all-in-Call
copy-returns-in_ok-copy_all-in-Call t c = record {
  value = copied_call c.call.result c.args.tree.now c.in_ok-name-in-Call.name c.in-Call.name
      c.in_ok-copy_all-in-Call.field-0 c.in-Call.items c.call.ensures.value c.in_ok-name-in-Call.ensures.value
      (rw c.as_slice.ensures.value at c.in_ok-copy_all-in-Call.ensures.value)
      c.in-Call.is;
}

pub copy-returns-in_ok-copy_all-in-List : goal.copy-returns-in_ok-copy_all-in-List
copy-returns-in_ok-copy_all-in-List t c = record {
  value = copied_list c.list.result c.args.tree.now c.in-List.place c.in_ok-copy_all-in-List.field-0 c.in-List.items
      c.list.ensures.value
      (rw c.as_slice-in-List.ensures.value at c.in_ok-copy_all-in-List.ensures.value) c.in-List.is;
}

pub copy-returns-in_ok-copy_pairs-in-Map : goal.copy-returns-in_ok-copy_pairs-in-Map
copy-returns-in_ok-copy_pairs-in-Map t c = record {
  value = copied_map c.map.result c.args.tree.now c.in-Map.place c.in_ok-copy_pairs-in-Map.field-0 c.in-Map.pairs
      c.map.ensures.value (rw c.as_slice-in-Map.ensures.value at c.in_ok-copy_pairs-in-Map.ensures.value) c.in-Map.is;
}
