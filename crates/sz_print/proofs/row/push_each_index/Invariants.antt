-- The indexes so far were appended.
use Rattle.std.proofs.Common.{◌≡◌, ◌++◌, map, take, flat_map}
use Rattle.sz_value.specs.Seen.{seen}
use Rattle.sz_print.specs.Lines.{index_text}
use Rattle.sz_print.proofs.row.push_each_index.Given as goal

abbrev pub invariant-loop-index : goal.invariant-loop-index
invariant-loop-index l =
    l.out.items ≡ l.initial.out.items ++ flat_map index_text (map seen (take l.index-index l.indexes))
