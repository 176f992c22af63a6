use Rattle.std.proofs.Common.{◌≡◌, length}
use Rattle.std.specs.Prelude.{map}
use Rattle.sz_tree.specs.View.{elem_of}
use Rattle.sz_parse_expr.specs.Reading.{utf8_in, all_at, with_items}
use Rattle.sz_parse_expr.specs.ReadingTypes.{type_at}
use Rattle.sz_parse.specs.ReadingTables.{table_index_step}
use Rattle.sz_parse.proofs.table.table_indexes.Given as goal

-- the items so far, and those that are read from here, are all of them
abbrev pub invariant-loop-after : goal.invariant-loop-after
invariant-loop-after l =
    with_items (map elem_of l.items.items)
    (all_at
    (table_index_step (utf8_in l.reader.text.now) (type_at (utf8_in l.reader.text.now) l.reader.depth.levels)) l.rest)
    ≡ all_at (table_index_step (utf8_in l.reader.text.now)
    (type_at (utf8_in l.reader.text.now) l.reader.depth.levels)) l.fn.reader.tokens.now

abbrev pub decreases-loop-after : goal.decreases-loop-after
decreases-loop-after l = length l.rest
