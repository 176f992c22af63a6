use Rattle.std.proofs.Common.{◌≡◌, length}
use Rattle.sz_parse_expr.specs.Reading.{utf8_in, all_at, with_items}
use Rattle.sz_parse.specs.ReadingTables.{name_step, names_later}
use Rattle.sz_parse.proofs.table.names_later.Given as goal

-- the items so far, and those that are read from here, are all of them
abbrev pub invariant-loop-after : goal.invariant-loop-after
invariant-loop-after l = with_items l.items.items (all_at (name_step (utf8_in l.reader.text.now)) l.rest)
    ≡ names_later (utf8_in l.reader.text.now) l.fn.first l.fn.reader.tokens.now

abbrev pub decreases-loop-after : goal.decreases-loop-after
decreases-loop-after l = length l.rest
