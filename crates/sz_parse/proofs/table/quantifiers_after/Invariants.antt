use Rattle.std.proofs.Common.{◌≡◌, length}
use Rattle.std.specs.Prelude.{map}
use Rattle.sz_tree.specs.View.{quantifier_of}
use Rattle.sz_parse_expr.specs.Reading.{utf8_in, all_at, with_items}
use Rattle.sz_parse_expr.specs.ReadingTypes.{type_at}
use Rattle.sz_parse.specs.ReadingTables.{quantifier_step, quantifiers_after}
use Rattle.sz_parse.proofs.table.quantifiers_after.Given as goal

-- the items so far, and those that are read from here, are all of them
abbrev pub invariant-loop-reader : goal.invariant-loop-reader
invariant-loop-reader l =
    with_items (map quantifier_of l.items.items)
    (all_at
    (quantifier_step (utf8_in l.reader.text.now) (type_at (utf8_in l.reader.text.now) l.reader.depth.levels)) l.rest)
    ≡ quantifiers_after (utf8_in l.reader.text.now) (type_at (utf8_in l.reader.text.now) l.reader.depth.levels)
    (quantifier_of l.fn.first) l.fn.reader.tokens.now

abbrev pub decreases-loop-reader : goal.decreases-loop-reader
decreases-loop-reader l = length l.rest
