use Rattle.std.proofs.Common.{◌≡◌, length}
use Rattle.std.specs.Prelude.{map}
use Rattle.sz_tree.specs.View.{step_of}
use Rattle.sz_parse_expr.specs.Reading.{utf8_in, all_at, with_items}
use Rattle.sz_parse_expr.specs.ReadingExpressions.{expr_at}
use Rattle.sz_parse.specs.ReadingStatements.{path_step}
use Rattle.sz_parse.proofs.simple.steps.Given as goal

-- the items so far, and those that are read from here, are all of them
abbrev pub invariant-loop-reader : goal.invariant-loop-reader
invariant-loop-reader l =
    with_items (map step_of l.items.items) (all_at
    (path_step (utf8_in l.reader.text.now) (expr_at (utf8_in l.reader.text.now) l.reader.depth.levels)) l.rest)
    ≡ all_at (path_step (utf8_in l.reader.text.now) (expr_at (utf8_in l.reader.text.now) l.reader.depth.levels))
    l.fn.reader.tokens.now

abbrev pub decreases-loop-reader : goal.decreases-loop-reader
decreases-loop-reader l = length l.rest
