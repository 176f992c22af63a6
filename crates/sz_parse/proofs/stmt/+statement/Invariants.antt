-- What the loop of the statements keeps, and why their calls end.
use Rattle.std.proofs.Common.{◌≡◌, ◌+◌, ◌*◌, length}
use Rattle.std.specs.Prelude.{map}
use Rattle.sz_tree.specs.View.{stm_of}
use Rattle.sz_parse_expr.specs.Reading.{utf8_in, all_at, with_items}
use Rattle.sz_parse.specs.ReadingStatements.{stm_at, stm_step}
use Rattle.sz_parse.proofs.stmt.+statement.Given as goal

-- a statement's own function comes after those of its parts
abbrev pub decreases-statement : goal.decreases-statement
decreases-statement l = 16 * l.reader.depth.levels

abbrev pub decreases-boxed : goal.decreases-boxed
decreases-boxed l = 16 * l.reader.depth.levels + 1

abbrev pub decreases-step : goal.decreases-step
decreases-step l = 16 * l.reader.depth.levels + 9

abbrev pub decreases-named : goal.decreases-named
decreases-named l = 16 * l.reader.depth.levels + 8

abbrev pub decreases-colon : goal.decreases-colon
decreases-colon l = 16 * l.reader.depth.levels + 7

abbrev pub decreases-function : goal.decreases-function
decreases-function l = 16 * l.reader.depth.levels + 6

abbrev pub decreases-block : goal.decreases-block
decreases-block l = 16 * l.reader.depth.levels + 6

abbrev pub decreases-body : goal.decreases-body
decreases-body l = 16 * l.reader.depth.levels + 5

abbrev pub decreases-statements : goal.decreases-statements
decreases-statements l = 16 * l.reader.depth.levels + 4

abbrev pub decreases-worded : goal.decreases-worded
decreases-worded l = 16 * l.reader.depth.levels + 8

abbrev pub decreases-choice : goal.decreases-choice
decreases-choice l = 16 * l.reader.depth.levels + 3

abbrev pub decreases-repeat : goal.decreases-repeat
decreases-repeat l = 16 * l.reader.depth.levels + 3

abbrev pub decreases-repeat_until : goal.decreases-repeat_until
decreases-repeat_until l = 16 * l.reader.depth.levels + 3

abbrev pub decreases-for_loop : goal.decreases-for_loop
decreases-for_loop l = 16 * l.reader.depth.levels + 3

abbrev pub decreases-when : goal.decreases-when
decreases-when l = 16 * l.reader.depth.levels + 3

-- the statements so far, and those that are read from here, are all of them
abbrev pub invariant-statements-loop-reader : goal.invariant-statements-loop-reader
invariant-statements-loop-reader l =
    with_items (map stm_of l.items.items)
    (all_at (stm_step (stm_at (utf8_in l.reader.text.now) l.reader.depth.levels)) l.rest)
    ≡ all_at (stm_step (stm_at (utf8_in l.reader.text.now) l.reader.depth.levels)) l.fn.reader.tokens.now

abbrev pub decreases-statements-loop-reader : goal.decreases-statements-loop-reader
decreases-statements-loop-reader l = length l.rest
