-- What the loops of the expressions keep, and why their calls end.
use Rattle.std.proofs.Common.{◌≡◌, ◌+◌, ◌≤◌, ◌-◌, ◌*◌, length}
use Rattle.std.specs.Prelude.{map}
use Rattle.sz_tree.specs.Expressions.{exps_of, pairs_of, height, heights, pair_heights}
use Rattle.sz_tree.specs.View.{tree_of, pair_of}
use Rattle.sz_parse_expr.specs.Reading.{utf8_in, all_at, with_items}
use Rattle.sz_parse_expr.specs.ReadingExpressions.{expr_at, chain_at, tail_at, comma_step, pair_step, items_after, pairs_after}
use Rattle.sz_parse_expr.specs.Outcome.{Fits}
use Rattle.sz_parse_expr.proofs.+expr.Given as goal

-- an expression's own function comes after those of its parts, and the loosest level first
abbrev pub decreases-expression::expr : goal.decreases-expression::expr
decreases-expression::expr l = 32 * l.reader.depth.levels

abbrev pub decreases-expression::at_level : goal.decreases-expression::at_level
decreases-expression::at_level l = 32 * l.reader.depth.levels + 16 + l.level

abbrev pub decreases-expression::prefix : goal.decreases-expression::prefix
decreases-expression::prefix l = 32 * l.reader.depth.levels + 15

abbrev pub decreases-postfix::postfix : goal.decreases-postfix::postfix
decreases-postfix::postfix l = 32 * l.reader.depth.levels + 14

abbrev pub decreases-primary::primary : goal.decreases-primary::primary
decreases-primary::primary l = 32 * l.reader.depth.levels + 13

abbrev pub decreases-primary::named : goal.decreases-primary::named
decreases-primary::named l = 32 * l.reader.depth.levels + 12

abbrev pub decreases-primary::paren : goal.decreases-primary::paren
decreases-primary::paren l = 32 * l.reader.depth.levels + 12

abbrev pub decreases-composite::composite : goal.decreases-composite::composite
decreases-composite::composite l = 32 * l.reader.depth.levels + 12

abbrev pub decreases-primary::worded : goal.decreases-primary::worded
decreases-primary::worded l = 32 * l.reader.depth.levels + 12

abbrev pub decreases-primary::call : goal.decreases-primary::call
decreases-primary::call l = 32 * l.reader.depth.levels + 11

abbrev pub decreases-composite::arguments : goal.decreases-composite::arguments
decreases-composite::arguments l = 32 * l.reader.depth.levels + 10

abbrev pub decreases-primary::condition : goal.decreases-primary::condition
decreases-primary::condition l = 32 * l.reader.depth.levels + 11

abbrev pub decreases-primary::closed : goal.decreases-primary::closed
decreases-primary::closed l = 32 * l.reader.depth.levels + 10

abbrev pub decreases-composite::list : goal.decreases-composite::list
decreases-composite::list l = 32 * l.reader.depth.levels + 11

abbrev pub decreases-composite::map : goal.decreases-composite::map
decreases-composite::map l = 32 * l.reader.depth.levels + 11

abbrev pub decreases-composite::items : goal.decreases-composite::items
decreases-composite::items l = 32 * l.reader.depth.levels + 5

abbrev pub decreases-composite::pairs : goal.decreases-composite::pairs
decreases-composite::pairs l = 32 * l.reader.depth.levels + 5

abbrev pub decreases-composite::pair : goal.decreases-composite::pair
decreases-composite::pair l = 32 * l.reader.depth.levels + 4

abbrev pub decreases-postfix::parts : goal.decreases-postfix::parts
decreases-postfix::parts l = 32 * l.reader.depth.levels + 5

abbrev pub decreases-postfix::part : goal.decreases-postfix::part
decreases-postfix::part l = 32 * l.reader.depth.levels + 4

abbrev pub decreases-postfix::bracket : goal.decreases-postfix::bracket
decreases-postfix::bracket l = 32 * l.reader.depth.levels + 3

abbrev pub decreases-postfix::slice : goal.decreases-postfix::slice
decreases-postfix::slice l = 32 * l.reader.depth.levels + 2

abbrev pub decreases-expression::chain : goal.decreases-expression::chain
decreases-expression::chain l = 32 * l.reader.depth.levels + 5

-- the turns that are left, from here, give what all of them give
abbrev pub invariant-expression::chain-loop : goal.invariant-expression::chain-loop
invariant-expression::chain-loop l = record {
  read : chain_at (expr_at (utf8_in l.reader.text.now) l.reader.depth.levels) l.reader.depth.levels l.below
      (l.end - l.counter) (tree_of l.left.tree) l.left.rest.now ≡ chain_at (expr_at (utf8_in l.reader.text.now)
      l.reader.depth.levels) l.reader.depth.levels l.below (l.reader.depth.levels + 1)
      (tree_of l.fn.first.tree) l.fn.first.rest.now;
  fits : Fits tree_of height (l.reader.depth.levels + 1) l.left;
}

abbrev pub invariant-postfix::parts-loop : goal.invariant-postfix::parts-loop
invariant-postfix::parts-loop l = record {
  read : tail_at (utf8_in l.reader.text.now)
      (expr_at (utf8_in l.reader.text.now) l.reader.depth.levels) l.reader.depth.levels (l.end - l.counter)
      (tree_of l.left.tree) l.left.rest.now
      ≡ tail_at (utf8_in l.reader.text.now)
      (expr_at (utf8_in l.reader.text.now) l.reader.depth.levels) l.reader.depth.levels
      (l.reader.depth.levels + 1) (tree_of l.fn.first.tree) l.fn.first.rest.now;
  fits : Fits tree_of height (l.reader.depth.levels + 1) l.left;
}

-- the items so far, and those that are read from here, are all of them
abbrev pub invariant-composite::items-loop-after : goal.invariant-composite::items-loop-after
invariant-composite::items-loop-after l = record {
  read : with_items (map tree_of l.items.items)
      (all_at (comma_step (expr_at (utf8_in l.reader.text.now) l.reader.depth.levels)) l.rest)
      ≡ items_after (expr_at (utf8_in l.reader.text.now) l.reader.depth.levels)
      (tree_of l.fn.first.tree) l.fn.first.rest.now;
  measured : l.height ≡ heights (exps_of (map tree_of l.items.items));
  low : l.height ≤ l.reader.depth.levels;
}

abbrev pub decreases-composite::items-loop-after : goal.decreases-composite::items-loop-after
decreases-composite::items-loop-after l = length l.rest

abbrev pub invariant-composite::pairs-loop-after : goal.invariant-composite::pairs-loop-after
invariant-composite::pairs-loop-after l = record {
  read : with_items (map pair_of l.pairs.items)
      (all_at (pair_step (expr_at (utf8_in l.reader.text.now) l.reader.depth.levels)) l.rest)
      ≡ pairs_after (expr_at (utf8_in l.reader.text.now) l.reader.depth.levels)
      (pair_of l.fn.first.tree) l.fn.first.rest.now;
  measured : l.height ≡ pair_heights (pairs_of (map pair_of l.pairs.items));
  low : l.height ≤ l.reader.depth.levels;
}

abbrev pub decreases-composite::pairs-loop-after : goal.decreases-composite::pairs-loop-after
decreases-composite::pairs-loop-after l = length l.rest
