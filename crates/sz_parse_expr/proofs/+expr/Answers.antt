use Rattle.std.proofs.Common.{◌≡◌, ◌+◌, ◌-◌, ◌≤◌, [], ◌∷◌, ◌++◌, refl, sym, ap, ◌∙◌, inl, inr, arith}
use Rattle.std.specs.Prelude.{map}
use Rattle.std.proofs.lemmas.Result.{err_from_is_err_and}
use Rattle.sz_tree.specs.Expressions.{height, pair_heights, pairs_of, binary, place_of, loose, left_loose}
use Rattle.sz_tree.specs.View.{tree_of, pair_of}
use Rattle.sz_parse_expr.specs.Reading.{utf8_in}
use Rattle.sz_parse_expr.specs.ReadingExpressions.{expr_at, comma_step, pair_step}
use Rattle.sz_parse_expr.proofs.Holds.{some_is}
use Rattle.sz_parse_expr.proofs.PostfixSound.{comma_item, pair_item}
use Rattle.sz_parse_expr.proofs.ExpressionSound.{expr_sound}
use Rattle.sz_parse_expr.proofs.Loops.{all_goes_on, all_fails, all_ends, item_shorter}
use Rattle.sz_parse_expr.proofs.ExpressionTurns.{chain_goes_on, chain_fails, chain_refused, chain_ends, chain_over, tail_goes_on, tail_stops}
use Rattle.sz_parse_expr.proofs.ExpressionTurns.{tail_fails, tail_over, comma_here, comma_gone, pair_here, pair_gone, no_comma_at_end}
use Rattle.sz_parse_expr.proofs.ExpressionTurns.{no_pair_at_end}
use Rattle.sz_parse_expr.proofs.ExpressionRows.{just, trees_push, pairs_push, heights_push, pair_heights_push, items_start, pairs_start}
use Rattle.sz_parse_expr.proofs.+expr.Goals as goal
use Rattle.sz_parse_expr.proofs.+expr.Goals.{expression::chain-then-level-left_level-via-then-level-left_level}
use Rattle.sz_parse_expr.proofs.+expr.Goals.{expression::chain-then-level-left_level-via-else-level-left_level+then-left-reader}

-- ---- operators

pub expression::chain-returns-then-level-left_level : goal.expression::chain-returns-then-level-left_level
expression::chain-returns-then-level-left_level t c =
    record {
      parsed = chain_refused (expr_at (utf8_in c.args.reader.text.now) c.args.reader.depth.levels)
          c.args.reader.depth.levels c.args.below c.loop.counter (c.args.reader.depth.levels + 1)
          (tree_of c.loop.left.tree) c.loop.left.rest.now c.in-Some.after.now c.in-Some.op _
          (omega arith) c.in-Some.ensures.value
          (elim c.then-level-left_level.branch [
            | expression::chain-then-level-left_level-via-then-level-left_level w ↦
                inl (let m = w.if-level-left_level in let x = c.level.ensures.value in
                let y = c.left_level.ensures.value in omega (arith, m, x, y))
            | expression::chain-then-level-left_level-via-else-level-left_level+then-left-reader w ↦
                inr (let m = w.if-left-reader in let h = c.loop.invariant.fits.measured in omega (arith, m, h))
          ]) c.loop.invariant.read;
    }

pub expression::chain-returns-in_err-right : goal.expression::chain-returns-in_err-right
expression::chain-returns-in_err-right t c =
    let p = err_from_is_err_and c.from_residual.result c.from_residual.ensures.1 in
    let tight : loose (tree_of c.loop.left.tree) ≤ left_loose c.in-Some.op =
    (let m = c.if-level-left_level.false in let x = c.level.ensures.value in let y = c.left_level.ensures.value in
    omega (arith, m, x, y)) in
    let low : height (tree_of c.loop.left.tree) ≤ c.args.reader.depth.levels =
    (let m = c.if-left-reader.false in let h = c.loop.invariant.fits.measured in omega (arith, m, h)) in
    record {
      parsed = rw (p.1, p.2)
          (chain_fails c.in_err-right.field-0.0 (expr_at (utf8_in c.args.reader.text.now) c.args.reader.depth.levels)
          c.args.reader.depth.levels c.args.below c.loop.counter (c.args.reader.depth.levels + 1)
          (tree_of c.loop.left.tree) c.loop.left.rest.now
          c.in-Some.after.now c.in-Some.op _ (omega arith) c.in-Some.ensures.value tight low
          (rw c.at.ensures.value at c.in_err-right.ensures.parsed) c.loop.invariant.read);
    }

pub expression::chain-loop-preserved : goal.expression::chain-loop-preserved
unfolding height
expression::chain-loop-preserved t c =
    let made : tree_of c.in_ok-tree.tree
    ≡ binary (place_of (tree_of c.loop.left.tree)) c.in-Some.op (tree_of c.loop.left.tree)
    (tree_of c.in_ok-right.right.tree) = sym (some_is c.in_ok-tree.ensures.value) in
    let measured : c.in_ok-right.right.height ≡ height (tree_of c.in_ok-right.right.tree) =
    c.in_ok-right.ensures.parsed.1.measured in
    let small : c.in_ok-right.right.height ≤ c.args.reader.depth.levels =
    (rw c.at.ensures.value at c.in_ok-right.ensures.parsed.1).low in
    let known : c.loop.left.height ≡ height (tree_of c.loop.left.tree) = c.loop.invariant.fits.measured in
    let under : c.loop.left.height ≤ c.args.reader.depth.levels =
    (let m = c.if-left-reader.false in omega (arith, m)) in
    let tight : loose (tree_of c.loop.left.tree) ≤ left_loose c.in-Some.op =
    (let m = c.if-level-left_level.false in let x = c.level.ensures.value in let y = c.left_level.ensures.value in
    omega (arith, m, x, y)) in
    record {
      read = rw made (chain_goes_on (expr_at (utf8_in c.args.reader.text.now) c.args.reader.depth.levels)
          c.args.reader.depth.levels c.args.below c.loop.counter (c.args.reader.depth.levels + 1)
          (tree_of c.loop.left.tree) (tree_of c.in_ok-right.right.tree) c.loop.left.rest.now
          c.in-Some.after.now c.in_ok-right.right.rest.now c.in-Some.op _ (omega arith) c.in-Some.ensures.value tight
          (omega (arith, known, under))
          (rw c.at.ensures.value at c.in_ok-right.ensures.parsed.0) c.loop.invariant.read);
      fits = record { measured = rw made (omega (arith, known, measured)); low = omega (arith, under, small) };
    }

pub expression::chain-returns-in_default : goal.expression::chain-returns-in_default
expression::chain-returns-in_default t c =
    record {
      parsed = (
        sym c.loop.invariant.read
            ∙ chain_ends (expr_at (utf8_in c.args.reader.text.now) c.args.reader.depth.levels)
            c.args.reader.depth.levels c.args.below (c.args.reader.depth.levels + 1 - c.loop.counter)
            (tree_of c.loop.left.tree) c.loop.left.rest.now c.in_default.ensures.value,
        c.loop.invariant.fits,
      );
    }

pub expression::chain-returns : goal.expression::chain-returns
expression::chain-returns t c =
    record {
      parsed = (
        sym c.loop.invariant.read
            ∙ chain_over (expr_at (utf8_in c.args.reader.text.now) c.args.reader.depth.levels)
            c.args.reader.depth.levels c.args.below c.loop.counter
            (c.args.reader.depth.levels + 1) (tree_of c.loop.left.tree) c.loop.left.rest.now c.loop-test.false,
        c.loop.invariant.fits,
      );
    }

-- ---- items

pub composite::items-loop-after-init : goal.composite::items-loop-after-init
unfolding height
composite::items-loop-after-init t c =
    let made : map tree_of c.push.new.self.items ≡ tree_of c.args.first.tree ∷ [] =
    rw (c.in_ok-push.ensures.items, c.new-items.ensures.items) refl in
    record {
      read = rw made (items_start (expr_at (utf8_in c.args.reader.text.now) c.args.reader.depth.levels)
          (tree_of c.args.first.tree) c.args.first.rest.now);
      measured = rw made (omega arith);
      low = c.requires.fits.low;
    }

pub composite::items-loop-after-smaller : goal.composite::items-loop-after-smaller
composite::items-loop-after-smaller t c =
    item_shorter (comma_item (utf8_in c.args.reader.text.now)
    (expr_at (utf8_in c.args.reader.text.now) c.args.reader.depth.levels) c.args.reader.depth.levels
    (expr_sound (utf8_in c.args.reader.text.now) c.args.reader.depth.levels))
    (tree_of c.in_ok-item.item.tree) c.loop-after.rest.now c.in_ok-item.item.rest.now
    (comma_here (expr_at (utf8_in c.args.reader.text.now) c.args.reader.depth.levels)
    c.loop-after.rest.now c.in-Some.after.now
    c.in-Some.ensures.value ∙ ap just (rw c.at.ensures.value at c.in_ok-item.ensures.parsed.0))

pub composite::items-returns-in_err-item : goal.composite::items-returns-in_err-item
composite::items-returns-in_err-item t c =
    let p = err_from_is_err_and c.from_residual-in_err-item.result c.from_residual-in_err-item.ensures.1 in
    record {
      parsed = rw (p.1, p.2)
          (all_fails c.in_err-item.field-0.0
          (comma_step (expr_at (utf8_in c.args.reader.text.now) c.args.reader.depth.levels)) (no_comma_at_end _)
          (map tree_of c.loop-after.items.items) c.loop-after.rest.now _ _
          (comma_here (expr_at (utf8_in c.args.reader.text.now) c.args.reader.depth.levels)
          c.loop-after.rest.now c.in-Some.after.now
          c.in-Some.ensures.value) (rw c.at.ensures.value at c.in_err-item.ensures.parsed)
          c.loop-after.invariant.read);
    }

pub composite::items-loop-after-preserved : goal.composite::items-loop-after-preserved
unfolding height
composite::items-loop-after-preserved t c =
    let made : map tree_of c.push-in-Some.new.self.items ≡ map tree_of c.loop-after.items.items
    ++ tree_of c.in_ok-item.item.tree ∷ [] =
    rw c.in_ok-push-2.ensures.items (trees_push c.loop-after.items.items c.in_ok-item.item.tree) in
    let measured : c.in_ok-item.item.height ≡ height (tree_of c.in_ok-item.item.tree) =
    c.in_ok-item.ensures.parsed.1.measured in
    let low : c.in_ok-item.item.height ≤ c.args.reader.depth.levels =
    (rw c.at.ensures.value at c.in_ok-item.ensures.parsed.1).low in
    record {
      read = rw made (all_goes_on
          (comma_item (utf8_in c.args.reader.text.now)
          (expr_at (utf8_in c.args.reader.text.now) c.args.reader.depth.levels) c.args.reader.depth.levels
          (expr_sound (utf8_in c.args.reader.text.now) c.args.reader.depth.levels))
          (no_comma_at_end _) (map tree_of c.loop-after.items.items)
          (tree_of c.in_ok-item.item.tree) c.loop-after.rest.now c.in_ok-item.item.rest.now _
          (comma_here (expr_at (utf8_in c.args.reader.text.now) c.args.reader.depth.levels)
          c.loop-after.rest.now c.in-Some.after.now c.in-Some.ensures.value
          ∙ ap just (rw c.at.ensures.value at c.in_ok-item.ensures.parsed.0)) c.loop-after.invariant.read);
      measured = rw made
          (omega (arith, heights_push (map tree_of c.loop-after.items.items) (tree_of c.in_ok-item.item.tree)));
      low = omega arith;
    }

pub composite::items-returns : goal.composite::items-returns
composite::items-returns t c =
    record {
      parsed = (
        all_ends (comma_step (expr_at (utf8_in c.args.reader.text.now) c.args.reader.depth.levels))
            (map tree_of c.loop-after.items.items) c.loop-after.rest.now _
            (comma_gone _ _ c.in_default.ensures.value) c.loop-after.invariant.read,
        record { measured = c.loop-after.invariant.measured; low = c.loop-after.invariant.low },
      );
    }

-- ---- pairs

pub composite::pairs-loop-after-init : goal.composite::pairs-loop-after-init
unfolding height
composite::pairs-loop-after-init t c =
    let made : map pair_of c.push.new.self.items ≡ pair_of c.args.first.tree ∷ [] =
    rw (c.in_ok-push.ensures.items, c.new-pairs.ensures.items) refl in
    record {
      read = rw made (pairs_start (expr_at (utf8_in c.args.reader.text.now) c.args.reader.depth.levels)
          (pair_of c.args.first.tree) c.args.first.rest.now);
      measured = rw made c.requires.fits.measured;
      low = c.requires.fits.low;
    }

pub composite::pairs-loop-after-smaller : goal.composite::pairs-loop-after-smaller
composite::pairs-loop-after-smaller t c =
    item_shorter (pair_item (utf8_in c.args.reader.text.now)
    (expr_at (utf8_in c.args.reader.text.now) c.args.reader.depth.levels) c.args.reader.depth.levels
    (expr_sound (utf8_in c.args.reader.text.now) c.args.reader.depth.levels))
    (pair_of c.in_ok-item.item.tree) c.loop-after.rest.now c.in_ok-item.item.rest.now
    (pair_here (expr_at (utf8_in c.args.reader.text.now) c.args.reader.depth.levels)
    c.loop-after.rest.now c.in-Some.after.now c.in-Some.ensures.value
    ∙ ap just (rw c.at.ensures.value at c.in_ok-item.ensures.parsed.0))

pub composite::pairs-returns-in_err-item : goal.composite::pairs-returns-in_err-item
composite::pairs-returns-in_err-item t c =
    let p = err_from_is_err_and c.from_residual-in_err-item.result c.from_residual-in_err-item.ensures.1 in
    record {
      parsed = rw (p.1, p.2)
          (all_fails c.in_err-item.field-0.0
          (pair_step (expr_at (utf8_in c.args.reader.text.now) c.args.reader.depth.levels)) (no_pair_at_end _)
          (map pair_of c.loop-after.pairs.items) c.loop-after.rest.now _ _
          (pair_here (expr_at (utf8_in c.args.reader.text.now) c.args.reader.depth.levels)
          c.loop-after.rest.now c.in-Some.after.now
          c.in-Some.ensures.value) (rw c.at.ensures.value at c.in_err-item.ensures.parsed)
          c.loop-after.invariant.read);
    }

pub composite::pairs-loop-after-preserved : goal.composite::pairs-loop-after-preserved
unfolding height
composite::pairs-loop-after-preserved t c =
    let made : map pair_of c.push-in-Some.new.self.items ≡ map pair_of c.loop-after.pairs.items
    ++ pair_of c.in_ok-item.item.tree ∷ [] =
    rw c.in_ok-push-2.ensures.items (pairs_push c.loop-after.pairs.items c.in_ok-item.item.tree) in
    let measured : c.in_ok-item.item.height ≡ pair_heights (pairs_of (pair_of c.in_ok-item.item.tree ∷ [])) =
    c.in_ok-item.ensures.parsed.1.measured in
    let low : c.in_ok-item.item.height ≤ c.args.reader.depth.levels =
    (rw c.at.ensures.value at c.in_ok-item.ensures.parsed.1).low in
    record {
      read = rw made (all_goes_on
          (pair_item (utf8_in c.args.reader.text.now)
          (expr_at (utf8_in c.args.reader.text.now) c.args.reader.depth.levels) c.args.reader.depth.levels
          (expr_sound (utf8_in c.args.reader.text.now) c.args.reader.depth.levels)) (no_pair_at_end _)
          (map pair_of c.loop-after.pairs.items)
          (pair_of c.in_ok-item.item.tree) c.loop-after.rest.now c.in_ok-item.item.rest.now _
          (pair_here (expr_at (utf8_in c.args.reader.text.now) c.args.reader.depth.levels)
          c.loop-after.rest.now c.in-Some.after.now c.in-Some.ensures.value
          ∙ ap just (rw c.at.ensures.value at c.in_ok-item.ensures.parsed.0)) c.loop-after.invariant.read);
      measured = rw made
          (omega (arith, pair_heights_push (map pair_of c.loop-after.pairs.items) (pair_of c.in_ok-item.item.tree)));
      low = omega arith;
    }

pub composite::pairs-returns : goal.composite::pairs-returns
composite::pairs-returns t c =
    record {
      parsed = (
        all_ends (pair_step (expr_at (utf8_in c.args.reader.text.now) c.args.reader.depth.levels))
            (map pair_of c.loop-after.pairs.items) c.loop-after.rest.now _
            (pair_gone _ _ c.in_default.ensures.value) c.loop-after.invariant.read,
        record { measured = c.loop-after.invariant.measured; low = c.loop-after.invariant.low },
      );
    }

-- ---- indices, slices and fields

pub postfix::parts-returns-in_err-tree : goal.postfix::parts-returns-in_err-tree
postfix::parts-returns-in_err-tree t c =
    let p = err_from_is_err_and c.from_residual.result c.from_residual.ensures.1 in
    record {
      parsed = rw (p.1, p.2) (tail_fails c.in_err-tree.field-0.0 (utf8_in c.args.reader.text.now)
          (expr_at (utf8_in c.args.reader.text.now) c.args.reader.depth.levels)
          c.args.reader.depth.levels c.loop.counter (c.args.reader.depth.levels + 1)
          (tree_of c.loop.left.tree) c.loop.left.rest.now _ (omega arith) c.in_err-tree.ensures.parsed
          c.loop.invariant.read);
    }

pub postfix::parts-returns-then-not-more : goal.postfix::parts-returns-then-not-more
postfix::parts-returns-then-not-more t c =
    record {
      parsed = (
        tail_stops (utf8_in c.args.reader.text.now)
            (expr_at (utf8_in c.args.reader.text.now) c.args.reader.depth.levels)
            c.args.reader.depth.levels c.loop.counter (c.args.reader.depth.levels + 1) (tree_of c.loop.left.tree) _
            _ c.loop.left.rest.now _ _ (omega arith) c.if-not-more.true c.in_ok-tree.ensures.parsed.0
            c.loop.invariant.read,
        record { measured = c.in_ok-tree.ensures.parsed.1.measured; low = c.in_ok-tree.ensures.parsed.1.low },
      );
    }

pub postfix::parts-loop-preserved : goal.postfix::parts-loop-preserved
postfix::parts-loop-preserved t c =
    record {
      read = tail_goes_on (utf8_in c.args.reader.text.now)
          (expr_at (utf8_in c.args.reader.text.now) c.args.reader.depth.levels)
          c.args.reader.depth.levels c.loop.counter (c.args.reader.depth.levels + 1) (tree_of c.loop.left.tree) _
          _ c.loop.left.rest.now _ _ (omega arith) c.if-not-more.false c.in_ok-tree.ensures.parsed.0
          c.loop.invariant.read;
      fits = record { measured = c.in_ok-tree.ensures.parsed.1.measured; low = c.in_ok-tree.ensures.parsed.1.low };
    }

pub postfix::parts-returns : goal.postfix::parts-returns
postfix::parts-returns t c =
    record {
      parsed = (
        sym c.loop.invariant.read
            ∙ tail_over (utf8_in c.args.reader.text.now)
            (expr_at (utf8_in c.args.reader.text.now) c.args.reader.depth.levels)
            c.args.reader.depth.levels c.loop.counter (c.args.reader.depth.levels + 1)
            (tree_of c.loop.left.tree) c.loop.left.rest.now c.loop-test.false,
        c.loop.invariant.fits,
      );
    }
