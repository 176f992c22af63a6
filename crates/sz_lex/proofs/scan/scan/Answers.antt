use Rattle.std.proofs.Common.{◌≡◌, ◌-◌, ◌≤◌, length, take, drop, ap, ◌∙◌, arith}
use Rattle.sz_lex.specs.Reading.{item}
use Rattle.sz_lex.proofs.RefusalLemmas.{gap_positive, lexeme_positive}
use Rattle.sz_lex.proofs.Turns.{passes, gap_passes, token_passes, char_fails, literal_fails, all_passed, start_front, part_is, lines_below}
use Rattle.sz_lex.proofs.Turns.{columns_below}
use Rattle.sz_lex.proofs.scan.scan.Goals as goal
use Rattle.sz_lex.proofs.scan.scan.Goals.{then-skip-gt0, else-skip-gt0+in-Gap, else-skip-gt0+in-Lexeme+in_ok-push-in-Lexeme}

pub loop-at-init : goal.loop-at-init
loop-at-init c = record {
  read = rw c.new-tokens.ensures.items (start_front _);
  line = omega arith;
  column = omega arith;
}

pub overflow_sub-skip-in-Gap : goal.overflow_sub-skip-in-Gap
overflow_sub-skip-in-Gap c = let some : 1 ≤ c.in-Gap.len = gap_positive (take (length c.args.text.now - c.loop-at.at)
    (drop c.loop-at.at c.args.text.now)) c.in-Gap.len c.in-Gap.ensures in omega (arith, some)

pub overflow_sub-skip-in-Lexeme : goal.overflow_sub-skip-in-Lexeme
overflow_sub-skip-in-Lexeme c = let some : 1 ≤ c.in-Lexeme.len =
    lexeme_positive (take (length c.args.text.now - c.loop-at.at)
    (drop c.loop-at.at c.args.text.now)) c.in-Lexeme.kind c.in-Lexeme.len c.in-Lexeme.ensures in omega (arith, some)

pub returns-in-BadChar : goal.returns-in-BadChar
returns-in-BadChar c =
    let none : c.loop-at.skip ≡ 0 = omega arith in
    char_fails c.args.text.now c.loop-at.at c.loop-at.place c.loop-at.tokens.items _ c.loop-at-test.true
    (c.in-BadChar.ensures ∙ ap item (part_is c.args.text.now c.loop-at.at)) (rw none at c.loop-at.invariant.read)

pub returns-in-BadLiteral : goal.returns-in-BadLiteral
returns-in-BadLiteral c =
    let none : c.loop-at.skip ≡ 0 = omega arith in
    literal_fails c.args.text.now c.loop-at.at c.loop-at.place c.loop-at.tokens.items _ c.loop-at-test.true
    (c.in-BadLiteral.ensures ∙ ap item (part_is c.args.text.now c.loop-at.at)) (rw none at c.loop-at.invariant.read)

pub loop-at-preserved : goal.loop-at-preserved
loop-at-preserved c = record {
  read = rw c.after-place.ensures (elim c.if-skip-gt0.branch [
    | then-skip-gt0 w ↦ rw (w.tokens-is, w.skip-is) (passes c.args.text.now c.loop-at.at c.loop-at.skip c.loop-at.place
        c.loop-at.tokens.items _ c.loop-at-test.true w.if-skip-gt0.true c.loop-at.invariant.read)
    | else-skip-gt0+in-Gap w ↦
        let none : c.loop-at.skip ≡ 0 = omega arith in
        rw (w.tokens-is, w.skip-is)
        (gap_passes c.args.text.now c.loop-at.at w.in-Gap.len c.loop-at.place c.loop-at.tokens.items _
        c.loop-at-test.true (w.in-Gap.ensures ∙ ap item (part_is c.args.text.now c.loop-at.at))
        (rw none at c.loop-at.invariant.read))
    | else-skip-gt0+in-Lexeme+in_ok-push-in-Lexeme w ↦
        let none : c.loop-at.skip ≡ 0 = omega arith in
        rw (w.tokens-is, w.skip-is, w.in_ok-push-in-Lexeme.ensures.items)
        (token_passes c.args.text.now c.loop-at.at w.in-Lexeme.len w.in-Lexeme.kind c.loop-at.place
        c.loop-at.tokens.items _
        c.loop-at-test.true (w.in-Lexeme.ensures ∙ ap item (part_is c.args.text.now c.loop-at.at))
        (rw none at c.loop-at.invariant.read))
  ]);
  line = rw c.after-place.ensures (lines_below _ _ _ c.loop-at.invariant.line);
  column = rw c.after-place.ensures (columns_below _ _ _ c.loop-at.invariant.column);
}

pub returns : goal.returns
returns c = all_passed c.args.text.now c.loop-at.at c.loop-at.skip c.loop-at.place c.loop-at.tokens.items _
    c.loop-at-test.false c.loop-at.invariant.read
