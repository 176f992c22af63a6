use Rattle.std.proofs.Common.{◌≡◌, ap, ◌∙◌, arith}
use Rattle.sz_lex.proofs.Turns.{lines_below, columns_below}
use Rattle.sz_protofile_lex.specs.Tokens.{item}
use Rattle.sz_protofile_lex.proofs.Turns.{passes, gap_passes, token_passes, bad_fails, all_passed, start_front, part_is}
use Rattle.sz_protofile_lex.proofs.scan.lex.Goals as goal
use Rattle.sz_protofile_lex.proofs.scan.lex.Goals.{then-skip-gt0, else-skip-gt0+in-Gap, else-skip-gt0+in-Lexeme+in_ok-push-in-Lexeme}

pub loop-at-init : goal.loop-at-init
loop-at-init c = record {
  read = rw c.new-tokens.ensures.items (start_front _);
  line = omega arith;
  column = omega arith;
}

pub returns-in-Bad : goal.returns-in-Bad
returns-in-Bad c =
    let none : c.loop-at.skip ≡ 0 = omega arith in
    record {
      value = bad_fails c.args.text.now c.loop-at.at c.loop-at.place c.loop-at.tokens.items _ c.loop-at-test.true
          (c.in-Bad.ensures.value ∙ ap item (part_is c.args.text.now c.loop-at.at))
          (rw none at c.loop-at.invariant.read);
    }

pub loop-at-preserved : goal.loop-at-preserved
loop-at-preserved c = record {
  read = rw c.after-place.ensures (elim c.if-skip-gt0.branch [
    | then-skip-gt0 w ↦ rw (w.tokens-is, w.skip-is) (passes c.args.text.now c.loop-at.at c.loop-at.skip c.loop-at.place
        c.loop-at.tokens.items _ c.loop-at-test.true w.if-skip-gt0.true c.loop-at.invariant.read)
    | else-skip-gt0+in-Gap w ↦
        let none : c.loop-at.skip ≡ 0 = omega arith in
        rw (w.tokens-is, w.skip-is)
        (gap_passes c.args.text.now c.loop-at.at w.in-Gap.len c.loop-at.place c.loop-at.tokens.items _
        c.loop-at-test.true (w.in-Gap.ensures.value ∙ ap item (part_is c.args.text.now c.loop-at.at))
        (rw none at c.loop-at.invariant.read))
    | else-skip-gt0+in-Lexeme+in_ok-push-in-Lexeme w ↦
        let none : c.loop-at.skip ≡ 0 = omega arith in
        rw (w.tokens-is, w.skip-is, w.in_ok-push-in-Lexeme.ensures.items)
        (token_passes c.args.text.now c.loop-at.at w.in-Lexeme.len w.in-Lexeme.kind c.loop-at.place
        c.loop-at.tokens.items _ c.loop-at-test.true (w.in-Lexeme.ensures.value
        ∙ ap item (part_is c.args.text.now c.loop-at.at)) (rw none at c.loop-at.invariant.read))
  ]);
  line = rw c.after-place.ensures (lines_below _ _ _ c.loop-at.invariant.line);
  column = rw c.after-place.ensures (columns_below _ _ _ c.loop-at.invariant.column);
}

pub returns : goal.returns
returns c = record {
  value = all_passed c.args.text.now c.loop-at.at c.loop-at.skip c.loop-at.place c.loop-at.tokens.items _
      c.loop-at-test.false c.loop-at.invariant.read;
}
