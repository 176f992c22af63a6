use Rattle.std.proofs.Common.{List, Some, ap, sym, ◌∙◌}
use Rattle.sz_protofile_lex.specs.declared.token.Token.{Token}
use Rattle.sz_protofile.specs.Brackets.{innermost, at_end}
use Rattle.sz_protofile.proofs.SkipLemmas.{part_is, stops, fails, passes, opens, closes, ended}
use Rattle.sz_protofile.proofs.brackets.past.Goals as goal
use Rattle.sz_protofile.proofs.brackets.past.Goals.{in-Pass, in-Open+in_ok-push-in-Open, in-Close}

pub returns-in-Stop : goal.returns-in-Stop
returns-in-Stop c = record {
  read = stops c.args.ends c.args.tokens.now c.loop-at.at c.loop-at.due.items _ c.loop-at.invariant.read _ _
      c.loop-at-test.true (c.innermost.ensures.value ∙ ap innermost c.as_slice.ensures.value) c.in-Stop.ensures
      ∙ ap (λ (ts : List Token). Some ts) (sym (part_is c.args.tokens.now c.loop-at.at));
}

pub returns-in-Fail : goal.returns-in-Fail
returns-in-Fail c = record {
  read = fails c.args.ends c.args.tokens.now c.loop-at.at c.loop-at.due.items _ c.loop-at.invariant.read _ _
      c.loop-at-test.true (c.innermost.ensures.value ∙ ap innermost c.as_slice.ensures.value) c.in-Fail.ensures;
}

pub loop-at-preserved : goal.loop-at-preserved
loop-at-preserved c = record {
  read = elim c.match-turn_of.branch [
    | in-Pass w ↦ rw w.due-is (passes c.args.ends c.args.tokens.now c.loop-at.at c.loop-at.due.items _
        c.loop-at.invariant.read _ _ c.loop-at-test.true
        (c.innermost.ensures.value ∙ ap innermost c.as_slice.ensures.value) w.in-Pass.ensures)
    | in-Open+in_ok-push-in-Open w ↦ rw (w.due-is, w.in_ok-push-in-Open.ensures.items) (opens c.args.ends
        c.args.tokens.now c.loop-at.at c.loop-at.due.items _ c.loop-at.invariant.read _ _ _ c.loop-at-test.true
        (c.innermost.ensures.value ∙ ap innermost c.as_slice.ensures.value) w.in-Open.ensures)
    | in-Close w ↦ rw (w.due-is, w.close.ensures.items) (closes c.args.ends c.args.tokens.now c.loop-at.at
        c.loop-at.due.items _ c.loop-at.invariant.read _ _ c.loop-at-test.true
        (c.innermost.ensures.value ∙ ap innermost c.as_slice.ensures.value) w.in-Close.ensures)
  ];
}

pub returns : goal.returns
returns c = record {
  read = rw (ended c.args.ends c.args.tokens.now c.loop-at.at c.loop-at.due.items _
      c.loop-at.invariant.read c.loop-at-test.false
      ∙ sym (ap at_end c.as_slice-2.ensures.value)) c.at_end.ensures.read;
}
