use Rattle.std.proofs.Common.{sym, ◌∙◌}
use Rattle.sz_protofile_lex.proofs.Searches.{comment_starts, comment_closes, comment_goes_on, comment_is_open}
use Rattle.sz_protofile_lex.proofs.item.comment_len.Goals as goal

pub loop-at-init : goal.loop-at-init
loop-at-init c = record { len = comment_starts c.args.text.now }

pub returns-then-ends_comment-clause-value : goal.returns-then-ends_comment-clause-value
returns-then-ends_comment-clause-value c =
    comment_closes c.args.text.now c.loop-at.at c.loop-at.star _ c.loop-at.invariant.len
    c.loop-at-test.true (sym c.ends_comment.ensures.value ∙ c.if-ends_comment.true)

pub loop-at-preserved : goal.loop-at-preserved
loop-at-preserved c = record {
  len = comment_goes_on c.args.text.now c.loop-at.at c.loop-at.star _ c.loop-at.invariant.len c.loop-at-test.true
      (sym c.ends_comment.ensures.value ∙ c.if-ends_comment.false);
}

pub returns-clause-value : goal.returns-clause-value
returns-clause-value c =
    comment_is_open c.args.text.now c.loop-at.at c.loop-at.star _ c.loop-at.invariant.len c.loop-at-test.false
