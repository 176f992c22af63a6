use Rattle.std.proofs.Common.{sym, ◌∙◌}
use Rattle.sz_stream.proofs.FedLemmas.{feeds_piece, ends_input}
use Rattle.sz_stream.proofs.intake.Intake.take.Goals as goal

-- the end was read
pub returns-then-is_empty-clause-taken : goal.returns-then-is_empty-clause-taken
returns-then-is_empty-clause-taken c =
    let old = c.args.self.now in
    ends_input old.framer c.finish.new.self c.args.piece.now old.round.records c.finish.new.into c.in_ok-ending.ending
    c.in_ok-ending.ensures.finished c.in_ok-ending.ensures.ends (sym c.is_empty.ensures ∙ c.if-is_empty.true)

-- a piece was read
pub returns-clause-taken : goal.returns-clause-taken
returns-clause-taken c =
    let old = c.args.self.now in
    feeds_piece old.framer c.feed.new.self c.args.piece.now old.round.records c.feed.new.into c.in_ok-self.field-0
    c.in_ok-self.ensures.fed c.in_ok-self.ensures.ends c.in_ok-self.ensures.known
    (sym c.is_empty.ensures ∙ c.if-is_empty.false)
