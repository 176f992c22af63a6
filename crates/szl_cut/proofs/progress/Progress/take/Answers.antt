-- The piece is taken in, or it fixes another ending.
use Rattle.std.proofs.Common.{refl, sym, ◌∙◌}
use Rattle.szl_cut.proofs.ReadingLemmas.{on_ok, if_err, takes, stops}
use Rattle.szl_cut.proofs.progress.Progress.take.Goals as goal

pub returns-clause-taken : goal.returns-clause-taken
returns-clause-taken c =
    on_ok c.ended.result (λ ok size fed given at going.
    takes c.args.self.now (record c.args.self.now { framer = c.feed.new.self; records = c.feed.new.into })
    c.note_all.new.self c.args.piece.now c.feed.new.into refl c.in_ok-note_all.ensures.value
    c.in_ok-note_all.ensures.none c.in_ok-ending.ending c.in_ok-ending.ensures.fed c.in_ok-ending.ensures.known
    c.in_ok-ending.ensures.ends (sym c.ended.ensures.value ∙ ok) size fed given at)

pub returns-clause-stopped : goal.returns-clause-stopped
returns-clause-stopped c =
    if_err c.ended.result (λ failure err.
    stops c.args.self.now (record c.args.self.now { framer = c.feed.new.self; records = c.feed.new.into })
    c.note_all.new.self c.args.piece.now c.feed.new.into refl c.in_ok-note_all.ensures.value
    c.in_ok-note_all.ensures.none c.in_ok-ending.ending c.in_ok-ending.ensures.fed c.in_ok-ending.ensures.known
    c.in_ok-ending.ensures.ends failure (sym c.ended.ensures.value ∙ err))
