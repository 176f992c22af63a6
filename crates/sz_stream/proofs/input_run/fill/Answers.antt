use Rattle.std.proofs.Common.{◌≡◌, length, IsTrue, sym, ◌∙◌, subst, inr, rules}
use Rattle.sz_stream.specs.Intakes.{IsAnswered}
use Rattle.sz_stream.specs.InputRuns.{ReadsPiece}
use Rattle.sz_stream.proofs.RunLemmas.{few_left, closed_within}
use Rattle.sz_stream.proofs.ReachLemmas.{can_closed, fills_closed, is_ready, keeps_on}
use Rattle.sz_stream.proofs.FillLemmas.{fills_more, reads_no_more, no_more_closed}
use Rattle.sz_stream.proofs.input_run.fill.Goals as goal

-- shards can be closed
pub wants_piece-requires-clause-within : goal.wants_piece-requires-clause-within
wants_piece-requires-clause-within g c =
    let r = c.loop-intake.invariant.can_read in
    closed_within r.done r.job r.frame r.most c.loop-intake.intake r.emits r.read r.over r.running

pub wants_piece-requires-clause-few : goal.wants_piece-requires-clause-few
wants_piece-requires-clause-few g c =
    let r = c.loop-intake.invariant.can_read in
    few_left r.done r.job r.frame r.most c.loop-intake.intake r.emits r.read r.over r.running

-- a piece can be read
pub read_piece-requires-clause-can_read : goal.read_piece-requires-clause-can_read
read_piece-requires-clause-can_read g c =
    can_closed
    c.loop-intake.intake c.wants_piece.new.self c.in_ok-wants_piece.ensures.closed c.loop-intake.invariant.can_read

-- a piece was read
pub loop-intake-preserved : goal.loop-intake-preserved
loop-intake-preserved g c =
    let files = g.F.Files in
    let file = c.args.file in
    let first = c.args.intake.now in
    let left = files.left c.loop-intake.files file in
    let mid = c.wants_piece.new.self in
    let closed = fills_closed first c.loop-intake.intake mid (files.left c.args.files.now file) left
    c.in_ok-wants_piece.ensures.closed c.loop-intake.invariant.fills in
    let long : length c.loop-intake.buffer ≡ length c.args.buffer.now = search rules in
    let reads = subst (λ room. ReadsPiece room mid c.read_piece.new.intake left
    (files.left c.read_piece.new.files file)) long c.in_ok-read_piece.ensures.ok in
    let same = c.in_ok-wants_piece.ensures.closed.first ∙ c.loop-intake.invariant.first in
    record {
      given = subst IsTrue (sym (c.read_piece.ensures.kept.given_same file)) c.loop-intake.invariant.given;
      can_read = reads.can_read;
      fills = fills_more (length c.args.buffer.now) first mid c.read_piece.new.intake
          (files.left c.args.files.now file) left (files.left c.read_piece.new.files file) closed reads;
      wanted = inr (reads_no_more (length c.args.buffer.now) first mid c.read_piece.new.intake
          (files.left c.args.files.now file) left (files.left c.read_piece.new.files file) closed same
          (subst (IsAnswered mid) c.if-branch.true c.in_ok-wants_piece.ensures.answer) reads);
      first = c.read_piece.ensures.first ∙ same;
      first_shard =
          c.read_piece.ensures.first_shard ∙ c.in_ok-wants_piece.ensures.closed.first_shard
          ∙ c.loop-intake.invariant.first_shard;
      kept = keeps_on files.held files.left files.given files.names files.faults file
          c.args.files.now c.loop-intake.files c.read_piece.new.files
          c.loop-intake.invariant.kept c.read_piece.ensures.kept;
    }

-- all that was read was taken in
pub returns-clause-ok : goal.returns-clause-ok
returns-clause-ok g c =
    fills_closed c.args.intake.now c.loop-intake.intake c.wants_piece.new.self
    (g.F.Files.left c.args.files.now c.args.file)
    (g.F.Files.left c.loop-intake.files c.args.file) c.in_ok-wants_piece.ensures.closed c.loop-intake.invariant.fills

-- and no more has to be read
pub returns-clause-full : goal.returns-clause-full
returns-clause-full g c = subst (IsAnswered c.wants_piece.new.self) c.if-branch.false c.in_ok-wants_piece.ensures.answer

-- the round is no larger than it may be
pub returns-clause-fits : goal.returns-clause-fits
returns-clause-fits g c = c.in_ok-wants_piece.ensures.closed.fits c.loop-intake.invariant.can_read.running.fits

-- so a round is ready
pub returns-clause-ready : goal.returns-clause-ready
returns-clause-ready g c =
    let new = c.wants_piece.new.self in
    is_ready new
    (can_closed c.loop-intake.intake new c.in_ok-wants_piece.ensures.closed c.loop-intake.invariant.can_read)
    (subst (IsAnswered new) c.if-branch.false c.in_ok-wants_piece.ensures.answer)

-- each piece was wanted
pub returns-clause-wanted : goal.returns-clause-wanted
returns-clause-wanted g c =
    no_more_closed c.args.files.now c.loop-intake.files (length c.args.buffer.now)
    c.args.intake.now c.loop-intake.intake c.wants_piece.new.self
    (g.F.Files.left c.args.files.now c.args.file)
    (g.F.Files.left c.loop-intake.files c.args.file) c.in_ok-wants_piece.ensures.closed
    c.loop-intake.invariant.wanted

-- where the records at hand begin
pub returns-clause-first : goal.returns-clause-first
returns-clause-first g c = c.in_ok-wants_piece.ensures.closed.first ∙ c.loop-intake.invariant.first

-- and their first shard
pub returns-clause-first_shard : goal.returns-clause-first_shard
returns-clause-first_shard g c = c.in_ok-wants_piece.ensures.closed.first_shard ∙ c.loop-intake.invariant.first_shard
