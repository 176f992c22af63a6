-- All of the file is read, or as much as fixes its ending.
use Rattle.std.proofs.Common.{arith}
use Rattle.std.proofs.lemmas.Result.{err_from_is_err_and, IfErr-weaker, IfOk-weaker}
use Rattle.szl_cut.proofs.ReadingLemmas.{ends_whole, ends_not, read_out}
use Rattle.szl_cut.proofs.cut.cut_opened.Goals as goal

-- less is left to be read
pub loop-progress-smaller : goal.loop-progress-smaller
loop-progress-smaller g c =
    (c.in_ok-read_next.ensures.read c.args.size (g.F.Files.left c.args.files.now c.args.file)
    c.loop-progress.invariant.reached).less c.if-branch.true

-- parts have the size that was asked for
pub finish-requires : goal.finish-requires
finish-requires g c =
    let r = c.in_ok-read_next.ensures.read c.args.size (g.F.Files.left c.args.files.now c.args.file)
    c.loop-progress.invariant.reached in
    let same = r.reached.at.same_size in
    let some = c.requires.size in
    record { size = omega (arith, same, some) }

-- all of it was read
pub returns-clause-places : goal.returns-clause-places
returns-clause-places g c =
    let start = g.F.Files.left c.args.files.now c.args.file in
    let left = g.F.Files.left c.read_next.new.files c.args.file in
    let r = c.in_ok-read_next.ensures.read c.args.size start c.loop-progress.invariant.reached in
    IfOk-weaker c.finish.result _ _
    (λ places. ends_whole c.args.size c.read_next.new.progress start left places.items r.reached
    (r.at_end c.if-branch.false)) c.finish.ensures.whole

pub returns-clause-end : goal.returns-clause-end
returns-clause-end g c =
    let start = g.F.Files.left c.args.files.now c.args.file in
    let left = g.F.Files.left c.read_next.new.files c.args.file in
    let r = c.in_ok-read_next.ensures.read c.args.size start c.loop-progress.invariant.reached in
    read_out c.finish.result c.args.size c.read_next.new.progress start left r.reached (r.at_end c.if-branch.false)

pub returns-clause-why : goal.returns-clause-why
returns-clause-why g c =
    let start = g.F.Files.left c.args.files.now c.args.file in
    let left = g.F.Files.left c.read_next.new.files c.args.file in
    let r = c.in_ok-read_next.ensures.read c.args.size start c.loop-progress.invariant.reached in
    IfErr-weaker c.finish.result _ _
    (λ failure. ends_not c.args.size c.read_next.new.progress start left failure r.reached
    (r.at_end c.if-branch.false)) c.finish.ensures.stopped

-- the reading stopped
pub returns-in_err-read_next-clause-why : goal.returns-in_err-read_next-clause-why
returns-in_err-read_next-clause-why g c =
    let p = err_from_is_err_and c.from_residual-in_err-read_next.result c.from_residual-in_err-read_next.ensures.1 in
    rw (p.1, p.2) (c.in_err-read_next.ensures.why c.args.size (g.F.Files.left c.args.files.now c.args.file)
    c.loop-progress.invariant.reached)
