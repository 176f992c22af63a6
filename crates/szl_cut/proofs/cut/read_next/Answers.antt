-- A piece was read.
use Rattle.std.proofs.Common.{take, ap}
use Rattle.std.specs.Prelude.{Result, Err}
use Rattle.std.proofs.lemmas.Result.{err_from_is_err_and}
use Rattle.szl_cut.specs.declared.failure.Failure.{Failure}
use Rattle.szl_cut.proofs.ReadingLemmas.{err_parts, reads_piece, stops_there}
use Rattle.szl_cut.proofs.cut.read_next.Goals as goal

-- it was taken in
pub returns-in_ok-take-in-Ok-clause-read : goal.returns-in_ok-take-in-Ok-clause-read
returns-in_ok-take-in-Ok-clause-read g c =
    reads_piece c.args.progress.now c.take.new.self c.read.new.into c.in-Ok.count
    (g.F.Files.left c.args.files.now c.args.file) (g.F.Files.left c.read.new.self c.args.file)
    c.in-Ok.count-test.1 c.in-Ok.ensures.within c.in-Ok.ensures.bytes.0 c.in_ok-take-in-Ok.ensures.taken

-- it fixes another ending
pub returns-in_err-take-in-Ok-clause-why : goal.returns-in_err-take-in-Ok-clause-why
returns-in_err-take-in-Ok-clause-why g c =
    let p = err_from_is_err_and c.from_residual.result c.from_residual.ensures.1 in
    rw (p.1, p.2) (stops_there c.args.progress.now (take c.in-Ok.count c.read.new.into) c.in_err-take-in-Ok.field-0.0
    (g.F.Files.left c.args.files.now c.args.file) (g.F.Files.left c.read.new.self c.args.file) c.in-Ok.ensures.bytes.0
    c.in_err-take-in-Ok.ensures.stopped)

-- that isn't one of reading
pub returns-in_err-take-in-Ok-clause-failed : goal.returns-in_err-take-in-Ok-clause-failed
returns-in_err-take-in-Ok-clause-failed g c =
    let p = err_from_is_err_and c.from_residual.result c.from_residual.ensures.1 in
    rw (p.1, p.2) (λ is. absurd (c.in_err-take-in-Ok.ensures.unread
    (ap (λ (f : Failure). let r : Result (Unit {0}) Failure = Err f in r) (err_parts is))))
