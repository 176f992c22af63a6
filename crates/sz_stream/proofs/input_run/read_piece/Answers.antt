use Rattle.std.proofs.Common.{◌≡◌, length, rules, subst}
use Rattle.sz_stream.specs.InputRuns.{ReadsPiece}
use Rattle.sz_stream.proofs.ReachLemmas.{reads_piece}
use Rattle.sz_stream.proofs.input_run.read_piece.Goals as goal

-- the piece was taken in
pub returns-in_ok-take-in-Ok-clause-ok : goal.returns-in_ok-take-in-Ok-clause-ok
returns-in_ok-take-in-Ok-clause-ok g c =
    let left = g.F.Files.left c.args.files.now c.args.file in
    let after = g.F.Files.left c.read.new.self c.args.file in
    let long : length c.read.new.into ≡ length c.args.buffer.now = search rules in
    subst (λ room. ReadsPiece room c.args.intake.now c.take.new.self left after) long
    (reads_piece c.args.intake.now c.take.new.self c.read.new.into c.in-Ok.count left after
    c.requires.can_read c.requires.more c.in-Ok.ensures.within
    (search rules) c.in-Ok.ensures.bytes c.in_ok-take-in-Ok.ensures.taken c.take.ensures.kept)
