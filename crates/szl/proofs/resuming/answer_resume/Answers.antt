-- The file of types is read, and the program's file is answered.
use Rattle.std.proofs.Common.{◌∷◌, []}
use Rattle.std.proofs.lemmas.Result.{err_from_is_err_and}
use Rattle.szl.specs.Failing.{status_of}
use Rattle.szl.specs.Opening.{status_of_answer}
use Rattle.szl.specs.ProgramRuns.{vec_items_of}
use Rattle.szl.proofs.ResumeLemmas.{types_fail, file_resumed, nothing_left, file_keeps}
use Rattle.szl.proofs.AfterLemmas.{after_read, when_both}
use Rattle.szl.proofs.KeepLemmas.{not_done}
use Rattle.szl.proofs.resuming.answer_resume.Goals as goal

-- the file has no types
pub returns-in_err-proto-clause-value : goal.returns-in_err-proto-clause-value
returns-in_err-proto-clause-value g c =
    let p = err_from_is_err_and c.from_residual.result c.from_residual.ensures.1 in
    rw (p.1, p.2) (types_fail g.F.Files g.K.Disk c.args.settings.now c.args.files.now c.args.disk.now c.in_err-proto.field-0.0 c.file_named.new.files
    c.in_err-proto.ensures.value)

pub returns-in_err-proto-clause-stopped : goal.returns-in_err-proto-clause-stopped
returns-in_err-proto-clause-stopped g c =
    let p = err_from_is_err_and c.from_residual.result c.from_residual.ensures.1 in
    let f = c.in_err-proto.field-0.0 in
    let disk = c.args.disk.now in
    rw (p.1, p.2) (nothing_left g.F.Files g.K.Disk c.args.settings.now (status_of f) c.args.files.now disk (not_done f) (g.met.K.Disk.only_now disk))

-- the rest is answered with the file's types
pub returns-clause-value : goal.returns-clause-value
returns-clause-value g c =
    let proto = c.in_ok-proto.proto in
    file_resumed g.F.Files g.K.Disk c.args.settings.now c.args.files.now c.args.disk.now c.file_named.new.files c.resume_with.new.files proto.types
    proto.bytes.items (vec_items_of c.resume_with.result) c.in_ok-proto.ensures.kept c.resume_with.ensures.kept c.in_ok-proto.ensures.value
    c.in_ok-proto.ensures.read c.in_ok-proto.ensures.held c.resume_with.ensures.value

pub returns-clause-stopped : goal.returns-clause-stopped
returns-clause-stopped g c =
    let proto = c.in_ok-proto.proto in
    file_keeps g.F.Files g.K.Disk c.args.settings.now (status_of_answer (vec_items_of c.resume_with.result)) c.args.files.now c.file_named.new.files proto.types
    proto.bytes.items c.args.disk.now c.resume_with.new.disk c.in_ok-proto.ensures.kept.held_same c.in_ok-proto.ensures.read c.in_ok-proto.ensures.held
    c.resume_with.ensures.stopped c.resume_with.ensures.entries

-- all files were read to their ends
pub returns-clause-end : goal.returns-clause-end
returns-clause-end g c =
    let s = c.args.settings.now in
    when_both c.resume_with.result
    (λ end. after_read g.F.Files s.proto (s.program ∷ s.input ∷ []) c.args.files.now c.file_named.new.files c.resume_with.new.files
    c.in_ok-proto.proto.types c.in_ok-proto.ensures.value c.in_ok-proto.ensures.kept c.resume_with.ensures.kept c.in_ok-proto.ensures.end end)
    c.resume_with.ensures.end
