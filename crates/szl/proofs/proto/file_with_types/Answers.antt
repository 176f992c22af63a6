use Rattle.std.proofs.Common.{subst}
use Rattle.std.specs.Prelude.{Ok, Err}
use Rattle.std.proofs.lemmas.Result.{err_from_is_err_and}
use Rattle.sz_protofile_types.specs.Readings.{with_types}
use Rattle.szl.specs.ProtoFiles.{IsFileRead}
use Rattle.szl.specs.ProtoReads.{TellsTypes}
use Rattle.szl.proofs.ProtoLemmas.{bytes_held, file_unread, file_told}
use Rattle.szl.proofs.proto.file_with_types.Goals as goal

-- the file couldn't be read
pub returns-in_err-bytes-clause-value : goal.returns-in_err-bytes-clause-value
returns-in_err-bytes-clause-value g c =
    let p = err_from_is_err_and c.from_residual.result c.from_residual.ensures.1 in
    rw (p.1, p.2) (file_unread g.F.Files c.args.name.now c.args.files.now c.read_file.new.files c.in_err-bytes.field-0.0
    c.in_err-bytes.ensures.text c.in_err-bytes.ensures.names c.in_err-bytes.ensures.opened)

-- it was read, and has no types
pub returns-in_err-types-clause-value : goal.returns-in_err-types-clause-value
returns-in_err-types-clause-value g c =
    let p = err_from_is_err_and c.from_residual-in_err-types.result c.from_residual-in_err-types.ensures.1 in
    let f = c.in_err-types.field-0.0 in
    rw (p.1, p.2) (file_told g.F.Files c.args.name.now c.args.files.now c.read_file.new.files c.in_ok-bytes.bytes.items (Err f) _
    c.in_ok-bytes.ensures.text c.in_ok-bytes.ensures.names (c.in_ok-bytes.ensures.opened (λ e. cc) (λ e. cc))
    (subst (λ bytes. TellsTypes bytes ⊥ (Err f)) c.deref.ensures.value c.in_err-types.ensures.value))

-- its types are told, and are those of its bytes
pub returns-clause-value : goal.returns-clause-value
returns-clause-value g c =
    file_told g.F.Files c.args.name.now c.args.files.now c.read_file.new.files c.in_ok-bytes.bytes.items (Ok c.in_ok-types.types) _
    c.in_ok-bytes.ensures.text c.in_ok-bytes.ensures.names (c.in_ok-bytes.ensures.opened (λ e. cc) (λ e. cc))
    (subst (λ bytes. TellsTypes bytes ⊥ (Ok c.in_ok-types.types)) c.deref.ensures.value c.in_ok-types.ensures.value)

pub returns-clause-held : goal.returns-clause-held
returns-clause-held g c = bytes_held _ _ _ _ c.in_ok-bytes.bytes.items c.in_ok-bytes.ensures.text

pub returns-clause-read : goal.returns-clause-read
returns-clause-read g c = subst (λ bytes. IsFileRead bytes (with_types c.in_ok-types.types)) c.deref.ensures.value c.in_ok-types.ensures.value
