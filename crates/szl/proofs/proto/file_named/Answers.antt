use Rattle.std.proofs.Common.{[], sym, subst}
use Rattle.sz_protofile_types.specs.Readings.{with_types}
use Rattle.sz_protofile_types.specs.Sound.{AreSound}
use Rattle.szl.specs.ProtoFiles.{IsFileRead}
use Rattle.szl.specs.ProtoReads.{HaveTypeBytes}
use Rattle.szl.proofs.NamedLemmas.{none_sound}
use Rattle.szl.proofs.ProtoLemmas.{empty_file}
use Rattle.szl.proofs.proto.file_named.Goals as goal

-- without a file there are no types, and they are sound
pub returns-in-None-clause-sound : goal.returns-in-None-clause-sound
returns-in-None-clause-sound g c = subst AreSound (sym c.no_file.ensures.types) none_sound

pub returns-in-None-clause-named : goal.returns-in-None-clause-named
returns-in-None-clause-named g c = subst HaveTypeBytes (sym c.no_file.ensures.types) tt

-- and no bytes are read as no types
pub returns-in-None-clause-read : goal.returns-in-None-clause-read
returns-in-None-clause-read g c =
    subst (λ bytes. IsFileRead bytes (with_types c.no_file.result.types)) (sym c.no_file.ensures.bytes)
    (subst (λ types. IsFileRead [] (with_types types)) (sym c.no_file.ensures.types) empty_file)
