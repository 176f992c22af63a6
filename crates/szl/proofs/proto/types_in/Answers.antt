use Rattle.std.proofs.Common.{subst}
use Rattle.sz_protofile_names.specs.Outcome.{OrNoMemory}
use Rattle.sz_protofile.specs.Types.{IsRefused}
use Rattle.szl.proofs.NamedLemmas.{types_have_bytes}
use Rattle.szl.proofs.ProtoLemmas.{types_found, types_refused}
use Rattle.szl.proofs.proto.types_in.Goals as goal

-- the types were found
pub returns-in-Ok-clause-value : goal.returns-in-Ok-clause-value
returns-in-Ok-clause-value c = types_found c.args.bytes.now c.in-Ok.types c.requires c.in-Ok.ensures.found

pub returns-in-Ok-clause-sound : goal.returns-in-Ok-clause-sound
returns-in-Ok-clause-sound c = c.file_types_are_sound.ensures.value c.args.bytes.now c.in-Ok.types c.in-Ok.ensures.found

pub returns-in-Ok-clause-named : goal.returns-in-Ok-clause-named
returns-in-Ok-clause-named c =
    types_have_bytes c.args.bytes.now c.in-Ok.types c.field_names_are_names.ensures.value c.file_types_are_sound.ensures.value
    c.requires c.in-Ok.ensures.found

-- the file is refused
pub returns-in-Err-Refused-clause-value : goal.returns-in-Err-Refused-clause-value
returns-in-Err-Refused-clause-value c =
    types_refused c.args.bytes.now (record { number = c.in-Err-Refused.number; place = c.in-Err-Refused.place; name = c.in-Err-Refused.name }) c.requires
    (subst (λ e. OrNoMemory e (IsRefused c.args.bytes.now)) c.in-Err-Refused.field-0-is c.in-Err-Refused.ensures.refused)
