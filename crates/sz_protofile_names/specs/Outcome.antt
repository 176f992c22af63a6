-- What a call answered, against what a file is refused for.
use Rattle.std.specs.Prelude.{None}
use Rattle.sz_protofile.specs.declared.error.FileError.{FileError}
use Rattle.sz_protofile.specs.declared.error.FileError.TheVariants as reading
use Rattle.sz_protofile.specs.declared.fault.Fault.{Fault}
use Rattle.sz_protofile_names.specs.declared.error.ProtoError.{ProtoError}
use Rattle.sz_protofile_names.specs.declared.error.ProtoError.TheVariants as errors

-- the refusal for what is wrong with a file
abbrev pub refusal : Fault → ProtoError
refusal f = errors.Refused f.number f.place f.name

-- the refusal of a file that has no lines
abbrev pub file_refusal : FileError → ProtoError
file_refusal (reading.Syntax p) = errors.Refused 2 p None
file_refusal reading.NoMemory = errors.NoMemory

-- memory ran out, or what the file is refused for is such
abbrev pub OrNoMemory : ProtoError → (Fault → Type 0) → Type 0
OrNoMemory (errors.Refused number place name) P = P (record { number = number; place = place; name = name })
OrNoMemory errors.NoMemory P = Unit {0}
