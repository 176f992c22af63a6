use Rattle.sz_protofile_types.proofs.TypeLaws.{sound_types}
use Rattle.sz_protofile_types.proofs.laws.file_types_are_sound.Goals as goal

pub returns : goal.returns
returns c = record { value = λ bytes types h. sound_types bytes types h }
