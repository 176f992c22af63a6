use Rattle.sz_protofile_types.proofs.ReadingLaws.{every_file_is_read, one_reading}
use Rattle.sz_protofile_types.proofs.laws.readings_are_unique.Goals as goal

pub returns : goal.returns
returns c = record { some = every_file_is_read; one = one_reading }
