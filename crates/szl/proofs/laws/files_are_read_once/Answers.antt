use Rattle.szl.proofs.ProtoLemmas.{every_file_is_read, one_file_reading}
use Rattle.szl.proofs.laws.files_are_read_once.Goals as goal

pub returns : goal.returns
returns c = record { some = every_file_is_read; one = one_file_reading }
