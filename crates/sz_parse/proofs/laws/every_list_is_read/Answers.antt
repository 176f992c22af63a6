use Rattle.sz_parse.proofs.Total.{every_list_is_read}
use Rattle.sz_parse.proofs.laws.every_list_is_read.Goals as goal

pub returns : goal.returns
returns c = every_list_is_read
