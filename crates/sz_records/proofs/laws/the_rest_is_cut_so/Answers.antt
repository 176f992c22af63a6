use Rattle.sz_records.proofs.BehindLemmas as behind
use Rattle.sz_records.proofs.laws.the_rest_is_cut_so.Goals as goal

pub returns : goal.returns
returns c = record { rest = behind.the_rest_is_cut_so }
