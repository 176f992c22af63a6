use Rattle.sz_records.proofs.CutLaws.{every_file_is_cut, cut_once}
use Rattle.sz_records.proofs.laws.each_file_is_cut_once.Goals as goal

pub returns : goal.returns
returns c = record {
  some = every_file_is_cut;
  one = λ frame limits file records others ending other. cut_once frame limits 0 0 file records others ending other;
}
