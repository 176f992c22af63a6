-- The law is proved with the lemmas on parts.
use Rattle.std.proofs.Common.{◌+◌, ap}
use Rattle.sz_value.proofs.PartLemmas.{data_weight-sum_by, entries_weight-sum_by}
use Rattle.sz_value.proofs.laws.compounds_weigh_their_parts.Goals as goal

pub returns : goal.returns
returns c = record {
  parts = record {
    arrays = λ ds. ap (λ n. 1 + n) (data_weight-sum_by ds);
    tuples = λ ds. ap (λ n. 1 + n) (data_weight-sum_by ds);
    maps = λ ps. ap (λ n. 1 + n) (entries_weight-sum_by ps);
  };
}
