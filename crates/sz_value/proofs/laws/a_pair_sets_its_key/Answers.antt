-- The law is proved with the lemmas on maps.
use Rattle.sz_value.proofs.MapLemmas.{value_put, value_kept, later_stands}
use Rattle.sz_value.proofs.laws.a_pair_sets_its_key.Goals as goal

pub returns : goal.returns
returns c = record {
  sets = λ key value pairs. record {
    here = value_put key value pairs;
    others = λ other apart. value_kept key value other pairs apart;
    last_stands = λ later. later_stands key value later pairs;
  };
}
