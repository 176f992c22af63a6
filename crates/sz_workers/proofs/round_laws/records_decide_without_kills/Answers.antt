use Rattle.sz_workers.proofs.LawLemmas.{records_decide}
use Rattle.sz_workers.proofs.round_laws.records_decide_without_kills.Goals as goal

pub returns : goal.returns
returns c = record {
  alike = λ job passed first shards none some low. records_decide job none some passed first shards low;
}
