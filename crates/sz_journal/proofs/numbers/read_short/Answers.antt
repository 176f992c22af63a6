-- Where no number is read, none is there.
use Rattle.sz_save_format.specs.Decoding.{length_at}
use Rattle.sz_journal.proofs.NumberLemmas.{stops_told}
use Rattle.sz_journal.proofs.numbers.read_short.Goals as goal

pub returns-in-Err : goal.returns-in-Err
returns-in-Err c = record {
  value = stops_told (length_at c.args.flat.now) c.in-Err.error c.from.result c.in-Err.ensures.value c.from.ensures;
}
