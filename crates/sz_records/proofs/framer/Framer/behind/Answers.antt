use Rattle.std.proofs.Common.{refl}
use Rattle.sz_records.proofs.FedLemmas.{starts_reading}
use Rattle.sz_records.proofs.framer.Framer.behind.Goals as goal

pub returns : goal.returns
returns c = record {
  start = starts_reading c.args.bytes c.args.records c.args.frame c.args.limits _ refl refl refl refl
      c.new.ensures.items refl;
  not_ended = refl;
}
