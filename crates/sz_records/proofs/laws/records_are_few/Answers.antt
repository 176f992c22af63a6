use Rattle.std.proofs.Common.{arith}
use Rattle.sz_records.proofs.CutLaws.{records_are_few}
use Rattle.sz_records.proofs.laws.records_are_few.Goals as goal

pub returns : goal.returns
returns c = record {
  few = λ frame limits file records ending cut.
      let few = records_are_few frame limits 0 0 file records ending (omega arith) cut in omega (arith, few);
}
