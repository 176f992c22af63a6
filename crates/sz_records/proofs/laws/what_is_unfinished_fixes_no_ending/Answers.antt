use Rattle.sz_records.proofs.OpenLemmas.{fixes_none}
use Rattle.sz_records.proofs.laws.what_is_unfinished_fixes_no_ending.Goals as goal

pub returns : goal.returns
returns c = record {
  none = λ p n frame limits framer fed given ending read open_still.
      fixes_none p n frame limits framer fed given read open_still ending;
}
