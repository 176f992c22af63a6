-- the messages so far are noted
use Rattle.std.proofs.Common.{◌≡◌, take}
use Rattle.szl_cut.specs.Reading.{Notes}
use Rattle.szl_cut.proofs.progress.Progress.note_all.Given as goal

abbrev pub invariant-loop-i : goal.invariant-loop-i
invariant-loop-i l = record {
  records : l.self.records ≡ l.fn.self.records;
  noted : Notes l.fn.self l.self (take l.i l.fn.self.records.ends);
}
