-- One message more is noted.
use Rattle.std.proofs.Common.{◌≡◌, Some, subst, ◌∙◌}
use Rattle.std.specs.Prelude.{slice_get}
use Rattle.sz_records.specs.Ends.{RecordsData}
use Rattle.szl_cut.proofs.ReadingLemmas.{noted_next}
use Rattle.szl_cut.proofs.progress.Progress.note_all.Goals as goal

pub loop-i-preserved : goal.loop-i-preserved
loop-i-preserved c = record {
  records = c.note.ensures.records ∙ c.loop-i.invariant.records;
  noted = noted_next c.args.self.now c.loop-i.self c.note.new.self c.args.self.now.records.ends c.loop-i.i
      c.end-end.result c.loop-i.invariant.noted (subst (λ (r : RecordsData). slice_get r.ends c.loop-i.i
      ≡ Some c.end-end.result) c.loop-i.invariant.records c.end-end.ensures.value)
      c.in_ok-note.ensures.value;
}
