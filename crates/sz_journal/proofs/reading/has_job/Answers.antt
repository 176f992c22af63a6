-- No entry is whole; the journal ends with one; or it isn't the job's own.
use Rattle.std.proofs.Common.{◌∙◌, sym, true≢false, arith}
use Rattle.sz_journal.proofs.FirstLemmas.{cut_told, ending_told, other_told}
use Rattle.sz_journal.proofs.reading.has_job.Goals as goal

pub returns-in-Cut-clause-value : goal.returns-in-Cut-clause-value
returns-in-Cut-clause-value g c job decls held own_is told =
    cut_told job decls (g.K.Disk.bytes c.args.disk.now) c.args.count c.in_ok-read_gate.field-0 c.requires.all
    (omega (arith, c.if-count-lt2.false)) c.in_ok-read_gate.ensures.value c.in-Cut.is held told

pub returns-in-Ending-clause-value : goal.returns-in-Ending-clause-value
returns-in-Ending-clause-value g c job decls held own_is told =
    ending_told job decls
    (g.K.Disk.bytes c.args.disk.now) c.in_ok-read_gate.field-0 c.in-Ending.first c.args.own.now c.refused.result
    c.in_ok-read_gate.ensures.value c.in-Ending.is (rw c.deref.ensures.value at c.refused.ensures.value)
    held own_is told

pub returns-else-is_same-clause-value : goal.returns-else-is_same-clause-value
returns-else-is_same-clause-value g c job decls held own_is told =
    other_told job decls (g.K.Disk.bytes c.args.disk.now)
    c.in_ok-read_gate.field-0 c.in-Entry.first c.args.own.now c.refused-in-Entry.result
    c.in_ok-read_gate.ensures.value c.in-Entry.is
    (λ e. absurd (true≢false (sym (c.if-is_same.ensures.value.1 (c.deref-in-Entry.ensures.value ∙ e)))))
    (rw c.deref-in-Entry-2.ensures.value at c.refused-in-Entry.ensures.value) held own_is told
