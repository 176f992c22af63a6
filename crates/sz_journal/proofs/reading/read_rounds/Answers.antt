-- A further round was read, and nothing written.
use Rattle.std.proofs.Common.{List, ℕ, IfSome, ◌≡◌, length, sym, subst}
use Rattle.sz_disk.proofs.GateForCallers.{falls_not_both}
use Rattle.sz_journal.proofs.LeftLemmas.{nothing_both}
use Rattle.sz_journal.proofs.ReadLemmas.{at_still, turn_goes}
use Rattle.sz_journal.proofs.reading.read_rounds.Goals as goal

pub loop-preserved : goal.loop-preserved
loop-preserved g c =
    let bytes = g.K.Disk.bytes c.loop.disk in
    let same = c.read_next.ensures.kept.same in
    let read =
    turn_goes c.args.job.now c.args.decls.now bytes
    c.args.count c.loop.tail c.read_next.new.tail c.in_ok-read_next.field-0
    c.in_ok-read_next.ensures.value c.if-branch.true in
    record {
      all = subst (λ b. IfSome b (λ (held : List ℕ). c.args.count ≡ length held))
          (sym same) c.loop.invariant.all;
      keeper = c.in_ok-read_next.ensures.keeper;
      at = at_still c.args.job.now c.args.decls.now bytes c.args.count c.read_next.new.tail
          (g.K.Disk.bytes c.read_next.new.disk) same read.0;
      kept = nothing_both c.loop.invariant.kept c.read_next.ensures.kept;
      faults = falls_not_both (g.K.Disk.faults c.args.disk.now) (g.K.Disk.faults c.loop.disk)
          (g.K.Disk.faults c.read_next.new.disk) c.loop.invariant.faults c.read_next.ensures.faults;
    }

pub returns-in_err-read_next-clause-kept : goal.returns-in_err-read_next-clause-kept
returns-in_err-read_next-clause-kept g c = nothing_both c.loop.invariant.kept c.read_next.ensures.kept

pub returns-clause-kept : goal.returns-clause-kept
returns-clause-kept g c = nothing_both c.loop.invariant.kept c.read_next.ensures.kept
