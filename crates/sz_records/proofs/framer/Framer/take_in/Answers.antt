use Rattle.std.proofs.Common.{ℕ, List, refl, sym, subst}
use Rattle.sz_records.specs.Steps.{IsScanned}
use Rattle.sz_records.proofs.ScanLemmas.{scanned_longer}
use Rattle.sz_records.proofs.FedLemmas.{ends_cut}
use Rattle.sz_records.proofs.framer.Framer.take_in.Goals as goal

pub invariant_of-self-2 : goal.invariant_of-self-2
invariant_of-self-2 c =
    subst (λ (l : List ℕ). IsScanned c.self.inside.cutter.frame l c.self.inside.scanned)
    (sym c.in_ok-extend_from_slice.ensures.items) (scanned_longer c.self.inside.cutter.frame
    c.self.inside.pending.items c.args.piece.now c.self.inside.scanned c.self.invariant)

pub returns-in-Ok-clause-ends : goal.returns-in-Ok-clause-ends
returns-in-Ok-clause-ends c =
    ends_cut c.args.self.now _ c.cut_pending.new.self c.args.piece.now c.args.into.now c.cut_pending.new.into c.requires
    (rw (← c.self.view_is, c.in_ok-extend_from_slice.ensures.items) refl) c.in-Ok.ensures.ok
