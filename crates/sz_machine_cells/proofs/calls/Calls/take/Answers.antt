-- One local is undefined from then on.
use Rattle.std.proofs.Common.{rules, ◌≡◌, None, sym}
use Rattle.sz_machine_cells.proofs.CallLemmas.{one_kept}
use Rattle.sz_machine_cells.proofs.calls.Calls.take.Goals as goal

pub returns-clause-left : goal.returns-clause-left
returns-clause-left c =
    let s = c.self.inside in
    let none : c.replace.new.dest ≡ None = search rules in
    rw (sym c.self.view_is)
    (rw none (one_kept s.waiting.items s.cells.items s.lists.items s.locals_from s.lists_from c.args.n None))
