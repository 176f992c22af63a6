-- As many routines wait as are noted.
use Rattle.std.proofs.Common.{rules, sym}
use Rattle.sz_machine_cells.proofs.CallLemmas.{open_count}
use Rattle.sz_machine_cells.proofs.calls.Calls.open.Goals as goal

pub returns : goal.returns
returns c =
    let s = c.self.inside in
    let count = open_count s.waiting.items s.cells.items s.lists.items s.locals_from s.lists_from in
    record { value = rw (sym c.self.view_is) (search (rules, count)) }
