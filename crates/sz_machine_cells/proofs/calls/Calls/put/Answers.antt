-- One local is another.
use Rattle.std.proofs.Common.{rules, ◌≡◌, sym}
use Rattle.sz_machine_cells.proofs.CallLemmas.{one_kept}
use Rattle.sz_machine_cells.proofs.calls.Calls.put.Goals as goal

pub returns : goal.returns
returns c =
    let s = c.self.inside in
    let put : c.replace-before.new.dest ≡ c.args.cell = search rules in
    record {
      value = rw (put, sym c.self.view_is)
          (one_kept s.waiting.items s.cells.items s.lists.items s.locals_from s.lists_from c.args.n c.args.cell);
    }
