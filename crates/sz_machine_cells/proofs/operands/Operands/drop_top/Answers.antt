-- What is kept is what was below.
use Rattle.std.proofs.lemmas.List.{length-reverse}
use Rattle.std.proofs.Common.{rules, arith, ◌≡◌, ◌∙◌, ◌≤◌, ◌-◌, length, take, drop, reverse, sym, ap}
use Rattle.sz_machine_cells.proofs.ListLemmas.{below_last}
use Rattle.sz_machine_cells.proofs.operands.Operands.drop_top.Goals as goal

pub returns : goal.returns
returns c =
    let xs = c.self.inside.cells.items in
    let len : c.len.result ≡ length xs = search rules in
    let within : c.args.count ≤ length xs =
    omega (arith, c.requires.within, ap length (sym c.self.view_is) ∙ length-reverse xs) in
    let kept = c.truncate.ensures.items ∙ ap (λ m. take (m - c.args.count) xs) len in
    record { value = ap reverse kept ∙ below_last xs c.args.count within ∙ ap (drop c.args.count) c.self.view_is }
