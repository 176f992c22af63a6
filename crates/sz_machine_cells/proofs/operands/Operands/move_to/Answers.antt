-- What is split off are the topmost operands, in order.
use Rattle.std.proofs.lemmas.List.{length-reverse}
use Rattle.std.proofs.Common.{rules, arith, ◌≡◌, ◌∙◌, ◌≤◌, ◌-◌, ◌++◌, length, take, drop, reverse, sym, ap}
use Rattle.sz_instr.specs.States.{popped}
use Rattle.sz_machine_cells.proofs.ListLemmas.{below_last, last_of}
use Rattle.sz_machine_cells.proofs.operands.Operands.move_to.Goals as goal

pub returns-clause-rest : goal.returns-clause-rest
returns-clause-rest c =
    let xs = c.self.inside.cells.items in
    let len : c.len.result ≡ length xs = search rules in
    let within : c.args.count ≤ length xs =
    omega (arith, c.requires.within, ap length (sym c.self.view_is) ∙ length-reverse xs) in
    let kept = c.in_ok-move_rest.ensures.rest ∙ ap (λ m. take (m - c.args.count) xs) len in
    ap reverse kept ∙ below_last xs c.args.count within ∙ ap (drop c.args.count) c.self.view_is

pub returns-clause-moved : goal.returns-clause-moved
returns-clause-moved c =
    let xs = c.self.inside.cells.items in
    let len : c.len.result ≡ length xs = search rules in
    let within : c.args.count ≤ length xs =
    omega (arith, c.requires.within, ap length (sym c.self.view_is) ∙ length-reverse xs) in
    let moved = ap (λ m. drop (m - c.args.count) xs) len ∙ last_of xs c.args.count within
    ∙ ap (popped c.args.count) c.self.view_is in
    c.in_ok-move_rest.ensures.moved ∙ ap (λ ys. c.args.cells.now.items ++ ys) moved
