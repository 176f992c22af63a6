-- The last cells are the topmost operands.
use Rattle.std.specs.List.{list_all}
use Rattle.std.proofs.lemmas.List.{length-reverse, take_rest}
use Rattle.std.proofs.Common.{rules, arith, ◌≡◌, ◌∙◌, ◌≤◌, ◌-◌, length, take, drop, is_some, sym, ap}
use Rattle.sz_world_rules.specs.Slots.{all_defined}
use Rattle.sz_instr.specs.States.{popped}
use Rattle.sz_machine_cells.proofs.ListLemmas.{last_of, all_told}
use Rattle.sz_machine_cells.proofs.operands.Operands.are_defined.Goals as goal

pub returns : goal.returns
returns c =
    let xs = c.self.inside.cells.items in
    let n = c.args.count in
    let within : n ≤ length xs = omega (arith, c.requires.within, ap length (sym c.self.view_is) ∙ length-reverse xs) in
    let len : c.len.result ≡ length xs = search rules in
    let cells = ap (λ m. drop (m - n) xs) len ∙ last_of xs n within ∙ ap (popped n) c.self.view_is in
    let at = c.len.result - n in
    let top : list_all is_some (take (length xs - at) (drop at xs)) ≡ list_all is_some (drop at xs) =
    ap (list_all is_some) (take_rest xs at) in
    let all : c.all_defined.result ≡ list_all is_some (drop at xs) = search (rules, top) in
    record { value = all ∙ all_told (drop at xs) ∙ ap (λ ys. is_some (all_defined ys)) cells }
