-- The last cells are the topmost operands.
use Rattle.std.proofs.lemmas.List.{length-reverse, take_rest}
use Rattle.std.proofs.Common.{rules, arith, ◌≡◌, ◌∙◌, ◌≤◌, ◌<◌, ◌-◌, length, take, drop, sym, ap, subst, IfSome, IfNone}
use Rattle.sz_world_rules.specs.Slots.{all_defined}
use Rattle.sz_world_rules.specs.Emits.{weight_if_all}
use Rattle.sz_instr.specs.States.{popped}
use Rattle.sz_machine_cells.proofs.ListLemmas.{last_of}
use Rattle.sz_machine_cells.proofs.operands.Operands.parts_weight.Goals as goal

pub returns : goal.returns
returns c =
    let xs = c.self.inside.cells.items in
    let n = c.args.count in
    let ys = c.deref.result.now in
    let same : ys ≡ xs = search rules in
    let within : n ≤ length xs = omega (arith, c.requires.within, ap length (sym c.self.view_is) ∙ length-reverse xs) in
    let len : c.len.result ≡ length xs = search rules in
    let cells : drop (c.len.result - n) xs ≡ popped n c.args.self.now =
    ap (λ m. drop (m - n) xs) len ∙ last_of xs n within ∙ ap (popped n) c.self.view_is in
    let top : take (length ys - (c.len.result - n)) (drop (c.len.result - n) ys) ≡ popped n c.args.self.now =
    take_rest ys (c.len.result - n) ∙ ap (drop (c.len.result - n)) same ∙ cells in
    record {
      some = subst (λ zs. IfSome c.parts_weight.result (λ weight. (weight ≡ weight_if_all (all_defined zs))
          × (weight ≤ c.args.most))) top c.parts_weight.ensures.some;
      none = subst (λ zs. IfNone c.parts_weight.result (c.args.most < weight_if_all (all_defined zs))) top
          c.parts_weight.ensures.none;
    }
