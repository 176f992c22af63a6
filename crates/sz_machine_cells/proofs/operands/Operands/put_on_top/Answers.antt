-- The last cell is another.
use Rattle.std.proofs.lemmas.List.{length-reverse}
use Rattle.std.proofs.Common.{rules, arith, ◌≡◌, ◌∙◌, ◌<◌, ◌-◌, ◌∷◌, length, drop, reverse, set, sym, ap}
use Rattle.sz_machine_cells.proofs.ListLemmas.{top_set}
use Rattle.sz_machine_cells.proofs.operands.Operands.put_on_top.Goals as goal

pub returns : goal.returns
returns c =
    let xs = c.self.inside.cells.items in
    let len : c.len-last.result ≡ length xs = search rules in
    let put : c.replace-before.new.dest ≡ c.args.cell = search rules in
    let within : 0 < length xs = omega (arith, c.requires.some, ap length (sym c.self.view_is) ∙ length-reverse xs) in
    record {
      value = (λ i. reverse (set xs (len i - 1) (put i))) ∙ top_set xs c.args.cell within
          ∙ ap (λ l. c.args.cell ∷ drop 1 l) c.self.view_is;
    }
