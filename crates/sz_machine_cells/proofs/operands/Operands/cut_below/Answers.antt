-- The part stands below what was taken off.
use Rattle.std.proofs.lemmas.List.{length-reverse}
use Rattle.std.proofs.lemmas.Int.{to_z-of_z}
use Rattle.std.proofs.Common.{rules, arith, w64, ◌≡◌, ◌∙◌, ◌<◌, length, drop, reverse, set, ◌-◌, ◌∷◌, Some, sym, ap, subst}
use Rattle.sz_value.specs.Data.{int}
use Rattle.sz_world_rules.specs.Operations.{slice_of}
use Rattle.sz_machine_cells.specs.Results.{IsCut}
use Rattle.sz_machine_cells.proofs.ResultLemmas.{is_cut}
use Rattle.sz_machine_cells.proofs.operands.Operands.cut_below.Goals as goal

pub returns-clause-made : goal.returns-clause-made
returns-clause-made c =
    let xs = c.self.inside.cells.items in
    let len : c.len-place.result ≡ length xs = search rules in
    let long : 2 < length xs = omega (arith, c.requires.some, ap length (sym c.self.view_is) ∙ length-reverse xs) in
    let cut = c.in_ok-weight.ensures in
    let weight = c.in_ok-weight.weight in
    let from = to_z-of_z w64 c.args.from c.ranges.from in
    let to = to_z-of_z w64 c.args.to c.ranges.to in
    subst (λ new. IsCut c.args.from c.args.to weight c.args.self.now new)
    (sym (c.drop_one-2.ensures.value ∙ ap (drop 1) c.drop_one.ensures.value))
    (subst (λ old. IsCut c.args.from c.args.to weight old
    (drop 1 (drop 1 (reverse (set xs (c.len-place.result - 3) c.cut.new.self))))) c.self.view_is
    (is_cut xs (c.len-place.result - 3) c.index_mut.result.now c.cut.new.self c.args.from c.args.to weight long
    (ap (λ n. n - 3) len) (c.self.view_is ∙ c.requires.ints
    ∙ ap (λ l. Some (int c.args.to) ∷ Some (int c.args.from) ∷ drop 2 l) (sym c.self.view_is))
    c.index_mut.ensures.value
    (cut.made ∙ (λ i. slice_of c.index_mut.result.now (Some (int (from i))) (Some (int (to i))))) cut.weight.0))
