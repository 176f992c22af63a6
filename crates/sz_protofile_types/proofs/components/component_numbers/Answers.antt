use Rattle.std.proofs.Common.{◌≡◌, List, ℕ, map, sym, ap, subst, ◌∙◌, arith, Vec, Global}
use Rattle.std.proofs.lemmas.List.{length-map}
use Rattle.std.proofs.lemmas.Result.{IfOk-weaker}
use Rattle.sz_protofile_types.specs.Components.{AreNumbers}
use Rattle.sz_protofile_types.specs.Search.{number_of}
use Rattle.sz_protofile_types.proofs.Ends.{all_numbers}
use Rattle.sz_protofile_types.proofs.components.component_numbers.Goals as goal

abbrev graph_of : List (Vec ℕ Global) → List (List ℕ)
graph_of links = map (λ (l : Vec ℕ Global). l.items) links

pub returns : goal.returns
returns c =
    let s = c.loop-root.search in
    let i = c.loop-root.invariant in
    record {
      value = IfOk-weaker c.numbers_of.result (λ (n : Vec ℕ Global). n.items ≡ map number_of c.as_slice.result.now)
          (λ (n : Vec ℕ Global). AreNumbers (graph_of c.args.links.now) n.items)
          (λ n e. subst (AreNumbers (graph_of c.args.links.now)) (sym (e ∙ ap (map number_of) c.as_slice.ensures.value))
          (all_numbers (graph_of c.args.links.now) s i.sound i.idle
          (λ u l. i.seen u
          (omega (arith, l, c.loop-root-test.false, length-map c.args.links.now (λ (r : Vec ℕ Global). r.items))))))
          c.numbers_of.ensures.value;
    }
