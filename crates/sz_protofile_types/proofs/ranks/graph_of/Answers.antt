use Rattle.std.proofs.Common.{◌++◌, ◌∷◌, [], List, ℕ, map, take, sym, ap, subst, ◌∙◌, Vec, Global}
use Rattle.std.proofs.lemmas.List.{take_more}
use Rattle.sz_protofile_types.specs.Places.{IsLinked}
use Rattle.sz_protofile_types.proofs.ranks.graph_of.Goals as goal

abbrev links_in : List (Vec ℕ Global) → List (List ℕ)
links_in links = map (λ (l : Vec ℕ Global). l.items) links

pub loop-field-preserved : goal.loop-field-preserved
loop-field-preserved c =
    let i = c.loop-field.field-index in
    let fields = c.args.fields.now in
    subst (λ l. IsLinked l c.take.new.self.nodes (links_in c.take.new.self.links.items))
    (ap (λ x. take i fields ++ x ∷ []) c.field-item.is
    ∙ sym (take_more fields i c.field-item.result c.loop-field-test.true))
    (c.in_ok-take.ensures.linked (take i fields) c.loop-field.invariant)
