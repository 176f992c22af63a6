use Rattle.std.proofs.Common.{◌++◌, ◌∷◌, List, [], ℕ, map, Some, sym, ap, subst, ◌∙◌, Vec, Global}
use Rattle.std.proofs.lemmas.List.{map_push}
use Rattle.sz_scope.specs.Names.{place_of}
use Rattle.sz_protofile_types.specs.Places.{IsGrown}
use Rattle.sz_scope.proofs.NamesLemmas.{place_added}
use Rattle.sz_protofile_types.proofs.LinkLemmas.{grown_by_one}
use Rattle.sz_protofile_types.proofs.graph.Graph.node.Goals as goal

abbrev links_in : List (Vec ℕ Global) → List (List ℕ)
links_in links = map (λ (l : Vec ℕ Global). l.items) links

pub returns-clause-place : goal.returns-clause-place
returns-clause-place c =
    ap (place_of c.args.name.now) c.in_ok-add.ensures.ok
    ∙ place_added c.args.name.now c.args.self.now.nodes (sym c.find.ensures.value ∙ c.in_default.is)
    ∙ ap (λ n. Some n) (sym c.len-place.ensures.value)

pub returns-clause-grown : goal.returns-clause-grown
returns-clause-grown c =
    subst (λ n. IsGrown c.args.self.now.nodes (links_in c.args.self.now.links.items) n
    (links_in c.push.new.self.items)) (sym c.in_ok-add.ensures.ok)
    (grown_by_one c.args.self.now.nodes (links_in c.args.self.now.links.items)
    (links_in c.push.new.self.items) c.args.name.now c.requires.same
    (ap links_in c.in_ok-push.ensures.items
    ∙ map_push (λ (l : Vec ℕ Global). l.items) c.args.self.now.links.items c.new.result
    ∙ ap (λ l. links_in c.args.self.now.links.items ++ l ∷ []) c.new.ensures.items))
