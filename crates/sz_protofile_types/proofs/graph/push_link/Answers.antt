use Rattle.std.proofs.Common.{◌++◌, ◌∷◌, List, [], ℕ, map, set, sym, ap, ◌∙◌, Vec, Global}
use Rattle.std.proofs.lemmas.List.{map-set, get_or-map}
use Rattle.sz_protofile_types.proofs.graph.push_link.Goals as goal

abbrev links_in : List (Vec ℕ Global) → List (List ℕ)
links_in links = map (λ (l : Vec ℕ Global). l.items) links

pub returns : goal.returns
returns c =
    let links = c.args.links.now.items in
    record {
      ok = map-set (λ (l : Vec ℕ Global). l.items) links c.args.from c.push.new.self
          ∙ ap (set (links_in links) c.args.from) (c.in_ok-push.ensures.items
          ∙ ap (λ l. l ++ c.args.to ∷ []) (ap (λ (l : Vec ℕ Global). l.items) c.index_mut.ensures.value
          ∙ sym (get_or-map (λ (l : Vec ℕ Global). l.items) links c.args.from c.index_mut.result.now []
          c.requires.within)));
    }
