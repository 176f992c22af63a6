use Rattle.std.proofs.Common.{List, ℕ, map, arith, Vec, Global}
use Rattle.std.proofs.lemmas.List.{length-map}
use Rattle.std.proofs.lemmas.Result.{on_ok_weaker}
use Rattle.sz_protofile_types.proofs.LinkLemmas.{place_within, new_link}
use Rattle.sz_protofile_types.proofs.graph.Graph.link.Goals as goal

abbrev links_in : List (Vec ℕ Global) → List (List ℕ)
links_in links = map (λ (l : Vec ℕ Global). l.items) links

pub push_link-requires : goal.push_link-requires
push_link-requires c = record {
  within = omega (
    arith,
    place_within c.args.owner.now c.node-2.new.self.nodes (links_in c.node-2.new.self.links.items) c.in_ok-from.from
        (c.in_ok-to.ensures.grown.places c.args.owner.now c.in_ok-from.from c.in_ok-from.ensures.place)
        c.in_ok-to.ensures.grown.same,
    length-map c.node-2.new.self.links.items (λ (l : Vec ℕ Global). l.items),
  );
}

pub returns : goal.returns
returns c = record {
  linked = on_ok_weaker c.push_link.result
      (λ e. new_link c.args.owner.now c.args.target.now c.args.self.now.nodes (links_in c.args.self.now.links.items)
      c.node.new.self.nodes (links_in c.node.new.self.links.items) c.node-2.new.self.nodes
      (links_in c.node-2.new.self.links.items) (links_in c.push_link.new.links.items)
      c.in_ok-from.from c.in_ok-to.to c.in_ok-from.ensures.grown c.in_ok-to.ensures.grown c.in_ok-from.ensures.place
      c.in_ok-to.ensures.place (place_within c.args.owner.now c.node-2.new.self.nodes
      (links_in c.node-2.new.self.links.items) c.in_ok-from.from (c.in_ok-to.ensures.grown.places c.args.owner.now
      c.in_ok-from.from c.in_ok-from.ensures.place) c.in_ok-to.ensures.grown.same) e)
      c.push_link.ensures.ok;
}
