use Rattle.std.proofs.Common.{◌++◌, List, ℕ, length, map, ap, ◌∙◌, arith, Vec, Global}
use Rattle.std.proofs.lemmas.List.{length-map}
use Rattle.sz_protofile_types.specs.Search.{link}
use Rattle.sz_protofile_types.proofs.Sounds.{entered, entered_fewer}
use Rattle.sz_protofile_types.proofs.search.Search.enter.Goals as goal

abbrev graph_of : List (Vec ℕ Global) → List (List ℕ)
graph_of links = map (λ (l : Vec ℕ Global). l.items) links

pub returns-clause-sound : goal.returns-clause-sound
returns-clause-sound c =
    entered (graph_of c.args.links.now) c.args.self.now c.open_node.new.self c.args.node c.requires.sound
    (omega (arith, c.requires.within, length-map c.args.links.now (λ (l : Vec ℕ Global). l.items)))
    c.requires.unseen c.requires.leads
    c.in_ok-open_node.ensures.marks c.in_ok-open_node.ensures.path c.in_ok-open_node.ensures.starts
    (c.in_ok-open_node.ensures.pending
    ∙ ap (λ l. c.args.self.now.pending.items ++ map (link c.args.node) l) c.links_from.ensures.value)
    (ap (λ (o : Vec ℕ Global). length o.items) c.in_ok-open_node.ensures.order)

pub returns-clause-fewer : goal.returns-clause-fewer
returns-clause-fewer c =
    entered_fewer (graph_of c.args.links.now) c.args.self.now c.open_node.new.self c.args.node c.requires.sound
    (omega (arith, c.requires.within, length-map c.args.links.now (λ (l : Vec ℕ Global). l.items)))
    c.requires.unseen c.requires.leads
    c.in_ok-open_node.ensures.marks c.in_ok-open_node.ensures.path c.in_ok-open_node.ensures.starts
    (c.in_ok-open_node.ensures.pending
    ∙ ap (λ l. c.args.self.now.pending.items ++ map (link c.args.node) l) c.links_from.ensures.value)
    (ap (λ (o : Vec ℕ Global). length o.items) c.in_ok-open_node.ensures.order)
