use Rattle.std.proofs.Common.{◌≤◌, List, ℕ, length, map, ap, ◌∙◌, arith, Vec, Global}
use Rattle.std.proofs.lemmas.List.{length-map}
use Rattle.sz_protofile_types.specs.declared.mark.Link.{Link}
use Rattle.sz_protofile_types.proofs.Sounds.{start_in_path, step_taken, step_leads, step_within, closed_sound, closed_fewer}
use Rattle.sz_protofile_types.proofs.search.Search.step.Goals as goal

abbrev graph_of : List (Vec ℕ Global) → List (List ℕ)
graph_of links = map (λ (l : Vec ℕ Global). l.items) links

-- ---- a link is pending

pub follow-requires-clause-within : goal.follow-requires-clause-within
follow-requires-clause-within c =
    omega (
      arith,
      step_within (graph_of c.args.links.now)
          c.args.self.now c.args.start c.requires.sound c.requires.last.0 c.requires.last.1
          c.pop_link.new.pending.items c.in-Some.link c.in-Some.ensures.some.0 c.in-Some.ensures.some.1
          c.requires.graph,
      length-map c.args.links.now (λ (l : Vec ℕ Global). l.items),
    )

pub follow-requires-clause-sound : goal.follow-requires-clause-sound
follow-requires-clause-sound c =
    step_taken
    (graph_of c.args.links.now) c.args.self.now c.args.start c.requires.sound c.requires.last.0 c.requires.last.1
    c.pop_link.new.pending.items c.in-Some.link c.in-Some.ensures.some.0 c.in-Some.ensures.some.1

pub follow-requires-clause-leads : goal.follow-requires-clause-leads
follow-requires-clause-leads c =
    step_leads
    (graph_of c.args.links.now) c.args.self.now c.args.start c.requires.sound c.requires.last.0 c.requires.last.1
    c.pop_link.new.pending.items c.in-Some.link c.in-Some.ensures.some.0 c.in-Some.ensures.some.1

-- ---- no link is pending

pub close_part-requires-clause-within : goal.close_part-requires-clause-within
close_part-requires-clause-within c =
    start_in_path
    (graph_of c.args.links.now) c.args.self.now c.args.start c.requires.sound c.requires.last.0 c.requires.last.1

pub returns-in_ok-close_part-in-None-clause-sound : goal.returns-in_ok-close_part-in-None-clause-sound
returns-in_ok-close_part-in-None-clause-sound c =
    let all : length c.args.self.now.pending.items ≤ c.args.start.pending = c.in-None.ensures.none in
    closed_sound (graph_of c.args.links.now)
    c.args.self.now c.args.start c.requires.sound c.requires.last.0 c.requires.last.1 c.close_part.new.self all
    c.in_ok-close_part-in-None.ensures.marks c.in_ok-close_part-in-None.ensures.path
    c.in_ok-close_part-in-None.ensures.order (c.close_part.ensures.starts c.requires.last.0 c.requires.last.1)
    (ap (λ (p : Vec Link Global). p.items) c.close_part.ensures.pending ∙ c.in-None.ensures.kept)

pub returns-in_ok-close_part-in-None-clause-fewer : goal.returns-in_ok-close_part-in-None-clause-fewer
returns-in_ok-close_part-in-None-clause-fewer c =
    let all : length c.args.self.now.pending.items ≤ c.args.start.pending = c.in-None.ensures.none in
    closed_fewer (graph_of c.args.links.now)
    c.args.self.now c.args.start c.requires.sound c.requires.last.0 c.requires.last.1 c.close_part.new.self all
    c.in_ok-close_part-in-None.ensures.marks c.in_ok-close_part-in-None.ensures.path
    c.in_ok-close_part-in-None.ensures.order (c.close_part.ensures.starts c.requires.last.0 c.requires.last.1)
    (ap (λ (p : Vec Link Global). p.items) c.close_part.ensures.pending ∙ c.in-None.ensures.kept)
