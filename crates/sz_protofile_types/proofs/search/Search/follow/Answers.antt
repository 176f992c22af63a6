use Rattle.std.proofs.Common.{◌<◌, List, ℕ, length, map, sym, ◌∙◌, arith, Vec, Global}
use Rattle.std.proofs.lemmas.List.{length-map, get_or_read}
use Rattle.sz_protofile_types.specs.declared.mark.Mark.TheVariants as mark
use Rattle.sz_protofile_types.proofs.Taken.{end_closed}
use Rattle.sz_protofile_types.proofs.Sounds.{joined}
use Rattle.sz_protofile_types.proofs.search.Search.follow.Goals as goal

abbrev graph_of : List (Vec ℕ Global) → List (List ℕ)
graph_of links = map (λ (l : Vec ℕ Global). l.items) links

pub returns-in-Open-clause-sound : goal.returns-in-Open-clause-sound
returns-in-Open-clause-sound c =
    let within : c.args.to < length c.args.self.now.marks.items =
    omega
    (arith, c.requires.within, c.requires.sound.room, length-map c.args.links.now (λ (l : Vec ℕ Global). l.items)) in
    joined (graph_of c.args.links.now)
    c.args.self.now c.args.to c.in-Open.place c.join_parts.new.starts.items c.requires.sound
    (sym (get_or_read c.args.self.now.marks.items c.args.to c.index.result.now within c.index.ensures mark.Unseen)
    ∙ c.in-Open.is) c.requires.leads c.join_parts.ensures.cut

pub returns-in-Closed-clause-sound : goal.returns-in-Closed-clause-sound
returns-in-Closed-clause-sound c =
    let within : c.args.to < length c.args.self.now.marks.items =
    omega
    (arith, c.requires.within, c.requires.sound.room, length-map c.args.links.now (λ (l : Vec ℕ Global). l.items)) in
    let now = c.args.self.now in
    end_closed (graph_of c.args.links.now) now.marks.items now.path.items now.starts.items now.pending.items
    (length now.order.items) c.args.to c.requires.sound c.in-Closed.field-0
    (sym (get_or_read now.marks.items c.args.to c.index.result.now within c.index.ensures mark.Unseen) ∙ c.in-Closed.is)
