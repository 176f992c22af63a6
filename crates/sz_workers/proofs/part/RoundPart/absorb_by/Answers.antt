use Rattle.sz_workers.proofs.PartLemmas.{room_for_both, holds_both}
use Rattle.sz_workers.proofs.part.RoundPart.absorb_by.Goals as goal

-- the emits of distinct shards of a round are few
pub absorb_by-requires-clause-room : goal.absorb_by-requires-clause-room
absorb_by-requires-clause-room g c κs within =
    let a = c.requires.apart in
    room_for_both g.N.RoundName.job g.N.RoundName.round c.args.self.now.total c.args.part.total c.args.self.now.first
    c.args.part.first a.0 a.1 a.2 a.3 a.4

pub returns-in-Ok : goal.returns-in-Ok
returns-in-Ok g c = record {
  ok = λ ss ts left right apart.
      holds_both g.N.RoundName.job g.N.RoundName.round c.args.self.now.total c.args.part.total c.args.self.now.first
      c.args.part.first ss ts left right apart
      c.absorb_by.new.self c.in_ok-both.both c.in-Ok.ensures.ok c.in_ok-both.ensures.value;
}
