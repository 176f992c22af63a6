use Rattle.std.proofs.Common.{refl}
use Rattle.sz_workers.proofs.PartLemmas.{room_for_both, holds_both}
use Rattle.sz_workers.proofs.part.RoundPartLoad.absorb.Goals as goal

-- the emits of distinct shards of a round are few
pub absorb-requires-clause-room : goal.absorb-requires-clause-room
absorb-requires-clause-room g c =
    let a = c.requires.apart in
    room_for_both g.N.RoundName.job g.N.RoundName.round c.args.self.now.total c.args.part.total c.args.self.now.first
    c.args.part.first a.0 a.1 a.2 a.3 a.4

pub returns-in-Ok-absorb-clause-ok : goal.returns-in-Ok-absorb-clause-ok
returns-in-Ok-absorb-clause-ok g c = (
  refl,
  λ ss ts left right apart.
      holds_both g.N.RoundName.job g.N.RoundName.round c.args.self.now.total c.args.part.total c.args.self.now.first
      c.args.part.first ss ts left right apart
      c.absorb.new.self c.in-Ok.both c.in-Ok-absorb.ensures.ok c.in-Ok.ensures.value,
)
