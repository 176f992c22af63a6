use Rattle.std.proofs.Common.{ap, subst, arith}
use Rattle.sz_workers.specs.declared.first_faults.FirstFaults.{FirstFaults}
use Rattle.sz_workers.specs.Ends.{IsEndOf}
use Rattle.sz_workers.proofs.RestLemmas.{part_holds, part_lives, bad_lives, bad_ends}
use Rattle.sz_workers.proofs.making.part_of.Goals as goal

pub returns-in-Part-clause-part : goal.returns-in-Part-clause-part
returns-in-Part-clause-part g c =
    let job = g.N.RoundName.job in
    let round = g.N.RoundName.round in
    let most = ap (λ (f : FirstFaults). f.most) c.first_faults.ensures.value in
    part_holds job round
    c.args.place c.args.number c.in-Part.total c.in-Part.faults c.first_faults.result c.requires.job c.requires.round
    c.requires.number (ap (λ (f : FirstFaults). f.faults) c.first_faults.ensures.value)
    (omega (arith, most, c.requires.skip))
    (subst (IsEndOf job round c.args.place c.args.number) c.in-Part.is c.requires.end)

pub returns-in-Part-clause-gave : goal.returns-in-Part-clause-gave
returns-in-Part-clause-gave g c =
    let job = g.N.RoundName.job in
    let round = g.N.RoundName.round in
    part_lives job round c.args.place c.args.number c.in-Part.total c.in-Part.faults
    (subst (IsEndOf job round c.args.place c.args.number) c.in-Part.is c.requires.end)

pub returns-in-Bad-clause-missed : goal.returns-in-Bad-clause-missed
returns-in-Bad-clause-missed g c =
    let job = g.N.RoundName.job in
    let round = g.N.RoundName.round in
    let end = subst (IsEndOf job round c.args.place c.args.number) c.in-Bad.is c.requires.end in (
      bad_lives job round c.args.place c.args.number _ end,
      (bad_ends job round c.args.place c.args.number _ c.requires.number end).0,
    )
