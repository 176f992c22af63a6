-- One run with one pair.
use Rattle.std.proofs.Common.{refl}
use Rattle.sz_value.specs.declared.value.Run.{Run}
use Rattle.sz_value.proofs.HalfLemmas.{begun, begun_ends}
use Rattle.sz_value.proofs.runs.begin.Goals as goal

pub returns-clause-runs : goal.returns-clause-runs
returns-clause-runs c =
    let run : Run = record { pairs = c.push.new.self; end = 1 } in
    begun c.args.runs.now.items c.push-2.new.self.items run
    c.new-pairs.result.items c.args.pair c.requires.none c.new-pairs.ensures.items
    c.in_ok-push.ensures.items c.in_ok-push-2.ensures.items

pub returns-clause-ends : goal.returns-clause-ends
returns-clause-ends c =
    let run : Run = record { pairs = c.push.new.self; end = 1 } in
    begun_ends c.args.runs.now.items c.push-2.new.self.items run
    c.new-pairs.result.items c.args.pair c.requires.none c.new-pairs.ensures.items
    c.in_ok-push.ensures.items refl c.in_ok-push-2.ensures.items
