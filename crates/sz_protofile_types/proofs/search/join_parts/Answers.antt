use Rattle.sz_protofile_types.proofs.Cuts.{cut_begins, cut_goes_on}
use Rattle.sz_protofile_types.proofs.search.join_parts.Goals as goal

pub loop-start-init : goal.loop-start-init
loop-start-init c = cut_begins c.args.place c.args.starts.now.items

pub loop-start-preserved : goal.loop-start-preserved
loop-start-preserved c =
    cut_goes_on c.args.place c.args.starts.now.items c.loop-start.starts.items c.pop_behind.new.starts.items
    c.in-Some._start c.loop-start.invariant c.in-Some.ensures.some.0 c.in-Some.ensures.some.1
