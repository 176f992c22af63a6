use Rattle.std.proofs.Common.{[], sym, ◌∙◌}
use Rattle.sz_stream.specs.Intakes.{TakesIn}
use Rattle.sz_stream.specs.InputRuns.{TakesAll}
use Rattle.sz_stream.proofs.ReachLemmas.{takes_all_known, takes_all_then, on_ok, none_of}
use Rattle.sz_stream.proofs.input_run.take_all.Goals as goal

-- the ending is known before the end
pub returns-then-is_some : goal.returns-then-is_some
returns-then-is_some c = record {
  ok = takes_all_known c.args.intake.now c.args.bytes.now c.requires.more c.take.new.self c.in_ok-take.ensures.taken
      c.take.ensures.kept (sym c.is_some.ensures ∙ c.if-is_some.true);
}

-- the end is taken in too
pub returns : goal.returns
returns c =
    let old = c.args.intake.now in
    let mid = c.take.new.self in
    let new = c.take-2.new.self in
    record {
      ok = on_ok c.take-2.result (TakesIn mid new []) (TakesAll old new c.args.bytes.now)
          (λ over. takes_all_then old c.args.bytes.now c.requires.more mid new
          c.in_ok-take.ensures.taken c.take.ensures.kept (none_of mid.ending
          (sym c.is_some.ensures ∙ c.if-is_some.false)) over c.take-2.ensures.kept) c.take-2.ensures.taken;
    }
