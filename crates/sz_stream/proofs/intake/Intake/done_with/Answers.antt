use Rattle.std.proofs.Common.{◌+◌, ◌-◌, sym, ap, ◌∙◌}
use Rattle.sz_records.specs.Cutting.{full, place_after}
use Rattle.sz_stream.proofs.PlaceLemmas.{got_there}
use Rattle.sz_stream.proofs.ReachLemmas.{ends_at}
use Rattle.sz_stream.proofs.intake.Intake.done_with.Goals as goal

-- it ends where the last record of the round does
pub returns-clause-place : goal.returns-clause-place
returns-clause-place c done job frame most emits read over h rest on =
    let self = c.args.self.now in
    got_there self.round.records.ends (self.closed - 1) c.end.result c.end.ensures.value
    ∙ ends_at self c.args.passed c.requires.some done job frame most emits read over h rest on
    ∙ ap (λ n. place_after frame full done.bytes done.records rest (n + self.closed - done.records))
    (sym c.records_run.ensures.value)
