use Rattle.std.proofs.Common.{[], Some, sym, ap, ◌∙◌, subst, arith}
use Rattle.std.specs.Prelude.{is_some}
use Rattle.std.proofs.lemmas.Result.{err_from_is_err_and}
use Rattle.sz_total.specs.States.{declarations, emit_count, shown}
use Rattle.sz_total.specs.Totals.{IsNew}
use Rattle.sz_total.specs.Weights.{HaveTheirWeights}
use Rattle.sz_attempt.proofs.ForCallers.{have_their_weights}
use Rattle.sz_stream.specs.Inputs.{nothing, RunsInput}
use Rattle.sz_stream.specs.InputRuns.{ended_so}
use Rattle.sz_stream.proofs.RunLemmas.{starts, few_left, closed_within, round_stops}
use Rattle.sz_stream.proofs.ReachLemmas.{can_begin, none_stand, gathers_closed, first_some, input_ends, all_read, can_still, ready_known, has_round}
use Rattle.sz_stream.proofs.ReachLemmas.{none_not}
use Rattle.sz_stream.proofs.input_run.run_bytes.Goals as goal

-- an input is run from its beginning
pub behind-intake-requires : goal.behind-intake-requires
behind-intake-requires g c = record { done = can_begin }

-- the tables of a sound program have their weights
pub new-requires : goal.new-requires
new-requires g c =
    record {
      weights = subst HaveTheirWeights (sym c.tables.ensures.value)
          (have_their_weights c.args.job.now.compiled c.requires.job.sound);
    }

-- nothing was read
pub take_all-requires : goal.take_all-requires
take_all-requires g c = record { more = c.behind-intake.ensures.empty.more }

-- everything was read
pub loop-total-init : goal.loop-total-init
loop-total-init g c =
    let job = c.args.job.now in
    let s = c.args.settings.now in
    let total = c.in_ok-total.total in
    let new =
    subst (λ ts. IsNew declarations emit_count shown ts total) c.tables.ensures.value c.in_ok-total.ensures.empty in
    let running = starts nothing job s.frame s.shard c.behind-intake.result c.requires.shard can_begin
    (omega arith) c.behind-intake.ensures.empty in
    let all = c.in_ok-take_all.ensures.ok nothing job s.frame s.shard [] running in
    record {
      gathered = record { emits = []; stand = none_stand job total new; reached = all.reached };
      known = all.known;
    }

-- shards can be closed
pub wants_piece-requires-clause-within : goal.wants_piece-requires-clause-within
wants_piece-requires-clause-within g c =
    let s = c.args.settings.now in
    let gathered = c.loop-total.invariant.gathered in
    let r = gathered.reached in
    closed_within nothing c.args.job.now s.frame s.shard c.loop-total.intake gathered.emits r.read r.over r.running

pub wants_piece-requires-clause-few : goal.wants_piece-requires-clause-few
wants_piece-requires-clause-few g c =
    let s = c.args.settings.now in
    let gathered = c.loop-total.invariant.gathered in
    let r = gathered.reached in
    few_left nothing c.args.job.now s.frame s.shard c.loop-total.intake gathered.emits r.read r.over r.running

-- the records before those at hand were counted
pub records_run-requires : goal.records_run-requires
records_run-requires g c =
    let job = c.args.job.now in
    let s = c.args.settings.now in
    let bytes = c.args.bytes.now in
    let new = c.wants_piece.new.self in
    let gathered =
    gathers_closed nothing job s.frame s.shard c.loop-total.total c.loop-total.intake new (Some bytes) (Some [])
    c.loop-total.invariant.gathered c.in_ok-wants_piece.ensures.closed in
    record { begun = first_some nothing job s.frame s.shard gathered.emits new (Some bytes) (Some []) gathered.reached }

-- all shards were run
pub returns-in-Some-clause-value : goal.returns-in-Some-clause-value
returns-in-Some-clause-value g c =
    let job = c.args.job.now in
    let s = c.args.settings.now in
    let bytes = c.args.bytes.now in
    let total = c.loop-total.total in
    let new = c.wants_piece.new.self in
    let closed = c.in_ok-wants_piece.ensures.closed in
    let gathered = gathers_closed nothing job s.frame s.shard total c.loop-total.intake new (Some bytes) (Some [])
    c.loop-total.invariant.gathered closed in
    let ready =
    ready_known new (can_still nothing job s.frame s.shard gathered.emits new (Some bytes) (Some []) gathered.reached)
    c.in_ok-wants_piece.field-0 (ap is_some closed.ending ∙ c.loop-total.invariant.known)
    c.in_ok-wants_piece.ensures.answer in
    subst (RunsInput job s.shard s.frame bytes) (sym c.ended.ensures.value)
    (subst (λ n. RunsInput job s.shard s.frame bytes (ended_so total n c.in-Some.ending))
    (sym c.records_run.ensures.value) (input_ends job s.frame s.shard new (Some bytes)
    (Some []) total gathered ready c.in-Some.ending (sym c.end.ensures.value ∙ c.in-Some.is) bytes
    (all_read nothing job s.frame s.shard gathered.emits new bytes gathered.reached)))

-- the next ones can be run
pub run_next-requires-clause-can_run : goal.run_next-requires-clause-can_run
run_next-requires-clause-can_run g c κs within =
    let job = c.args.job.now in
    let s = c.args.settings.now in
    let bytes = c.args.bytes.now in
    let new = c.wants_piece.new.self in
    let closed = c.in_ok-wants_piece.ensures.closed in
    let gathered =
    gathers_closed nothing job s.frame s.shard c.loop-total.total c.loop-total.intake new (Some bytes) (Some [])
    c.loop-total.invariant.gathered closed in
    let ready =
    ready_known new (can_still nothing job s.frame s.shard gathered.emits new (Some bytes) (Some []) gathered.reached)
    c.in_ok-wants_piece.field-0 (ap is_some closed.ending ∙ c.loop-total.invariant.known)
    c.in_ok-wants_piece.ensures.answer in
    record {
      emits = gathered.emits;
      stand = gathered.stand;
      has_round = has_round nothing job s.frame s.shard gathered.emits new (Some bytes) (Some []) gathered.reached ready
          (sym c.end.ensures.value ∙ none_not c.end.result c.in_default.not-Some);
    }

-- fewer records are left
pub loop-total-smaller : goal.loop-total-smaller
loop-total-smaller g c =
    let s = c.args.settings.now in
    let gathered = c.loop-total.invariant.gathered in
    let r = gathered.reached in
    let few =
    few_left nothing c.args.job.now s.frame s.shard c.loop-total.intake gathered.emits r.read r.over r.running in
    let first = c.in_ok-wants_piece.ensures.closed.first in
    let further = c.in_ok-run_next.ensures.ok.further in
    omega (arith, few, first, further)

-- one round more was run
pub loop-total-preserved : goal.loop-total-preserved
loop-total-preserved g c =
    let job = c.args.job.now in
    let s = c.args.settings.now in
    let bytes = c.args.bytes.now in
    let closed = c.in_ok-wants_piece.ensures.closed in
    let ok = c.in_ok-run_next.ensures.ok in
    let gathered = gathers_closed nothing job
    s.frame s.shard c.loop-total.total c.loop-total.intake c.wants_piece.new.self (Some bytes) (Some [])
    c.loop-total.invariant.gathered closed in
    record {
      gathered = ok.goes_on nothing s.frame s.shard (Some bytes) (Some []) gathered;
      known = ap is_some (ok.ending ∙ closed.ending) ∙ c.loop-total.invariant.known;
    }

-- a shard decides
pub returns-in_err-run_next-clause-value : goal.returns-in_err-run_next-clause-value
returns-in_err-run_next-clause-value g c =
    let p = err_from_is_err_and c.from_residual-in_err-run_next.result c.from_residual-in_err-run_next.ensures.1 in
    let job = c.args.job.now in
    let s = c.args.settings.now in
    let bytes = c.args.bytes.now in
    let new = c.wants_piece.new.self in
    let gathered =
    gathers_closed nothing job s.frame s.shard c.loop-total.total c.loop-total.intake new (Some bytes) (Some [])
    c.loop-total.invariant.gathered c.in_ok-wants_piece.ensures.closed in
    let r = gathered.reached in
    rw (p.1, p.2)
    (round_stops nothing job s.frame s.shard new
    gathered.emits r.read r.over r.running c.in_err-run_next.field-0.0 c.in_err-run_next.ensures.err bytes
    (all_read nothing job s.frame s.shard gathered.emits new bytes r))
