use Rattle.std.proofs.Common.{IsTrue, rules, sym, ◌∙◌, subst, arith}
use Rattle.std.specs.Prelude.{OnOk}
use Rattle.std.specs.Io.KnownBytes.{IsAtEnd}
use Rattle.std.proofs.lemmas.Result.{err_from_is_err_and}
use Rattle.sz_total.specs.States.{declarations, emit_count, shown}
use Rattle.sz_total.specs.Totals.{IsNew}
use Rattle.sz_total.specs.Weights.{HaveTheirWeights}
use Rattle.sz_attempt.proofs.ForCallers.{have_their_weights}
use Rattle.sz_stream.specs.Inputs.{nothing, RunsFile}
use Rattle.sz_stream.specs.InputRuns.{ended_so}
use Rattle.sz_stream.proofs.RunLemmas.{few_left}
use Rattle.sz_stream.proofs.ReachLemmas.{can_begin, gathers_nothing, gathers_filled, first_some, can_still, has_round, file_ends, file_is_over, file_stops}
use Rattle.sz_stream.proofs.ReachLemmas.{none_not, keeps_on}
use Rattle.sz_stream.proofs.input_run.run_file.Goals as goal

-- an input is run from its beginning
pub behind-intake-requires : goal.behind-intake-requires
behind-intake-requires g c = record { done = can_begin }

-- the tables of a sound program have their weights
pub new-requires : goal.new-requires
new-requires g c =
    record {
      weights = subst HaveTheirWeights (sym c.tables.ensures.value)
          (have_their_weights c.args.job.now.compiled c.requires.job.sound);
    }

-- nothing was read
pub loop-total-init : goal.loop-total-init
loop-total-init g c =
    let s = c.args.settings.now in
    let total = c.in_ok-total.total in
    record {
      given = c.requires.given;
      room = search rules;
      gathered = gathers_nothing c.args.job.now s.frame s.shard c.behind-intake.result total
          (g.F.Files.left c.args.files.now c.args.file) c.requires.shard c.behind-intake.ensures.empty
          (subst (λ ts. IsNew declarations emit_count shown ts total)
          c.tables.ensures.value c.in_ok-total.ensures.empty);
      kept = search rules;
    }

-- a piece can be read
pub fill-requires-clause-can_read : goal.fill-requires-clause-can_read
fill-requires-clause-can_read g c =
    let s = c.args.settings.now in
    let gathered = c.loop-total.invariant.gathered in
    can_still nothing c.args.job.now s.frame s.shard gathered.emits c.loop-total.intake
    (g.F.Files.left c.args.files.now c.args.file) (g.F.Files.left c.loop-total.files c.args.file) gathered.reached

-- the records before those at hand were counted
pub records_run-requires : goal.records_run-requires
records_run-requires g c =
    let job = c.args.job.now in
    let s = c.args.settings.now in
    let start = g.F.Files.left c.args.files.now c.args.file in
    let gathered = c.loop-total.invariant.gathered in
    record {
      begun = first_some nothing job s.frame s.shard gathered.emits c.fill.new.intake start
          (g.F.Files.left c.fill.new.files c.args.file)
          (c.in_ok-fill.ensures.ok nothing job s.frame s.shard gathered.emits start gathered.reached);
    }

-- all shards were run
pub returns-in-Some-clause-value : goal.returns-in-Some-clause-value
returns-in-Some-clause-value g c =
    let job = c.args.job.now in
    let s = c.args.settings.now in
    let start = g.F.Files.left c.args.files.now c.args.file in
    let left = g.F.Files.left c.fill.new.files c.args.file in
    let total = c.loop-total.total in
    let gathered = gathers_filled nothing job s.frame s.shard total c.loop-total.intake c.fill.new.intake start
    (g.F.Files.left c.loop-total.files c.args.file) c.loop-total.invariant.gathered left c.in_ok-fill.ensures.ok in
    subst (RunsFile job s.shard s.frame start left) (sym c.ended.ensures.value)
    (subst (λ n. RunsFile job s.shard s.frame start left (ended_so total n c.in-Some.ending))
    (sym c.records_run.ensures.value) (file_ends job s.frame s.shard c.fill.new.intake start left total gathered
    c.in_ok-fill.ensures.ready c.in-Some.ending (sym c.end.ensures.value ∙ c.in-Some.is)))

pub returns-in-Some-clause-end : goal.returns-in-Some-clause-end
returns-in-Some-clause-end g c =
    let job = c.args.job.now in
    let s = c.args.settings.now in
    let start = g.F.Files.left c.args.files.now c.args.file in
    let left = g.F.Files.left c.fill.new.files c.args.file in
    let total = c.loop-total.total in
    let gathered = gathers_filled nothing job s.frame s.shard total c.loop-total.intake c.fill.new.intake start
    (g.F.Files.left c.loop-total.files c.args.file) c.loop-total.invariant.gathered left c.in_ok-fill.ensures.ok in
    subst (λ result. OnOk result (IsAtEnd left)) (sym c.ended.ensures.value)
    (subst (λ n. OnOk (ended_so total n c.in-Some.ending) (IsAtEnd left)) (sym c.records_run.ensures.value)
    (file_is_over job s.frame s.shard c.fill.new.intake start left total gathered
    c.in_ok-fill.ensures.ready c.in-Some.ending (sym c.end.ensures.value ∙ c.in-Some.is)))

-- the next ones can be run
pub run_next-requires-clause-can_run : goal.run_next-requires-clause-can_run
run_next-requires-clause-can_run g c κs within =
    let job = c.args.job.now in
    let s = c.args.settings.now in
    let start = g.F.Files.left c.args.files.now c.args.file in
    let left = g.F.Files.left c.fill.new.files c.args.file in
    let gathered = c.loop-total.invariant.gathered in
    record {
      emits = gathered.emits;
      stand = gathered.stand;
      has_round = has_round nothing job s.frame s.shard gathered.emits c.fill.new.intake start left
          (c.in_ok-fill.ensures.ok nothing job s.frame s.shard gathered.emits start gathered.reached)
          c.in_ok-fill.ensures.ready (sym c.end.ensures.value ∙ none_not c.end.result c.in_default.not-Some);
    }

-- fewer records are left
pub loop-total-smaller : goal.loop-total-smaller
loop-total-smaller g c =
    let s = c.args.settings.now in
    let gathered = c.loop-total.invariant.gathered in
    let r = gathered.reached in
    let few =
    few_left nothing c.args.job.now s.frame s.shard c.loop-total.intake gathered.emits r.read r.over r.running in
    let first = c.in_ok-fill.ensures.first in
    let further = c.in_ok-run_next.ensures.ok.further in
    omega (arith, few, first, further)

-- one round more was run
pub loop-total-preserved : goal.loop-total-preserved
loop-total-preserved g c =
    let files = g.F.Files in
    let file = c.args.file in
    let job = c.args.job.now in
    let s = c.args.settings.now in
    let start = files.left c.args.files.now file in
    let left = files.left c.fill.new.files file in
    let gathered =
    gathers_filled nothing job s.frame s.shard c.loop-total.total c.loop-total.intake c.fill.new.intake start
    (files.left c.loop-total.files file) c.loop-total.invariant.gathered left c.in_ok-fill.ensures.ok in
    record {
      given = subst IsTrue (sym (c.fill.ensures.kept.given_same file)) c.loop-total.invariant.given;
      room = c.loop-total.invariant.room;
      gathered = c.in_ok-run_next.ensures.ok.goes_on nothing s.frame s.shard start left gathered;
      kept = keeps_on files.held files.left files.given files.names files.faults file
          c.args.files.now c.loop-total.files c.fill.new.files c.loop-total.invariant.kept c.fill.ensures.kept;
    }

-- a shard decides
pub returns-in_err-run_next-clause-value : goal.returns-in_err-run_next-clause-value
returns-in_err-run_next-clause-value g c =
    let p = err_from_is_err_and c.from_residual-in_err-run_next.result c.from_residual-in_err-run_next.ensures.1 in
    let job = c.args.job.now in
    let s = c.args.settings.now in
    let start = g.F.Files.left c.args.files.now c.args.file in
    let left = g.F.Files.left c.fill.new.files c.args.file in
    let gathered = c.loop-total.invariant.gathered in
    let r = c.in_ok-fill.ensures.ok nothing job s.frame s.shard gathered.emits start gathered.reached in
    rw (p.1, p.2)
    (file_stops job s.frame s.shard c.fill.new.intake start left gathered.emits r
    c.in_err-run_next.field-0.0 c.in_err-run_next.ensures.err)
