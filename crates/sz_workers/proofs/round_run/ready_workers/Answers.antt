use Rattle.std.proofs.Common.{◌∷◌, [], ℕ, length, sym, ap, ◌∙◌, subst, arith}
use Rattle.std.proofs.lemmas.List.{length-append}
use Rattle.sz_claims.specs.Known.{PassData}
use Rattle.sz_workers.specs.Closing.{IsFresh, AreFresh, IsAlone}
use Rattle.sz_workers.proofs.ClosingLemmas.{alone_more, fresh_more}
use Rattle.sz_workers.proofs.StartLemmas.{lanes_some, lane_low}
use Rattle.sz_workers.proofs.round_run.ready_workers.Goals as goal

pub split-requires-clause-of : goal.split-requires-clause-of
split-requires-clause-of g c = c.loop-number.invariant.0.none.of

pub split-requires-clause-first : goal.split-requires-clause-first
split-requires-clause-first g c = c.loop-number.invariant.0.none.first

-- there are lanes
pub nonzero_rem-number : goal.nonzero_rem-number
nonzero_rem-number g c =
    let some = lanes_some c.args.count c.div_ceil-lanes.result c.div_ceil-lanes.ensures c.requires.lanes.0 in
    omega (arith, some)

-- the pass is fresh
pub invariant_of-push : goal.invariant_of-push
invariant_of-push g c =
    let l = c.loop-number in
    let pass : PassData = c.in-Some.pass in
    let made = alone_more c.args.ledger.now (length l.workers.items) l.first c.split.new.pass pass
    l.invariant.0 c.in-Some.ensures.some in
    record {
      can = c.requires.set;
      fresh = subst (λ (n : ℕ). IsFresh c.args.ledger.now n pass) (sym made.1.number) made.1;
      lane = lane_low l.number c.args.count c.div_ceil-lanes.result c.args.ledger.now.lanes c.div_ceil-lanes.ensures
          c.requires.lanes.1 c.requires.lanes.0;
    }

-- one worker more is ready
pub loop-number-preserved : goal.loop-number-preserved
loop-number-preserved g c =
    let l = c.loop-number in
    let pass : PassData = c.in-Some.pass in
    let is = c.in_ok-push.ensures.items in
    let longer = ap length is ∙ length-append l.workers.items (pass ∷ []) in
    let made = alone_more c.args.ledger.now (length l.workers.items) l.first c.split.new.pass pass
    l.invariant.0 c.in-Some.ensures.some in (
      subst (λ (n : ℕ). IsAlone c.args.ledger.now n c.split.new.pass) (sym longer) made.0,
      subst (AreFresh c.args.ledger.now 1) (sym is)
          (fresh_more c.args.ledger.now 1 l.workers.items pass l.invariant.1 made.1),
    )
