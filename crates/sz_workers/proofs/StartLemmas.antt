-- What a round and its workers begin with.
use Rattle.std.proofs.Common.{◌≡◌, ℕ, ◌%◌, ◌^◌, ◌<◌, ◌≤◌, List, [], ◌∷◌, ◌++◌, length, inr, arith, refl, ap, sym, ◌∙◌, subst}
use Rattle.std.specs.Prelude.{Result, Ok, Err, IfErr}
use Rattle.std.proofs.Math.Nat.{mod-lt}
use Rattle.std.proofs.lemmas.Grind.{div_ceil_times}
use Rattle.sz_book_rules.specs.Plan.{PlanData, IsPlan}
use Rattle.sz_book.specs.Lanes.{LaneData}
use Rattle.sz_book_rules.specs.History.{IsLegal, calls_by, HasWon}
use Rattle.sz_claims.specs.Known.{LedgerData, PassData, AreInHand, AreEmpty, first_pass}
use Rattle.sz_claims.proofs.ForCallers.{none_in_hand}
use Rattle.sz_workers.specs.Working.{Goes, IsInPlace, HasAllWon, IsAtWork}
use Rattle.sz_workers.specs.Advances.{HasBegun}
use Rattle.sz_workers.proofs.AdvanceLemmas.{between_self}
use Rattle.sz_workers.specs.Closing.{IsPocket, IsFresh, IsBack, IsAlone}
use Rattle.sz_attempt.specs.declared.job.Job.{Job}
use Rattle.sz_attempt.specs.Shards.{IsJob}
use Rattle.sz_workers.specs.declared.round.Round.{Round}
use Rattle.sz_workers.specs.Rounds.{IsRound}
use Rattle.sz_workers.specs.RoundTickets.{IsPlanOf, tickets_upto}
use Rattle.sz_workers.specs.Parts.{plan_for}
use Rattle.sz_workers.specs.RoundRuns.{IsSet}
use Rattle.sz_workers.specs.Starting.{HoldsNothing, CanWork, lanes_for}

-- a worker whose pass holds nothing, and whose pocket is empty, is at work
pub begins_work : (v : PassData) (pocket : LaneData) → HoldsNothing v → IsPlan v.ledger.plan
    → IsLegal v.ledger.plan v.ledger.lanes v.seen
    → calls_by v.number v.seen ≡ v.mine → pocket.plan ≡ v.ledger.plan → pocket.shards ≡ [] → IsAtWork v pocket
begins_work v pocket h is legal own plan none = record {
  place = record { plan = is; legal = legal; own = own };
  plan = plan;
  hand = subst (λ (ss : List ℕ). AreInHand ss v.mine) (sym none) (none_in_hand v.mine);
  all = λ s has. inr (h.brought s has);
  idle = h.home;
  none_lent = h.none_lent;
}

-- a fresh pass holds nothing
pub fresh_holds : (ledger : LedgerData) (n : ℕ) (v : PassData) → IsFresh ledger n v → HoldsNothing v
fresh_holds ledger n v f = record {
  home = f.home;
  none_lent = f.none_lent;
  brought = λ s has. absurd (subst (HasWon s) f.silent has);
}

-- a worker that is done is back
pub is_back : (ledger : LedgerData) (v w : PassData) (pocket : LaneData) → Goes v w → IsPocket w.mine pocket
    → v.lane ≡ 0 → v.ledger ≡ ledger → IsBack ledger v.number w pocket
is_back ledger v w pocket goes keeps none of =
    record { of = goes.ledger ∙ of; number = goes.number; home = goes.lane ∙ none; keeps = keeps }

-- a worker that has drawn no ticket
pub in_place : (v : PassData) → IsPlan v.ledger.plan → IsLegal v.ledger.plan v.ledger.lanes v.seen
    → calls_by v.number v.seen ≡ v.mine → IsInPlace v
in_place v plan legal own = record { plan = plan; legal = legal; own = own }

pub not_begun : (died : ℕ → ℕ → Type 0) (is_bad : ℕ → Type 0) (p : PlanData) (v : PassData) → HasBegun died is_bad p v v
not_begun died is_bad p v = (between_self died is_bad p v).begun

-- what is true of each error
pub err_any : {A E : Type 0} (r : Result A E) (P : Type 0) → P → IfErr r (λ (e : E). P)
err_any (Ok a) P p = tt
err_any (Err e) P p = p

pub is_pocket : (v : PassData) (pocket : LaneData) → AreInHand pocket.shards v.mine → HasAllWon v pocket
    → IsPocket v.mine pocket
is_pocket v pocket hand all = record { hand = hand; all = all }

-- a plan of a round is the plan of the round
plan_is : (job : Job) (round : Round) (p : PlanData) → IsPlanOf job round p → p ≡ plan_for job round
plan_is job round p is =
    ap (λ (n : ℕ). record { shards = n; attempts = p.attempts; tickets = p.tickets }) is.shards
    ∙ ap (λ (n : ℕ). record { shards = length round.shards; attempts = n; tickets = p.tickets }) is.attempts
    ∙ ap (λ (ts : List ℕ). record { shards = length round.shards; attempts = job.attempts; tickets = ts })
    (is.tickets ∙ ap (tickets_upto job.twice round.first_shard) is.shards)

-- a round is set that is named by itself
pub is_set : (job : Job) (round : Round) (p : PlanData) → IsJob job → IsRound round → round.passed ≤ job.skip
    → (1 ≤ job.attempts) × (job.attempts ≤ 8) → IsPlanOf job round p → IsSet job round job round p
is_set job round p job_is round_is passed attempts of = record {
  job_is = refl;
  round_is = refl;
  job_runs = job_is;
  round_runs = round_is;
  attempts = attempts;
  passed = passed;
  plan = plan_is job round p of;
  plans = of.plan;
}

-- the ledger of a round that is set
pub can_work : (named : Job) (of : Round) (job : Job) (round : Round) (p : PlanData) (ledger : LedgerData)
    → IsSet named of job round p → ledger.plan ≡ p → CanWork named of job round ledger
can_work named of job round p ledger set is = record {
  job_is = set.job_is;
  round_is = set.round_is;
  job_runs = set.job_runs;
  round_runs = set.round_runs;
  passed = set.passed;
  plans = subst IsPlan (sym is) set.plans;
  plan = is ∙ set.plan;
}

-- a first pass that has done nothing yet
pub is_alone : (ledger : LedgerData) (v : PassData) (limit : ℕ) → IsPlan ledger.plan → v ≡ first_pass ledger limit
    → IsAlone ledger 0 v
is_alone ledger v limit plan is = subst (IsAlone ledger 0) (sym is) (record {
  none = record { plan = plan; of = refl; first = refl; silent = refl; home = refl; accounts = tt };
  joined = refl;
  unseen = refl;
  made = omega arith;
})

-- there are lanes for workers, and not many
pub lanes_some : (count lanes : ℕ) → lanes ≡ lanes_for count → 1 ≤ count → 0 < lanes
lanes_some count lanes is some = let t = div_ceil_times count 2 (omega arith) in omega (arith, is, some, t.0)

pub lanes_few : (count lanes : ℕ) → lanes ≡ lanes_for count → count ≤ 64 → lanes < 2 ^ 32
lanes_few count lanes is few = let t = div_ceil_times count 2 (omega arith) in omega (arith, is, few, t.1)

-- the number of the lane of a worker
pub lane_low : (number count lanes there : ℕ) → lanes ≡ lanes_for count → there ≡ lanes_for count → 1 ≤ count
    → number % lanes < there
lane_low number count lanes there is same some =
    let low = mod-lt number (lanes_some count lanes is some) in omega (arith, low, is, same)

-- one empty lane more
pub one_more_empty : (p : PlanData) (lanes : List LaneData) (lane : LaneData) → AreEmpty p lanes → lane.plan ≡ p
    → lane.shards ≡ [] → AreEmpty p (lanes ++ lane ∷ [])
one_more_empty p [] lane h plan none = (plan, none, tt)
one_more_empty p (l ∷ ls) lane h plan none = (h.0, h.1, one_more_empty p ls lane h.2 plan none)
