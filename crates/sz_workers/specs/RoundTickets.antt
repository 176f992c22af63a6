-- Tickets in order of shards.
use Rattle.std.specs.Prelude.{◌≡◌, ℕ, zero, suc, ◌+◌, ◌*◌, ◌<◌, ◌≤◌, List, [], ◌∷◌, ◌++◌, length, slice_index, Bool, if◌then◌else◌}
use Rattle.sz_book_rules.specs.Plan.{PlanData, IsPlan, tickets_of}
use Rattle.sz_words.specs.Lists.{is_among}
use Rattle.sz_attempt.specs.declared.job.Job.{Job}
use Rattle.sz_workers.specs.declared.round.Round.{Round}

-- the tickets of a shard: a second one where it is doubled
abbrev pub tickets_for : Bool → ℕ → List ℕ
tickets_for doubled shard = if doubled then shard ∷ shard ∷ [] else shard ∷ []

-- the tickets of so many shards, of which the first has this number, in order; these shards are doubled
abbrev pub tickets_upto : List ℕ → ℕ → ℕ → List ℕ
tickets_upto twice first zero = []
tickets_upto twice first (suc n) = tickets_upto twice first n ++ tickets_for (is_among (first + n) twice) n

-- the tickets are all of shards below this one
abbrev pub AllBelow : List ℕ → ℕ → Type 0
AllBelow tickets shard = (t : ℕ) → t < length tickets → slice_index tickets t < shard

-- these are the tickets of so many shards, one or two of each
pub record AreTickets (shards : ℕ) (tickets : List ℕ) : Type 0 where
  pub below : AllBelow tickets shards
  pub each : (s : ℕ) → s < shards → (1 ≤ tickets_of s tickets) × (tickets_of s tickets ≤ 2)
  pub others : (s : ℕ) → shards ≤ s → tickets_of s tickets ≡ 0
  pub few : length tickets ≤ 2 * shards

-- the plan is that of the round
pub record IsPlanOf (job : Job) (round : Round) (p : PlanData) : Type 0 where
  pub plan : IsPlan p
  pub shards : p.shards ≡ length round.shards
  pub attempts : p.attempts ≡ job.attempts
  pub tickets : p.tickets ≡ tickets_upto job.twice round.first_shard p.shards
