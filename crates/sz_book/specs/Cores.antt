-- What a contract sees of a core, and what its calls do.
use Rattle.std.specs.Prelude.{◌≡◌, ℕ, suc, ◌+◌, ◌^◌, ◌<◌, ◌≤◌, ◌==◌, ◌&&◌, Bool, not, if◌then◌else◌, List, [], ◌∷◌, ◌++◌, length, map, replicate, slice_index, Option, Some, None}
use Rattle.std.specs.List.{sum_by, list_any}
use Rattle.sz_book_rules.specs.Plan.{PlanData, IsPlan, count_of}
use Rattle.sz_book_rules.specs.declared.event.Event.{Event}
use Rattle.sz_book_rules.specs.declared.event.Event.TheVariants.{Draw, Number, Died, Settle, LaneOut, LaneBack, Bad}
use Rattle.sz_book_rules.specs.declared.event.Reply.{Reply}
use Rattle.sz_book_rules.specs.declared.event.Entry.{Entry}
use Rattle.sz_book_rules.specs.Machine.{LedgerState, opening, IsDrawn, IsTried, IsStep}
use Rattle.sz_book_rules.specs.History.{entry, state_after, IsLegal}
use Rattle.sz_book_rules.specs.Counting.{once}

-- how many shards a list has room for, and its shards
pub record ReservedData : Type 0 where
  pub room : ℕ
  pub shards : List ℕ

-- its plan, how many lanes it has, and its state
pub record CoreData : Type 0 where
  pub plan : PlanData
  pub lanes : ℕ
  pub state : LedgerState

-- the least bad shard, or 2 ^ 32 where there is none
abbrev pub least_or_none : Option ℕ → ℕ
least_or_none (Some s) = s
least_or_none None = 2 ^ 32

-- what a contract sees of a core that holds these
abbrev pub core_data : PlanData → ℕ → List ℕ → List ℕ → List ℕ → List ℕ → Option ℕ → List ℕ → List (List ℕ) → CoreData
core_data p drawn given deaths winners unplaced bad outs lists = record {
  plan = p;
  lanes = length outs;
  state = record {
    drawn = drawn;
    given = given;
    deaths = deaths;
    winners = winners;
    unplaced = unplaced;
    least_bad = least_or_none bad;
    outs = outs;
    lists = lists;
  };
}

-- the places of the marks that are not 0, in order, where the first mark has place s
abbrev pub marked_from : ℕ → List ℕ → List ℕ
marked_from s [] = []
marked_from s (mark ∷ marks) = if mark == 0 then marked_from (suc s) marks else s ∷ marked_from (suc s) marks

-- whether a shard is marked, and none of those in front of it
abbrev pub is_unplaced_after : List ℕ → List ℕ → ℕ → Bool
is_unplaced_after marks front s = (slice_index marks s == 1) && not (list_any (λ t. t == s) front)

-- the shards that were won and are in no lane, in order
abbrev pub floating : LedgerState → List ℕ
floating x = marked_from 0 x.unplaced

-- with a lane that comes back come all shards that are in no lane
abbrev pub brought : LedgerState → Event → List ℕ
brought x Draw = []
brought x (Number c) = []
brought x (Died c k) = []
brought x (Settle c k) = []
brought x (LaneOut i) = []
brought x (LaneBack i) = floating x
brought x (Bad s) = []

-- the claim was drawn, the number was given for its shard, the lane is one of the core's or is out, the shard is one
-- of the plan's
abbrev pub IsAllowed : PlanData → LedgerState → Event → Type 0
IsAllowed p x Draw = Unit {0}
IsAllowed p x (Number c) = IsDrawn p x c
IsAllowed p x (Died c k) = IsTried p x c k
IsAllowed p x (Settle c k) = IsTried p x c k
IsAllowed p x (LaneOut i) = i < length x.outs
IsAllowed p x (LaneBack i) = (i < length x.outs) × (slice_index x.outs i ≡ 1)
IsAllowed p x (Bad s) = s < p.shards

-- one step of the ledger was made with these shards, by its one caller, who has the number 0
pub record TakesWith (old : CoreData) (event : Event) (shards : List ℕ) (reply : Reply) (new : CoreData) : Type 0 where
  pub step : IsStep old.plan old.state 0 event shards reply new.state
  pub kept : new ≡ record old { state = new.state }

-- the same, where a lane that comes back takes all shards that are in none
abbrev pub Takes : CoreData → Event → Reply → CoreData → Type 0
Takes old event reply new = TakesWith old event (brought old.state event) reply new

-- the core came to its state by this history
pub record IsAfter (log : List Entry) (core : CoreData) : Type 0 where
  pub legal : IsLegal core.plan core.lanes log
  pub state : core.state ≡ state_after core.plan (opening core.plan core.lanes) log

-- what had come to the old state by a history comes to the new one by that and this call
pub record GoesOn (old : CoreData) (event : Event) (reply : Reply) (new : CoreData) : Type 0 where
  pub history : (log : List Entry) → IsAfter log old
      → IsAfter (log ++ entry 0 event (brought old.state event) reply ∷ []) new

-- What a core keeps of its state: a row for each shard and for each lane, and numbers in their bounds. The shards in
-- the lanes and those that are won and in none are no more than were won
pub record IsSound (p : PlanData) (x : LedgerState) : Type 0 where
  pub plan : IsPlan p
  pub rows : (length x.given ≡ p.shards) × (length x.deaths ≡ p.shards) × (length x.winners ≡ p.shards)
      × (length x.unplaced ≡ p.shards)
  pub lanes : length x.lists ≡ length x.outs
  pub drawn : x.drawn ≤ count_of p
  pub given : (s : ℕ) → slice_index x.given s ≤ p.attempts
  pub winners : (s : ℕ) → slice_index x.winners s ≤ p.attempts
  pub marks : (s : ℕ) → slice_index x.unplaced s ≤ 1
  pub outs : (i : ℕ) → slice_index x.outs i ≤ 1
  pub few : sum_by length x.lists + sum_by once x.unplaced ≤ sum_by once x.winners

-- what the type of a core keeps: the same, and that each of its lists has room for all shards
pub record IsKept (p : PlanData) (x : LedgerState) (lists : List ReservedData) : Type 0 where
  pub sound : IsSound p x
  pub room : map (λ list. list.room) lists ≡ replicate (length lists) p.shards
