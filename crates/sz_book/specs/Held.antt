-- A ledger with the history that led to its state.
use Rattle.std.specs.Prelude.{◌≡◌, ◌≢◌, ◌↔◌, ℕ, ◌+◌, ◌-◌, ◌*◌, ◌^◌, ◌<◌, ◌≤◌, ◌==◌, if◌then◌else◌, true, false, Bool, nat_lt, List, [], ◌∷◌, ◌++◌, length, take, drop, replicate, slice_index}
use Rattle.std.specs.Int.{bit_at}
use Rattle.std.specs.List.{range_with_len, sum_by}
use Rattle.sz_book_rules.specs.Plan.{PlanData, IsPlan, count_of}
use Rattle.sz_book.specs.declared.change.Change.{Change}
use Rattle.sz_book_rules.specs.declared.event.Event.{Event}
use Rattle.sz_book_rules.specs.declared.event.Event.TheVariants.{Draw, Number, Died, Settle, LaneOut, LaneBack, Bad}
use Rattle.sz_book_rules.specs.declared.event.Reply.{Reply}
use Rattle.sz_book_rules.specs.declared.event.Reply.TheVariants.{Lane}
use Rattle.sz_book_rules.specs.declared.event.Entry.{Entry}
use Rattle.sz_book_rules.specs.Machine.{LedgerState, opening, after, Fits, IsStep}
use Rattle.sz_book_rules.specs.History.{entry, state_after, IsLegal}
use Rattle.sz_book_rules.specs.Counting.{once}
use Rattle.sz_book.specs.Cores.{CoreData, ReservedData, IsSound}

-- its plan, how many lanes it has, its state, and the calls that changed it
pub record HeldData : Type 0 where
  pub plan : PlanData
  pub lanes : ℕ
  pub state : LedgerState
  pub history : List Entry

-- the state with all lanes home
abbrev pub all_home : LedgerState → LedgerState
all_home x = record x { outs = replicate (length x.outs) 0 }

-- whether an event that fits changes the state in more than which lanes are out
abbrev pub is_change : PlanData → LedgerState → Event → List ℕ → Bool
is_change p x Draw shards = nat_lt x.drawn (count_of p)
is_change p x (Number c) shards = nat_lt (slice_index x.given c.shard) p.attempts
is_change p x (Died c k) shards = bit_at (slice_index x.deaths c.shard) k == 0
is_change p x (Settle c k) shards = slice_index x.winners c.shard == 0
is_change p x (LaneOut i) shards = false
is_change p x (LaneBack i) shards = nat_lt 0 (length shards)
is_change p x (Bad s) shards = nat_lt s x.least_bad

-- the history after a call: the call stands after it, if it was a change
abbrev pub history_after : HeldData → Event → List ℕ → Reply → List Entry
history_after h event shards reply =
    if is_change h.plan h.state event shards then h.history ++ entry 0 event shards reply ∷ [] else h.history

-- one step of the ledger was made with these shards, and stands in the history if it was a change
pub record Applies (old : HeldData) (event : Event) (shards : List ℕ) (reply : Reply) (new : HeldData) : Type 0 where
  pub step : IsStep old.plan old.state 0 event shards reply new.state
  pub history : new.history ≡ history_after old event shards reply
  pub kept : (new.plan ≡ old.plan) × (new.lanes ≡ old.lanes)

-- the lending that a return stands after
abbrev pub lending : Event → List Entry
lending (LaneBack i) = entry 0 (LaneOut i) [] (Lane true) ∷ []
lending event = []

-- a history of changes, with a lending in front of each return
abbrev pub with_lendings : List Entry → List Entry
with_lendings [] = []
with_lendings (e ∷ es) = lending e.event ++ e ∷ with_lendings es

-- What the type of a ledger with its history keeps: with a lending in front of each return the history is legal, and
-- leads to the state but for which lanes are out. Each noted death is of an attempt that died, and the least shard
-- marked bad is one of those that are bad
pub record Replays (died : ℕ → ℕ → Type 0) (is_bad : ℕ → Type 0) (h : HeldData) : Type 0 where
  pub plan : IsPlan h.plan
  pub legal : IsLegal h.plan h.lanes (with_lendings h.history)
  pub state : state_after h.plan (opening h.plan h.lanes) (with_lendings h.history) ≡ all_home h.state
  pub deaths : (s k : ℕ) → bit_at (slice_index h.state.deaths s) k ≡ 1 → died s k
  pub bad : h.state.least_bad < 2 ^ 32 → is_bad h.state.least_bad

-- an event that fits is a change exactly where it leaves another state, but for which lanes are out
abbrev pub ChangesAreSeen : Type 0
ChangesAreSeen = (p : PlanData) (x : LedgerState) (event : Event) (shards : List ℕ) → IsSound p x
    → Fits p x 0 event shards → (is_change p x event shards ≡ true)
    ↔ (all_home (after p x 0 event shards) ≢ all_home x)

-- the history that changes stand for: with each come so many of the shards that are listed after one another
abbrev pub history_of : List Change → List ℕ → List Entry
history_of [] brought = []
history_of (c ∷ cs) brought = entry 0 c.event (take c.shards brought) c.reply ∷ history_of cs (drop c.shards brought)

-- how many shards come with these changes
abbrev pub shards_in : List Change → ℕ
shards_in cs = sum_by (λ c. c.shards) cs

-- how many attempts are noted as dead
abbrev pub deaths_in : PlanData → ℕ → ℕ
deaths_in p mask = sum_by (bit_at mask) (range_with_len 0 p.attempts)

-- no fewer than the changes that lead to this state
abbrev pub changes_in : PlanData → LedgerState → ℕ
changes_in p x = x.drawn + sum_by (λ n. n) x.given + sum_by (deaths_in p) x.deaths + sum_by once x.winners
    + sum_by length x.lists + (p.shards - x.least_bad)

-- no fewer than the changes that a round can have
abbrev pub most_changes : PlanData → ℕ
most_changes p = count_of p + p.shards * (2 * p.attempts + 3)

-- what a contract sees of a ledger with this core, these changes and the shards that came with them
abbrev pub held_data : CoreData → List Change → ReservedData → HeldData
held_data core changes brought = record {
  plan = core.plan;
  lanes = core.lanes;
  state = core.state;
  history = history_of changes brought.shards;
}

-- the same with the room for all that may still come
pub record KeepsHistory (died : ℕ → ℕ → Type 0) (is_bad : ℕ → Type 0) (core : CoreData) (changes : List Change)
    (brought : ReservedData)
    (room : ℕ) : Type 0 where
  pub replays : Replays died is_bad (held_data core changes brought)
  pub came : shards_in changes ≡ length brought.shards
  pub placed : length brought.shards ≡ sum_by length core.state.lists
  pub few : length changes ≤ changes_in core.plan core.state
  pub most : most_changes core.plan ≤ room
  pub space : brought.room ≡ core.plan.shards
