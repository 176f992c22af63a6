-- What holds after every history of the ledger: each shard counts once.
use Rattle.std.specs.Prelude.{◌≡◌, ℕ, zero, suc, ◌+◌, ◌<◌, ◌≤◌, ◌==◌, if◌then◌else◌, List, [], ◌∷◌, ◌++◌, slice_index, Option, Some, None}
use Rattle.std.specs.Int.{bit_at}
use Rattle.std.specs.List.{filter_map, range_with_len, sum_by}
use Rattle.sz_book_rules.specs.Plan.{PlanData, IsPlan, count_of}
use Rattle.sz_book_rules.specs.declared.event.Event.{Event}
use Rattle.sz_book_rules.specs.declared.event.Event.TheVariants.{Number, Settle}
use Rattle.sz_book_rules.specs.declared.event.Reply.{Reply}
use Rattle.sz_book_rules.specs.declared.event.Reply.TheVariants.{Ticket, Number as Numbered, Won}
use Rattle.sz_book_rules.specs.declared.event.Entry.{Entry}
use Rattle.sz_book_rules.specs.Machine.{LedgerState, opening}
use Rattle.sz_book_rules.specs.History.{state_after, IsLegal, AreTrueReports}
use Rattle.sz_book_rules.specs.Orderly.{Phase, IsOrderly, HaveEnded}
-- how often shard s stands in a list
pub use Rattle.sz_book_rules.specs.Plan.{tickets_of as times}

-- the ticket that a reply gives
abbrev pub ticket_in : Reply → Option ℕ
ticket_in (Ticket (Some c)) = Some c.ticket
ticket_in reply = None

-- the tickets that were drawn, in order
abbrev pub tickets_drawn : List Entry → List ℕ
tickets_drawn log = filter_map (λ e. ticket_in e.reply) log

-- the number that a call gives for shard s
abbrev pub number_in : ℕ → Event → Reply → Option ℕ
number_in s (Number c) (Numbered (Some k)) = if c.shard == s then Some k else None
number_in s event reply = None

-- the numbers that were given for shard s, in order
abbrev pub numbers_given : ℕ → List Entry → List ℕ
numbers_given s log = filter_map (λ e. number_in s e.event e.reply) log

-- the number by which a call won shard s
abbrev pub win_in : ℕ → Event → Reply → Option ℕ
win_in s (Settle c k) Won = if c.shard == s then Some k else None
win_in s event reply = None

-- the numbers by which shard s was won, in order
abbrev pub wins : ℕ → List Entry → List ℕ
wins s log = filter_map (λ e. win_in s e.event e.reply) log

-- the winner in 0, or 1 more than a winner
abbrev pub winner_in : ℕ → List ℕ
winner_in zero = []
winner_in (suc w) = w ∷ []

-- 1 for a mark that is set
abbrev pub once : ℕ → ℕ
once mark = if mark == 0 then 0 else 1

-- how often shard s stands in all lanes, and among the shards that were won and are in none
abbrev pub times_anywhere : LedgerState → ℕ → ℕ
times_anywhere x s = sum_by (times s) x.lists + once (slice_index x.unplaced s)

-- all attempts that shard s may have died
abbrev pub IsLost : PlanData → LedgerState → ℕ → Type 0
IsLost p x s = (k : ℕ) → k < p.attempts → bit_at (slice_index x.deaths s) k ≡ 1

-- What a history leaves: the tickets drawn are 0, 1, 2 and so on, each once, and so are the numbers given for each
-- shard, below the number of attempts; a shard was won at most once; it stands once in the lanes or outside if it is
-- settled, and else nowhere
pub record CountsOnce (p : PlanData) (x : LedgerState) (log : List Entry) : Type 0 where
  pub tickets : tickets_drawn log ≡ range_with_len 0 x.drawn
  pub drawn : x.drawn ≤ count_of p
  pub numbers : (s : ℕ) → numbers_given s log ≡ range_with_len 0 (slice_index x.given s)
  pub given : (s : ℕ) → slice_index x.given s ≤ p.attempts
  pub won : (s : ℕ) → wins s log ≡ winner_in (slice_index x.winners s)
  pub anywhere : (s : ℕ) → times_anywhere x s ≡ once (slice_index x.winners s)

-- the state after a history from the opening
abbrev pub left_by : PlanData → ℕ → List Entry → LedgerState
left_by p lanes log = state_after p (opening p lanes) log

-- each history counts once
abbrev pub EachShardCountsOnce : Type 0
EachShardCountsOnce = (p : PlanData) (lanes : ℕ) (log : List Entry) → IsPlan p → IsLegal p lanes log
    → CountsOnce p (left_by p lanes log) log

-- a shard that is settled keeps its winner, whatever comes after
abbrev pub TheWinnerStays : Type 0
TheWinnerStays = (p : PlanData) (lanes : ℕ) (front back : List Entry) (s w : ℕ) → IsPlan p
    → IsLegal p lanes (front ++ back) → slice_index (left_by p lanes front).winners s ≡ w + 1
    → slice_index (left_by p lanes (front ++ back)).winners s ≡ w + 1

-- where reports are true, each noted death is of an attempt that died
abbrev pub NotedDeathsAreTrue : (ℕ → ℕ → Type 0) → (ℕ → Type 0) → Type 0
NotedDeathsAreTrue died is_bad = (p : PlanData) (lanes : ℕ) (log : List Entry) → IsPlan p → IsLegal p lanes log
    → AreTrueReports died is_bad log → (s k : ℕ) → bit_at (slice_index (left_by p lanes log).deaths s) k ≡ 1 → died s k

-- once each ticket has ended, each shard below the least bad one of which not all attempts died is settled
abbrev pub EachShardIsDecided : Type 0
EachShardIsDecided = (p : PlanData) (lanes : ℕ) (log : List Entry) (phases : List Phase) → IsPlan p
    → IsLegal p lanes log → IsOrderly p log phases → HaveEnded p log phases → (s : ℕ) → s < p.shards
    → s < (left_by p lanes log).least_bad
    → ¬ IsLost p (left_by p lanes log) s → 0 < slice_index (left_by p lanes log).winners s
