-- What a contract sees of a ledger and of a pass.
use Rattle.std.specs.Prelude.{◌≡◌, ℕ, ◌+◌, ◌*◌, ◌^◌, ◌<◌, ◌≤◌, Bool, true, false, if◌then◌else◌, nat_lt, Option, Some}
use Rattle.std.specs.Prelude.{None, List, [], ◌∷◌, ◌++◌}
use Rattle.std.specs.Prelude.{length, map, drop, replicate, slice_index_or}
use mathlib.Core.Option.{some}
use lib.ListN.{get_elem?}
use Rattle.atomic_table.specs.Seated.{TableId}
use Rattle.sz_book_rules.specs.Plan.{PlanData, IsPlan, count_of}
use Rattle.sz_book.specs.Lanes.{LaneData}
use Rattle.sz_book_rules.specs.declared.event.Event.{Event}
use Rattle.sz_book_rules.specs.declared.event.Event.TheVariants.{LaneOut}
use Rattle.sz_book_rules.specs.declared.event.Reply.{Reply}
use Rattle.sz_book_rules.specs.declared.event.Reply.TheVariants.{Lane}
use Rattle.sz_book_rules.specs.declared.event.Entry.{Entry}
use Rattle.sz_book_rules.specs.Machine.{LedgerState, opening, list_of}
use Rattle.sz_book_rules.specs.History.{entry, state_after, IsLegal, calls_by, StartsWith, AreTrueReports}
use Rattle.sz_book_rules.specs.History.{IsAmong, AreDistinct, HasWon, HasGiven}
use Rattle.sz_claims.specs.declared.view.Account.{Account}
use Rattle.sz_claims.specs.declared.view.View.{View}
use Rattle.sz_claims.specs.declared.rule.Setup.{Setup}
use Rattle.sz_claims.specs.Rule.{Slot, lane_data, any_of, found_no_ticket, found_no_number, bit}

-- which ledger it is, its plan, and how many lanes it has
pub record LedgerData : Type 0 where
  pub id : TableId
  pub plan : PlanData
  pub lanes : ℕ

-- Which ledger a pass is of, its number, what it has seen, and its own calls; 0 or 1 more than the lane that it holds, and that
-- lane's shards when it was lent. The first pass has the number 0, and knows how many passes were made and may be, and the calls of
-- those that it joined
pub record PassData : Type 0 where
  pub ledger : LedgerData
  pub number : ℕ
  pub made : ℕ
  pub limit : ℕ
  pub seen : List Entry
  pub mine : List Entry
  pub joined : List Account
  pub lane : ℕ
  pub lent : List ℕ

-- what a contract sees of a pass with this view
abbrev pub pass_data : TableId → ℕ → View → PassData
pass_data z limit v = record {
  ledger = record { id = z; plan = v.plan; lanes = v.lanes };
  number = v.number;
  made = v.made;
  limit = limit;
  seen = v.seen;
  mine = v.mine;
  joined = v.joined;
  lane = v.lane;
  lent = v.lent;
}

-- the first pass of a new ledger
abbrev pub first_pass : LedgerData → ℕ → PassData
first_pass ledger limit = record {
  ledger = ledger;
  number = 0;
  made = 1;
  limit = limit;
  seen = [];
  mine = [];
  joined = [];
  lane = 0;
  lent = [];
}

-- the state that the ledger of a pass has after a history
abbrev pub ends_in : PassData → List Entry → LedgerState
ends_in v log = state_after v.ledger.plan (opening v.ledger.plan v.ledger.lanes) log

-- the pass after a call that came after this history: the call is the last of what is seen, and of the pass's own calls. Then the
-- pass holds this lane, with these shards when it was lent
abbrev pub calling_as : PassData → List Entry → Entry → ℕ → List ℕ → PassData
calling_as v log e lane lent = record v { seen = log ++ e ∷ []; mine = v.mine ++ e ∷ []; lane = lane; lent = lent }

-- the call, with these shards, became the last of what is seen, and of the pass's own calls
abbrev pub CallsWith : PassData → Event → List ℕ → Reply → ℕ → List ℕ → PassData → Type 0
CallsWith v event shards reply lane lent w =
    (log : List Entry) × (w ≡ calling_as v log (entry v.number event shards reply) lane lent)
    × StartsWith log v.seen × IsLegal v.ledger.plan v.ledger.lanes w.seen × (calls_by v.number w.seen ≡ w.mine)

-- the same for a call with which no shards come, and which leaves the pass the lane that it has
abbrev pub Calls : PassData → Event → Reply → PassData → Type 0
Calls v event reply w = CallsWith v event [] reply v.lane v.lent w

-- the pass holds lane i, which has the ledger's plan and the shards that it has after the call
abbrev pub IsLent : PassData → ℕ → LaneData → PassData → Type 0
IsLent v i lane w =
    CallsWith v (LaneOut i) [] (Lane true) (i + 1) lane.shards w × (lane.plan ≡ v.ledger.plan)
    × (lane.shards ≡ list_of (ends_in w w.seen) i)

-- these shards are distinct, and each was won by one of these calls and came with a lane in none
pub record AreInHand (shards : List ℕ) (mine : List Entry) : Type 0 where
  pub distinct : AreDistinct shards
  pub won : (s : ℕ) → IsAmong s shards → HasWon s mine
  pub fresh : (s : ℕ) → IsAmong s shards → ¬ HasGiven s mine

-- the shards that a lane has after those that it had when it was lent
abbrev pub further_in : PassData → LaneData → List ℕ
further_in v lane = drop (length v.lent) lane.shards

-- The pass holds lane i. The lane that it brings has the ledger's plan, the shards that it had when it was lent, and after them
-- further ones that the pass won and has not brought yet
pub record MayGive (v : PassData) (i : ℕ) (lane : LaneData) : Type 0 where
  pub has_lane : v.lane ≡ i + 1
  pub plan : lane.plan ≡ v.ledger.plan
  pub longer : lane.shards ≡ v.lent ++ further_in v lane
  pub further : AreInHand (further_in v lane) v.mine

-- each lane has this plan and no shards
abbrev pub AreEmpty : PlanData → List LaneData → Type 0
AreEmpty p [] = Unit {0}
AreEmpty p (lane ∷ lanes) = (lane.plan ≡ p) × (lane.shards ≡ []) × AreEmpty p lanes

-- a new pass has seen what the first one has, and holds nothing
abbrev pub split_off : PassData → PassData
split_off v = record { ledger = v.ledger; number = v.made; made = 0; limit = 0; seen = v.seen; mine = []; joined = []; lane = 0; lent = [] }

-- another pass was made of the first one. No call of its number was seen
abbrev pub IsSplit : PassData → PassData → PassData → Type 0
IsSplit v w other = (v.made < v.limit) × (w ≡ record v { made = v.made + 1 }) × (other ≡ split_off v) × (calls_by v.made v.seen ≡ [])

-- in the history, the calls of each pass that was joined are those that it had made
abbrev pub HasJoined : List Account → List Entry → Type 0
HasJoined joined log = (k : ℕ) (a : Account) → get_elem? joined k ≡ some a → calls_by a.number log ≡ a.calls

-- what both have seen are beginnings of what is then seen, and the other's calls stand in an account
abbrev pub IsJoined : PassData → PassData → PassData → Type 0
IsJoined v other w =
    (log : List Entry) × (w ≡ record v { seen = log; joined = v.joined ++ (record { number = other.number; calls = other.mine }) ∷ [] })
    × StartsWith log v.seen × StartsWith log other.seen × IsLegal v.ledger.plan v.ledger.lanes log × (calls_by v.number log ≡ v.mine)
    × HasJoined w.joined log

-- The state after one legal history, which begins with what the pass has seen. Its reports are true. In it the calls of each pass
-- are just those that it made, and nobody else called
pub record IsEnd (died : ℕ → ℕ → Type 0) (is_bad : ℕ → Type 0) (v : PassData) (log : List Entry) : Type 0 where
  pub legal : IsLegal v.ledger.plan v.ledger.lanes log
  pub seen : StartsWith log v.seen
  pub mine : calls_by v.number log ≡ v.mine
  pub joined : HasJoined v.joined log
  pub others : (n : ℕ) → ¬ (n ≡ 0) → ((k : ℕ) (a : Account) → get_elem? v.joined k ≡ some a → ¬ (a.number ≡ n)) → calls_by n log ≡ []
  pub reports : AreTrueReports died is_bad log

-- the shard in the word of the least bad one
abbrev pub least_of : ℕ → Option ℕ
least_of n = if nat_lt n (2 ^ 32) then Some n else None

-- what a ledger of this plan is left with where this is its state: the lanes with their shards, the winners, the deaths and the least
-- bad shard
pub record IsClosed (p : PlanData) (x : LedgerState) (all : List LaneData) (won died : List ℕ) (least : Option ℕ) : Type 0 where
  pub lanes : all ≡ map (lane_data p) x.lists
  pub settled : won ≡ x.winners
  pub deaths : died ≡ x.deaths
  pub least_bad : least ≡ least_of x.least_bad

-- what the type of a ledger keeps: the table has the words and the slots of its plan and lanes, and there is room for what `close` gives
pub record IsMade (setup found : Setup) (id : TableId) (winners died : List ℕ) (spare most : ℕ) : Type 0 where
  pub plan : IsPlan setup.plan
  pub key : found ≡ setup
  pub words : id.words ≡ 3 * setup.plan.shards + 2 + setup.lanes
  pub slots : id.slots ≡ setup.lanes
  pub settled : length winners ≡ setup.plan.shards
  pub deaths : length died ≡ setup.plan.shards
  pub empty : spare ≡ 0
  pub room : setup.lanes ≤ most

-- each row has so many marks, and none is set
abbrev pub AllBlank : ℕ → List (List Bool) → Type 0
AllBlank n [] = Unit {0}
AllBlank n (r ∷ rs) = (r ≡ replicate n false) × AllBlank n rs

-- what the type of a pass keeps. Its marks tell for which tickets it found no number
pub record IsSound (v : View) (slots : List (ℕ × Slot)) (vain : Bool) (marks : List Bool) (limit : ℕ)
    (rows : List (List Bool)) : Type 0 where
  pub live : 0 < v.weight
  pub idle : v.lane ≡ 0 → slots ≡ []
  pub busy : (i : ℕ) → v.lane ≡ i + 1 → (i < v.lanes) × (slots ≡ (i, None) ∷ [])
  pub legal : IsLegal v.plan v.lanes v.seen
  pub mine : calls_by v.number v.seen ≡ v.mine
  pub no_ticket : any_of found_no_ticket v.mine ≡ bit vain
  pub tickets : length marks ≡ count_of v.plan
  pub no_number : (t : ℕ) → t < count_of v.plan → any_of (found_no_number t) v.mine ≡ bit (slice_index_or marks t false)
  pub room : v.number ≡ 0 → v.made + length rows ≡ limit
  pub made : v.number ≡ 0 → 0 < v.made
  pub others : v.number ≡ 0 → (n : ℕ) → v.made ≤ n → calls_by n v.seen ≡ []
  pub blank : AllBlank (count_of v.plan) rows
  pub small : limit < 2 ^ 32
