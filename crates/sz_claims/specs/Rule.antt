-- The rule of the table, and what each step tells.
use Rattle.std.specs.Prelude.{◌≡◌, ◌≢◌, ◌⊎◌, ℕ, zero, suc, ◌+◌, ◌*◌, ◌^◌, ◌<◌, ◌≤◌, ◌==◌, Bool, MatchBool, true, false}
use Rattle.std.specs.Prelude.{if◌then◌else◌, min, Option, Some, None}
use Rattle.std.specs.Prelude.{List, [], ◌∷◌, ◌++◌, length, slice_index, slice_index_or}
use mathlib.Core.Option.{Option as Maybe, some}
use lib.ListN.{get_elem?}
use Rattle.atomic_table.specs.Table.{State, Me}
use Rattle.sz_book_rules.specs.Plan.{PlanData, IsPlan, count_of}
use Rattle.sz_book.specs.Lanes.{LaneData}
use Rattle.sz_book_rules.specs.declared.event.Event.{Event}
use Rattle.sz_book_rules.specs.declared.event.Event.TheVariants.{Draw, Number, LaneOut, LaneBack}
use Rattle.sz_book_rules.specs.declared.event.Reply.{Reply}
use Rattle.sz_book_rules.specs.declared.event.Reply.TheVariants.{Ticket, Number as Numbered, Noted, Lane}
use Rattle.sz_book_rules.specs.declared.event.Entry.{Entry}
use Rattle.sz_book_rules.specs.Machine.{LedgerState, opening, list_of}
use Rattle.sz_book_rules.specs.History.{entry, state_after, IsLegal, calls_by, StartsWith, AreTrueReports}
use Rattle.sz_claims.specs.declared.view.Account.{Account}
use Rattle.sz_claims.specs.declared.view.View.{View}

-- what lies in the slot of a lane
abbrev pub Slot : Type 0
Slot = Option LaneData

-- what the pass at a seat knows
abbrev pub view_of : Me Slot View → View
view_of me = me.0

-- the slots that are out with it
abbrev pub slots_out : Me Slot View → List (ℕ × Slot)
slots_out me = me.1

-- the words of a shard: its numbers, its deaths, its winner
abbrev pub number_at : ℕ → ℕ
number_at s = 3 * s + 1

abbrev pub deaths_at : ℕ → ℕ
deaths_at s = 3 * s + 2

abbrev pub settled_at : ℕ → ℕ
settled_at s = 3 * s + 3

-- the word of the least bad shard
abbrev pub bad_at : PlanData → ℕ
bad_at p = 3 * p.shards + 1

-- the word of lane i, which is 1 where the lane is out
abbrev pub turn_at : PlanData → ℕ → ℕ
turn_at p i = 3 * p.shards + 2 + i

-- a lane of this plan with these shards
abbrev pub lane_data : PlanData → List ℕ → LaneData
lane_data p shards = record { plan = p; shards = shards }

-- the words and the slots show which lanes are out, and the lists of those that are home
pub record ShowsLanes (p : PlanData) (lanes : ℕ) (words : List ℕ) (homes : List (Maybe Slot)) (outs : List ℕ)
    (lists : List (List ℕ)) : Type 0 where
  pub counts : (length homes ≡ lanes) × (length outs ≡ lanes) × (length lists ≡ lanes)
  pub turns : (i : ℕ) → i < lanes → slice_index words (turn_at p i) ≡ slice_index outs i
  pub home : (i : ℕ) → i < lanes → slice_index outs i ≡ 0 → get_elem? homes i ≡ some (some (Some (lane_data p (slice_index_or lists i []))))
  pub out : (i : ℕ) → i < lanes → slice_index outs i ≢ 0 → slice_index outs i ≡ 1

-- the words and the slots show this state
pub record Shows (p : PlanData) (lanes : ℕ) (words : List ℕ) (homes : List (Maybe Slot)) (x : LedgerState) : Type 0 where
  pub count : length words ≡ 3 * p.shards + 2 + lanes
  pub rows : (length x.given ≡ p.shards) × (length x.deaths ≡ p.shards) × (length x.winners ≡ p.shards)
  pub unplaced : length x.unplaced ≡ p.shards
  pub drawn : x.drawn ≡ min (slice_index words 0) (count_of p)
  pub given : (s : ℕ) → s < p.shards → slice_index x.given s ≡ min (slice_index words (number_at s)) p.attempts
  pub deaths : (s : ℕ) → s < p.shards → slice_index x.deaths s ≡ slice_index words (deaths_at s)
  pub winners : (s : ℕ) → s < p.shards → slice_index x.winners s ≡ slice_index words (settled_at s)
  pub least_bad : x.least_bad ≡ slice_index words (bad_at p)
  pub slots : ShowsLanes p lanes words homes x.outs x.lists

-- the sum of f k over each k below n
abbrev pub sum_below : (ℕ → ℕ) → ℕ → ℕ
sum_below f zero = 0
sum_below f (suc n) = f n + sum_below f n

abbrev pub draws_none : Event → Reply → Bool
draws_none Draw (Ticket None) = true
draws_none _ _ = false

abbrev pub numbers_none : ℕ → Event → Reply → Bool
numbers_none t (Number c) (Numbered None) = c.ticket == t
numbers_none t _ _ = false

-- no ticket was left for this call
abbrev pub found_no_ticket : Entry → Bool
found_no_ticket e = draws_none e.event e.reply

-- no number was left for this call's ticket t
abbrev pub found_no_number : ℕ → Entry → Bool
found_no_number t e = numbers_none t e.event e.reply

abbrev pub bit : Bool → ℕ
bit true = 1
bit false = 0

-- 1 where one of the calls passes the test, else 0
abbrev pub any_of : (Entry → Bool) → List Entry → ℕ
any_of f [] = 0
any_of f (e ∷ es) = if f e then 1 else any_of f es

-- for how many tickets one of these calls found no number
abbrev pub without_number : ℕ → List Entry → ℕ
without_number tickets es = sum_below (λ t. any_of (found_no_number t) es) tickets

-- How far a word may lie above its limit: each pass adds once in vain to the ticket word, and once for each ticket to a number word
pub record IsBounded (p : PlanData) (words : List ℕ) (log : List Entry) (made : ℕ) : Type 0 where
  pub tickets : slice_index words 0 ≤ count_of p + sum_below (λ n. any_of found_no_ticket (calls_by n log)) made
  pub numbers : (s : ℕ) → s < p.shards
      → slice_index words (number_at s) ≤ p.attempts + sum_below (λ n. without_number (count_of p) (calls_by n log)) made

-- lane i is out, and has these shards
abbrev pub IsOut : ℕ → LedgerState → ℕ → List ℕ → Type 0
IsOut lanes x i shards = (i < lanes) × (slice_index x.outs i ≡ 1) × (list_of x i ≡ shards)

-- what a live view knows is true of the history, which leads to the state x
pub record IsTrueOf (p : PlanData) (lanes : ℕ) (log : List Entry) (x : LedgerState) (made : ℕ) (joined : List Account)
    (v : View) : Type 0 where
  pub plan : v.plan ≡ p
  pub lanes_are : v.lanes ≡ lanes
  pub seen : StartsWith log v.seen
  pub told : StartsWith log v.told
  pub mine : calls_by v.number log ≡ v.mine
  pub number : v.number < made
  pub first : v.number ≡ 0 → (v.made ≡ made) × (v.joined ≡ joined) × (v.weight ≡ length joined + 1)
  pub alone : 0 < v.number → v.weight ≡ 1
  pub lane : (i : ℕ) → v.lane ≡ i + 1 → IsOut lanes x i v.lent

-- the view of a seat that is not spent
abbrev pub IsAt : List View → ℕ → View → Type 0
IsAt views id v = (get_elem? views id ≡ some v) × (0 < v.weight)

abbrev pub weights : List View → ℕ
weights [] = 0
weights (v ∷ vs) = v.weight + weights vs

-- Each number below `made` belongs to one live view or stands in one account. The views' weights are `made` together
pub record AreNumbered (views : List View) (made : ℕ) (joined : List Account) : Type 0 where
  pub apart : (i j : ℕ) (v w : View) → IsAt views i v → IsAt views j w → v.number ≡ w.number → i ≡ j
  pub numbers : (k : ℕ) (a : Account) → get_elem? joined k ≡ some a → (0 < a.number) × (a.number < made)
  pub away : (k : ℕ) (a : Account) → get_elem? joined k ≡ some a → (id : ℕ) (v : View) → IsAt views id v → ¬ (v.number ≡ a.number)
  pub once : (j k : ℕ) (a b : Account) → get_elem? joined j ≡ some a → get_elem? joined k ≡ some b → a.number ≡ b.number → j ≡ k
  pub covers : (n : ℕ) → n < made
      → ((id : ℕ) × (v : View) × IsAt views id v × (v.number ≡ n))
      ⊎ ((k : ℕ) × (a : Account) × (get_elem? joined k ≡ some a) × (a.number ≡ n))
  pub whole : weights views ≡ made

-- each lane that is out is with one live view
pub record HaveBorrowers (views : List View) (lanes : ℕ) (x : LedgerState) : Type 0 where
  pub once : (i j k : ℕ) (v w : View) → IsAt views i v → IsAt views j w → v.lane ≡ k + 1 → w.lane ≡ k + 1 → i ≡ j
  pub each : (k : ℕ) → k < lanes → slice_index x.outs k ≡ 1 → (id : ℕ) × (v : View) × IsAt views id v × (v.lane ≡ k + 1)

-- There is one legal history, which leads to the state that the words and slots show. Its reports are true. Each of its calls was
-- made by one live view, or stands in the account of a joined pass
pub record Kept (died : ℕ → ℕ → Type 0) (is_bad : ℕ → Type 0) (p : PlanData) (lanes : ℕ) (s : State Slot View) : Type 0 where
  pub log : List Entry
  pub made : ℕ
  pub joined : List Account
  pub plan : IsPlan p
  pub legal : IsLegal p lanes log
  pub reports : AreTrueReports died is_bad log
  pub shows : Shows p lanes s.words s.homes (state_after p (opening p lanes) log)
  pub bounded : IsBounded p s.words log made
  pub small : made < 2 ^ 32
  pub numbered : AreNumbered s.views made joined
  pub borrowed : HaveBorrowers s.views lanes (state_after p (opening p lanes) log)
  pub knows : (id : ℕ) (v : View) → IsAt s.views id v → IsTrueOf p lanes log (state_after p (opening p lanes) log) made joined v
  pub closed : (k : ℕ) (a : Account) → get_elem? joined k ≡ some a → calls_by a.number log ≡ a.calls
  pub others : (n : ℕ) → made ≤ n → calls_by n log ≡ []

abbrev pub view : ℕ → ℕ → ℕ → PlanData → ℕ → List Entry → View
view weight number made p lanes seen =
    record {
      weight = weight;
      number = number;
      made = made;
      plan = p;
      lanes = lanes;
      seen = seen;
      told = [];
      mine = [];
      joined = [];
      lane = 0;
      lent = [];
    }

-- the view of the first pass at the start
abbrev pub newcomer : PlanData → ℕ → View
newcomer p lanes = view 1 0 1 p lanes []

-- the view after a look that found this history
abbrev pub looking : View → List Entry → View
looking v log = record v { seen = log; told = [] }

-- the view after a call that became this entry after this history, with the lane that it then has, and that lane's list
abbrev pub calling : View → List Entry → Entry → ℕ → List ℕ → View
calling v log e lane lent = record v { seen = log ++ e ∷ []; told = []; mine = v.mine ++ e ∷ []; lane = lane; lent = lent }

-- What is seen afterwards is a legal history. It begins with what was seen, and what was told of, and ends with the call, which is
-- one more of the caller's. The caller's calls in it are just those
pub record Follows (v : View) (log : List Entry) (w : View) : Type 0 where
  pub seen : StartsWith log v.seen
  pub told : StartsWith log v.told
  pub legal : IsLegal v.plan v.lanes w.seen
  pub mine : calls_by v.number w.seen ≡ w.mine
  pub others : v.number ≡ 0 → (n : ℕ) → v.made ≤ n → calls_by n w.seen ≡ []

abbrev pub Called : View → Event → List ℕ → Reply → ℕ → List ℕ → View → Type 0
Called v event shards reply lane lent w =
    (log : List Entry) × (w ≡ calling v log (entry v.number event shards reply) lane lent) × Follows v log w

-- the same at a seat, where no shards come with the call, and the lane and the slots stay
abbrev pub CallsAt : Me Slot View → Event → Reply → Me Slot View → Type 0
CallsAt v event reply w =
    Called (view_of v) event [] reply (view_of v).lane (view_of v).lent (view_of w) × (slots_out w ≡ slots_out v)

-- the list that lane i has after what is seen
abbrev pub list_seen : View → ℕ → List ℕ
list_seen v i = list_of (state_after v.plan (opening v.plan v.lanes) v.seen) i

-- lane i was home, and the pass now has it with the list that it has after the call; or it was out
abbrev pub Lent : ℕ → Me Slot View → ℕ → Me Slot View → Type 0
Lent i v found w = MatchBool (found == 0)
    ((list : List ℕ) × Called (view_of v) (LaneOut i) [] (Lane true) (i + 1) list (view_of w) × (list ≡ list_seen (view_of w) i)
    × (slots_out w ≡ (i, Some (lane_data (view_of v).plan list)) ∷ slots_out v))
    (CallsAt v (LaneOut i) (Lane false) w)

-- the pass was lent lane i, and its slot is empty; or the lane was out
abbrev pub IsAsked : ℕ → Me Slot View → Option LaneData → Me Slot View → Type 0
IsAsked i v None w = CallsAt v (LaneOut i) (Lane false) w
IsAsked i v (Some lane) w =
    Called (view_of v) (LaneOut i) [] (Lane true) (i + 1) lane.shards (view_of w)
    × (lane ≡ lane_data (view_of v).plan (list_seen (view_of w) i))
    × (slots_out w ≡ (i, None) ∷ slots_out v)

-- lane i is home again, longer by these shards
abbrev pub Given : ℕ → List ℕ → Me Slot View → Me Slot View → Type 0
Given i shards v w = Called (view_of v) (LaneBack i) shards Noted 0 [] (view_of w) × (slots_out w ≡ [])

-- the list of the lane that is in the slot of a pass
abbrev pub list_in_hand : List (ℕ × Slot) → List ℕ
list_in_hand [] = []
list_in_hand ((i, None) ∷ slots) = []
list_in_hand ((i, Some lane) ∷ slots) = lane.shards

-- the history so far was seen. It has the calls of the accounts
abbrev pub Looked : View → View → Type 0
Looked v w =
    (log : List Entry) × (w ≡ looking v log) × Follows v log w
    × (v.number ≡ 0 → (k : ℕ) (a : Account) → get_elem? v.joined k ≡ some a → calls_by a.number w.seen ≡ a.calls)

-- the first pass makes a new one
abbrev pub split_left : View → View
split_left v = record v { made = v.made + 1 }

abbrev pub split_right : View → View
split_right v = view 1 v.made 0 v.plan v.lanes v.seen

abbrev pub account : View → Account
account w = record { number = w.number; calls = w.mine }

-- the first pass takes in another
abbrev pub merged : View → View → View
merged v w = record v { weight = v.weight + w.weight; told = w.seen; joined = v.joined ++ account w ∷ [] }

abbrev pub spent : View
spent = view 0 0 0 (record { shards = 0; attempts = 0; tickets = [] }) 0 []
