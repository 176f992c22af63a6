-- What a lock round a ledger with its history keeps, and what the calls of a book say.
use Rattle.std.specs.Prelude.{◌≡◌, ◌⊎◌, ℕ, ◌<◌, ◌≤◌, true, false, List, [], ◌∷◌, ◌++◌, length, slice_index, slice_index_or, slice_set, Option, Some, None}
use Rattle.std.specs.List.{filter_map}
use Rattle.sz_book_rules.specs.Plan.{PlanData, count_of}
use Rattle.sz_book_rules.specs.declared.claim.Claim.{Claim}
use Rattle.sz_book_rules.specs.declared.event.Event.{Event}
use Rattle.sz_book_rules.specs.declared.event.Event.TheVariants.{Draw, Number, Died, Settle, LaneOut, LaneBack, Bad}
use Rattle.sz_book_rules.specs.declared.event.Reply.{Reply}
use Rattle.sz_book_rules.specs.declared.event.Reply.TheVariants.{Noted, Lane}
use Rattle.sz_book_rules.specs.Machine.{LedgerState, Fits, list_of}
use Rattle.sz_book.specs.Lanes.{LaneData}
use Rattle.sz_book.specs.Cores.{least_or_none}
use Rattle.sz_book.specs.Held.{HeldData, Applies, Replays}

-- what the lock guards: the ledger, and for each lane the lane itself where it is home
pub record ShelfData : Type 0 where
  pub ledger : HeldData
  pub homes : List (Option LaneData)

-- a lane that is home has the shards that the state has for it, and one that is out isn't here
abbrev pub IsInPlace : Option LaneData → ℕ → List ℕ → Type 0
IsInPlace (Some lane) out list = (out ≡ 0) × (lane.shards ≡ list)
IsInPlace None out list = out ≡ 1

-- the lanes that are here are just those that are home
pub record AreInPlace (x : LedgerState) (homes : List (Option LaneData)) : Type 0 where
  pub count : length homes ≡ length x.outs
  pub rows : length x.lists ≡ length x.outs
  pub each : (i : ℕ) → i < length homes → IsInPlace (slice_index_or homes i None) (slice_index x.outs i) (list_of x i)

-- what the lock keeps beside what the ledger keeps: the lanes are in place, and there is room for them when it is
-- closed
pub record IsShelf (x : LedgerState) (homes : List (Option LaneData)) (here spare most : ℕ) : Type 0 where
  pub lanes : AreInPlace x homes
  pub empty : spare ≡ 0
  pub room : here ≤ most

-- the event is of no lane
abbrev pub IsPlain : Event → Type 0
IsPlain Draw = Unit {0}
IsPlain (Number c) = Unit {0}
IsPlain (Died c k) = Unit {0}
IsPlain (Settle c k) = Unit {0}
IsPlain (LaneOut i) = ⊥
IsPlain (LaneBack i) = ⊥
IsPlain (Bad s) = Unit {0}

-- the event, of no lane, was taken in
abbrev pub Takes : ShelfData → Event → Reply → ShelfData → Type 0
Takes old event reply new = Applies old.ledger event [] reply new.ledger × (new.homes ≡ old.homes)

-- the event was no step, and nothing changed
abbrev pub Refuses : ShelfData → Event → List ℕ → ShelfData → Type 0
Refuses old event shards new = (new ≡ old) × ¬ Fits old.ledger.plan old.ledger.state 0 event shards

-- lane i was home and is lent
abbrev pub Lends : ShelfData → ℕ → LaneData → ShelfData → Type 0
Lends old i lane new =
    Applies old.ledger (LaneOut i) [] (Lane true) new.ledger × (slice_index_or old.homes i None ≡ Some lane)
    × (new.homes ≡ slice_set old.homes i None)

-- lane i was out and stays so, or there is no such lane
abbrev pub LendsNone : ShelfData → ℕ → ShelfData → Type 0
LendsNone old i new = (new.homes ≡ old.homes)
    × (Applies old.ledger (LaneOut i) [] (Lane false) new.ledger ⊎ Refuses old (LaneOut i) [] new)

-- the lane came home with these shards after those that it had
abbrev pub Homes : ShelfData → ℕ → LaneData → List ℕ → ShelfData → Type 0
Homes old i lane further new =
    Applies old.ledger (LaneBack i) further Noted new.ledger × (new.homes ≡ slice_set old.homes i (Some lane))

-- a lane that is given back comes home where that fits, and is dropped otherwise
pub record IsGiven (old : ShelfData) (i : ℕ) (lane : LaneData) (new : ShelfData) : Type 0 where
  pub home : (further : List ℕ) → lane.shards ≡ list_of old.ledger.state i ++ further
      → Fits old.ledger.plan old.ledger.state 0 (LaneBack i) further
      → Homes old i lane further new
  pub dropped : ((further : List ℕ) → lane.shards ≡ list_of old.ledger.state i ++ further
      → ¬ Fits old.ledger.plan old.ledger.state 0 (LaneBack i) further)
      → new ≡ old

-- what a contract sees of a book, and of a pass: the plan, and how many passes may still be split off
pub record BookData : Type 0 where
  pub plan : PlanData

pub record BookPassData : Type 0 where
  pub left : ℕ

-- each lane has no shards
abbrev pub HaveNoShards : List LaneData → Type 0
HaveNoShards [] = Unit {0}
HaveNoShards (lane ∷ lanes) = (lane.shards ≡ []) × HaveNoShards lanes

-- the claim is of a ticket of the plan, with its shard
pub record IsClaim (p : PlanData) (c : Claim) : Type 0 where
  pub ticket : c.ticket < count_of p
  pub shard : slice_index p.tickets c.ticket ≡ c.shard

-- these rows show the state: winners, deaths, each as far as the rows go, and the least bad shard
pub record Shows (x : LedgerState) (won died : List ℕ) (bad : Option ℕ) : Type 0 where
  pub winners : (s : ℕ) → s < length won → slice_index won s ≡ slice_index x.winners s
  pub deaths : (s : ℕ) → s < length died → slice_index died s ≡ slice_index x.deaths s
  pub least_bad : least_or_none bad ≡ x.least_bad

-- the lanes that are home, in the order of the lanes
abbrev pub lanes_home : List (Option LaneData) → List LaneData
lanes_home homes = filter_map (λ home. home) homes

-- What is left of a shelf: just the lanes that it has at home, in their order and each with the shards that the state
-- has for it, and rows that show the state. With a lending in front of each return the shelf's history is legal, and
-- leads to the state but for which lanes are out. Each noted death is of an attempt that died, and the least bad
-- shard is bad
pub record IsLeft (died : ℕ → ℕ → Type 0) (is_bad : ℕ → Type 0) (shelf : ShelfData)
    (lanes : List LaneData) (won notes : List ℕ) (bad : Option ℕ) : Type 0 where
  pub replays : Replays died is_bad shelf.ledger
  pub placed : AreInPlace shelf.ledger.state shelf.homes
  pub lanes_are : lanes ≡ lanes_home shelf.homes
  pub shows : Shows shelf.ledger.state won notes bad
