-- In which order a ticket's events come.
use Rattle.std.specs.Prelude.{◌≡◌, ◌⊎◌, ℕ, ◌<◌, List, [], ◌∷◌, slice_index, slice_index_or, slice_set, replicate, Option, Some, None}
use Rattle.sz_book_rules.specs.Plan.{PlanData, count_of}
use Rattle.sz_book_rules.specs.declared.claim.Claim.{Claim}
use Rattle.sz_book_rules.specs.declared.event.Event.{Event}
use Rattle.sz_book_rules.specs.declared.event.Event.TheVariants.{Draw, Number, Died, Settle, LaneOut, LaneBack, Bad}
use Rattle.sz_book_rules.specs.declared.event.Reply.{Reply}
use Rattle.sz_book_rules.specs.declared.event.Reply.TheVariants.{Ticket, Number as Numbered, Noted, Won, Late, Lane}
use Rattle.sz_book_rules.specs.declared.event.Entry.{Entry}

-- a ticket is not drawn yet; it is to ask for a number; it has this number, and is to report of it; it asks no more
pub data Phase : Type 0 where
  undrawn : Phase
  asks : Phase
  tries : ℕ → Phase
  ended : Phase

-- the phase of ticket t
abbrev pub phase_of : List Phase → ℕ → Phase
phase_of phases t = slice_index_or phases t undrawn

-- ticket t went from one phase to another
abbrev pub Goes : List Phase → ℕ → Phase → Phase → List Phase → Type 0
Goes old t from to new = (phase_of old t ≡ from) × (new ≡ slice_set old t to)

-- some ticket of shard s had a number and reported that the shard is bad
pub record GivesUp (p : PlanData) (old : List Phase) (s : ℕ) (new : List Phase) : Type 0 where
  pub ticket : ℕ
  pub number : ℕ
  pub within : ticket < count_of p
  pub shard : slice_index p.tickets ticket ≡ s
  pub goes : Goes old ticket (tries number) ended new

-- a draw that gave this
abbrev pub Draws : List Phase → Option Claim → List Phase → Type 0
Draws old (Some c) new = Goes old c.ticket undrawn asks new
Draws old None new = new ≡ old

-- an ask of ticket t that gave this
abbrev pub Asks : List Phase → ℕ → Option ℕ → List Phase → Type 0
Asks old t (Some k) new = Goes old t asks (tries k) new
Asks old t None new = Goes old t asks ended new

-- An event with its reply takes the tickets from their old phases to the new ones: after the draw a ticket asks for a
-- number, reports of each number that it is given, and asks again only after a death
abbrev pub Turns : PlanData → List Phase → Event → Reply → List Phase → Type 0
Turns p old Draw (Ticket found) new = Draws old found new
Turns p old (Number c) (Numbered found) new = Asks old c.ticket found new
Turns p old (Died c k) Noted new = Goes old c.ticket (tries k) asks new
Turns p old (Settle c k) Won new = Goes old c.ticket (tries k) ended new
Turns p old (Settle c k) (Late w) new = Goes old c.ticket (tries k) ended new
Turns p old (Bad s) Noted new = GivesUp p old s new
Turns p old (LaneOut i) (Lane home) new = new ≡ old
Turns p old (LaneBack i) Noted new = new ≡ old
Turns p old event reply new = ⊥

-- these calls take the tickets from their old phases to the new ones
abbrev pub TurnsAll : PlanData → List Phase → List Entry → List Phase → Type 0
TurnsAll p old [] new = new ≡ old
TurnsAll p old (e ∷ es) new = (next : List Phase) × Turns p old e.event e.reply next × TurnsAll p next es new

-- the events of each ticket come in order, and leave the tickets at these phases
pub record IsOrderly (p : PlanData) (log : List Entry) (phases : List Phase) : Type 0 where
  pub turns : TurnsAll p (replicate (count_of p) undrawn) log phases

-- the event marks shard s bad
abbrev pub Marks : ℕ → Event → Type 0
Marks s (Bad t) = t ≡ s
Marks s Draw = ⊥
Marks s (Number c) = ⊥
Marks s (Died c k) = ⊥
Marks s (Settle c k) = ⊥
Marks s (LaneOut i) = ⊥
Marks s (LaneBack i) = ⊥

-- one of the calls marked shard s bad
abbrev pub HasBad : ℕ → List Entry → Type 0
HasBad s [] = ⊥
HasBad s (e ∷ es) = Marks s e.event ⊎ HasBad s es

-- each ticket has ended: it asks no more, since it found no number or settled or gave up, or its shard was marked bad
abbrev pub HaveEnded : PlanData → List Entry → List Phase → Type 0
HaveEnded p log phases = (t : ℕ) → t < count_of p → (phase_of phases t ≡ ended) ⊎ HasBad (slice_index p.tickets t) log
