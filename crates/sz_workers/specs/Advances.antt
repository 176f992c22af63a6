-- What the further calls of a worker do for the tickets that they draw.
use Rattle.std.specs.Prelude.{◌≡◌, ◌⊎◌, ℕ, List, [], ◌∷◌, ◌++◌, None}
use Rattle.sz_book_rules.specs.Plan.{PlanData}
use Rattle.sz_book_rules.specs.declared.event.Event.{Event}
use Rattle.sz_book_rules.specs.declared.event.Event.TheVariants.{Draw, Settle}
use Rattle.sz_book_rules.specs.declared.event.Reply.TheVariants.{Ticket}
use Rattle.sz_book_rules.specs.declared.event.Entry.{Entry}
use Rattle.sz_book_rules.specs.History.{entry, IsTrueReport}
use Rattle.sz_book_rules.specs.Orderly.{Phase, undrawn, ended, phase_of, IsOrderly}
use Rattle.sz_claims.specs.Known.{PassData}
use Rattle.sz_workers.specs.Makers.{GivesEmits}

-- The event tells the truth of its attempt or shard: a report is true, and a settlement is of an attempt that did not
-- die, on a shard that isn't bad
abbrev pub TellsTruth : (ℕ → ℕ → Type 0) → (ℕ → Type 0) → Event → Type 0
TellsTruth died is_bad (Settle c k) = GivesEmits died is_bad c.shard k
TellsTruth died is_bad event = IsTrueReport died is_bad event

-- each of these calls tells the truth
abbrev pub AllTellTruth : (ℕ → ℕ → Type 0) → (ℕ → Type 0) → List Entry → Type 0
AllTellTruth died is_bad [] = Unit {0}
AllTellTruth died is_bad (e ∷ es) = TellsTruth died is_bad e.event × AllTellTruth died is_bad es

-- no ticket is on its way: each is undrawn or has ended
abbrev pub NoneOnItsWay : List Phase → Type 0
NoneOnItsWay phases = (t : ℕ) → (phase_of phases t ≡ undrawn) ⊎ (phase_of phases t ≡ ended)

module _ (died : ℕ → ℕ → Type 0) (is_bad : ℕ → Type 0) (p : PlanData) where
  -- Later the calls that the pass had made came further ones. They tell the truth, the events of each ticket come in
  -- order, as if none had been drawn before, and they leave the tickets at these phases
  pub record HasBegun (v w : PassData) : Type 0 where
    pub further : List Entry
    pub phases : List Phase
    pub later : w.mine ≡ v.mine ++ further
    pub truth : AllTellTruth died is_bad further
    pub order : IsOrderly p further phases

  -- the pass worked until no ticket was left: each ticket that it drew has ended, and its last call was a draw that
  -- found none
  pub record HasWorked (v w : PassData) : Type 0 where
    pub begun : HasBegun v w
    pub done : NoneOnItsWay begun.phases
    pub last : (front : List Entry) × (begun.further ≡ front ++ entry v.number Draw [] (Ticket None) ∷ [])
