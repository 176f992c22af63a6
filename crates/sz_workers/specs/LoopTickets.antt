-- What the calls on one ticket do, and what is known between two tickets.
use Rattle.std.specs.Prelude.{◌≡◌, ◌⊎◌, ℕ, ◌<◌, Bool, true, false, List, ◌++◌, length, slice_set}
use Rattle.sz_book_rules.specs.Plan.{PlanData, count_of}
use Rattle.sz_book_rules.specs.declared.claim.Claim.{Claim}
use Rattle.sz_book_rules.specs.declared.event.Entry.{Entry}
use Rattle.sz_book_rules.specs.History.{HasDrawn}
use Rattle.sz_book_rules.specs.Orderly.{Phase, undrawn, asks, ended, phase_of, TurnsAll}
use Rattle.sz_claims.specs.Known.{PassData}
use Rattle.sz_workers.specs.Working.{Goes, IsInPlace}
use Rattle.sz_workers.specs.Advances.{AllTellTruth, HasBegun}

module _ (died : ℕ → ℕ → Type 0) (is_bad : ℕ → Type 0) (p : PlanData) where
  -- The further calls tell the truth. Wherever ticket t is at the one phase, they take it to the other, and leave all
  -- other tickets alone
  pub record Leads (v w : PassData) (t : ℕ) (from to : Phase) : Type 0 where
    pub goes : Goes v w
    pub place : IsInPlace w
    pub further : List Entry
    pub later : w.mine ≡ v.mine ++ further
    pub truth : AllTellTruth died is_bad further
    pub advances : (old : List Phase) → t < length old → phase_of old t ≡ from
        → TurnsAll p old further (slice_set old t to)

  -- the further calls leave each ticket where it is
  abbrev pub LeavesAll : PassData → PassData → Type 0
  LeavesAll v w = (t : ℕ) (q : Phase) → Leads v w t q q

  -- they take it to some phase
  abbrev pub Stops : PassData → PassData → ℕ → Phase → Type 0
  Stops v w t from = (to : Phase) × Leads v w t from to

  -- The further calls left each ticket undrawn or ended. The pass drew those that ended
  pub record IsBetween (v w : PassData) : Type 0 where
    pub goes : Goes v w
    pub begun : HasBegun died is_bad p v w
    pub rows : length begun.phases ≡ count_of p
    pub each : (t : ℕ) → (phase_of begun.phases t ≡ undrawn)
        ⊎ ((phase_of begun.phases t ≡ ended) × ((c : Claim) × (c.ticket ≡ t) × HasDrawn c w.mine))

-- the phase of a ticket after an attempt: the ticket has ended, or asks for a number again
abbrev pub phase_after : Bool → Phase
phase_after true = ended
phase_after false = asks
