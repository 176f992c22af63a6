-- Histories of a ledger: lists of calls, each with its caller, the shards that came with a lane, and its answer.
use Rattle.std.specs.Prelude.{◌≡◌, ◌⊎◌, ℕ, ◌==◌, if◌then◌else◌, List, [], ◌∷◌, ◌++◌, Some}
use Rattle.sz_book_rules.specs.Plan.{PlanData}
use Rattle.sz_book_rules.specs.declared.claim.Claim.{Claim}
use Rattle.sz_book_rules.specs.declared.event.Event.{Event}
use Rattle.sz_book_rules.specs.declared.event.Event.TheVariants.{Draw, Number, Died, Settle, LaneOut, LaneBack, Bad}
use Rattle.sz_book_rules.specs.declared.event.Reply.{Reply}
use Rattle.sz_book_rules.specs.declared.event.Reply.TheVariants.{Ticket, Number as Numbered, Won}
use Rattle.sz_book_rules.specs.declared.event.Entry.{Entry}
use Rattle.sz_book_rules.specs.Machine.{LedgerState, opening, after, reply_of, Fits}

-- the call of caller n
abbrev pub entry : ℕ → Event → List ℕ → Reply → Entry
entry n event shards reply = record { by = n; event = event; shards = shards; reply = reply }

-- the state after a history
abbrev pub state_after : PlanData → LedgerState → List Entry → LedgerState
state_after p x [] = x
state_after p x (e ∷ es) = state_after p (after p x e.by e.event e.shards) es

-- each call is a step from the state that the calls before it leave
abbrev pub IsLegalFrom : PlanData → LedgerState → List Entry → Type 0
IsLegalFrom p x [] = Unit {0}
IsLegalFrom p x (e ∷ es) =
    Fits p x e.by e.event e.shards × (e.reply ≡ reply_of p x e.event)
    × IsLegalFrom p (after p x e.by e.event e.shards) es

-- the history is legal: it replays from the opening of a ledger with so many lanes
pub record IsLegal (p : PlanData) (lanes : ℕ) (log : List Entry) : Type 0 where
  pub from : IsLegalFrom p (opening p lanes) log

-- the calls of caller n, in order
abbrev pub calls_by : ℕ → List Entry → List Entry
calls_by n [] = []
calls_by n (e ∷ es) = if e.by == n then e ∷ calls_by n es else calls_by n es

-- the second history is a beginning of the first
abbrev pub StartsWith : List Entry → List Entry → Type 0
StartsWith log seen = (rest : List Entry) × (log ≡ seen ++ rest)

-- one of the calls drew this claim
abbrev pub HasDrawn : Claim → List Entry → Type 0
HasDrawn c [] = ⊥
HasDrawn c (e ∷ es) = ((e.event ≡ Draw) × (e.reply ≡ Ticket (Some c))) ⊎ HasDrawn c es

-- one of the calls was given this number for the claim
abbrev pub HasNumber : Claim → ℕ → List Entry → Type 0
HasNumber c k [] = ⊥
HasNumber c k (e ∷ es) = ((e.event ≡ Number c) × (e.reply ≡ Numbered (Some k))) ⊎ HasNumber c k es

-- the event settles shard s
abbrev pub Settles : ℕ → Event → Type 0
Settles s (Settle c k) = c.shard ≡ s
Settles s Draw = ⊥
Settles s (Number c) = ⊥
Settles s (Died c k) = ⊥
Settles s (LaneOut i) = ⊥
Settles s (LaneBack i) = ⊥
Settles s (Bad t) = ⊥

-- one of the calls won shard s
abbrev pub HasWon : ℕ → List Entry → Type 0
HasWon s [] = ⊥
HasWon s (e ∷ es) = (Settles s e.event × (e.reply ≡ Won)) ⊎ HasWon s es

-- shard s is in the list
abbrev pub IsAmong : ℕ → List ℕ → Type 0
IsAmong s [] = ⊥
IsAmong s (t ∷ ts) = (t ≡ s) ⊎ IsAmong s ts

-- shard s came with a lane in one of the calls
abbrev pub HasGiven : ℕ → List Entry → Type 0
HasGiven s [] = ⊥
HasGiven s (e ∷ es) = IsAmong s e.shards ⊎ HasGiven s es

-- no shard stands twice in the list
abbrev pub AreDistinct : List ℕ → Type 0
AreDistinct [] = Unit {0}
AreDistinct (s ∷ ss) = ¬ IsAmong s ss × AreDistinct ss

-- no shard is in both lists
abbrev pub AreApart : List ℕ → List ℕ → Type 0
AreApart ss ts = (s : ℕ) → IsAmong s ss → ¬ IsAmong s ts

-- a reported death is of an attempt that died, and a shard marked bad is bad: more of its records fault than may be
-- passed over, and not all its attempts died
abbrev pub IsTrueReport : (ℕ → ℕ → Type 0) → (ℕ → Type 0) → Event → Type 0
IsTrueReport died is_bad (Died c k) = died c.shard k
IsTrueReport died is_bad (Bad s) = is_bad s
IsTrueReport died is_bad Draw = Unit {0}
IsTrueReport died is_bad (Number c) = Unit {0}
IsTrueReport died is_bad (Settle c k) = Unit {0}
IsTrueReport died is_bad (LaneOut i) = Unit {0}
IsTrueReport died is_bad (LaneBack i) = Unit {0}

-- every report of the history is true
abbrev pub AreTrueReports : (ℕ → ℕ → Type 0) → (ℕ → Type 0) → List Entry → Type 0
AreTrueReports died is_bad [] = Unit {0}
AreTrueReports died is_bad (e ∷ es) = IsTrueReport died is_bad e.event × AreTrueReports died is_bad es
