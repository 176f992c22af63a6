-- What the workers of a ledger leave together, once all are done.
use Rattle.std.specs.Prelude.{◌≡◌, ◌⊎◌, ℕ, suc, ◌+◌, ◌<◌, List, [], ◌∷◌, ◌++◌, length, slice_index, Result, IfOk}
use Rattle.std.specs.Int.{bit_at}
use Rattle.sz_book_rules.specs.Plan.{PlanData, IsPlan}
use Rattle.sz_book.specs.Lanes.{LaneData}
use Rattle.sz_book_rules.specs.declared.event.Entry.{Entry}
use Rattle.sz_book_rules.specs.History.{HasWon, HasGiven, IsAmong, AreDistinct}
use Rattle.sz_claims.specs.declared.view.Account.{Account}
use Rattle.sz_claims.specs.Known.{LedgerData, PassData, AreInHand}

-- the shards of lanes, one lane after the other
abbrev pub shards_in : List LaneData → List ℕ
shards_in [] = []
shards_in (lane ∷ lanes) = lane.shards ++ shards_in lanes

-- a pocket stands for just the shards that were won in these calls and came with no lane, each once
pub record IsPocket (mine : List Entry) (pocket : LaneData) : Type 0 where
  pub hand : AreInHand pocket.shards mine
  pub all : (s : ℕ) → HasWon s mine → IsAmong s pocket.shards ⊎ HasGiven s mine

-- a pass of this ledger with this number has seen and made no call, and has no lane
pub record IsFresh (ledger : LedgerData) (n : ℕ) (v : PassData) : Type 0 where
  pub of : v.ledger ≡ ledger
  pub number : v.number ≡ n
  pub unseen : v.seen ≡ []
  pub silent : v.mine ≡ []
  pub home : v.lane ≡ 0
  pub none_lent : v.lent ≡ []

-- these passes are fresh, and have this number and those after it
abbrev pub AreFresh : LedgerData → ℕ → List PassData → Type 0
AreFresh ledger n [] = Unit {0}
AreFresh ledger n (v ∷ vs) = IsFresh ledger n v × AreFresh ledger (suc n) vs

-- a worker is back: its pass has this number and no lane, and this is its pocket
pub record IsBack (ledger : LedgerData) (n : ℕ) (v : PassData) (pocket : LaneData) : Type 0 where
  pub of : v.ledger ≡ ledger
  pub number : v.number ≡ n
  pub home : v.lane ≡ 0
  pub keeps : IsPocket v.mine pocket

-- each of these workers that had memory is back, and their passes have this number and those after it
abbrev pub AreBack : {E : Type 0} → LedgerData → ℕ → List (Result (PassData × LaneData) E) → Type 0
AreBack ledger n [] = Unit {0}
AreBack ledger n (r ∷ rs) = IfOk r (λ back. IsBack ledger n back.0 back.1) × AreBack ledger (suc n) rs

-- these accounts are of passes with this number and those after it, and each has its pocket
abbrev pub AreAccounts : ℕ → List Account → List LaneData → Type 0
AreAccounts n [] [] = Unit {0}
AreAccounts n (a ∷ accounts) (pocket ∷ pockets) =
    (a.number ≡ n) × IsPocket a.calls pocket × AreAccounts (suc n) accounts pockets
AreAccounts n [] (pocket ∷ pockets) = ⊥
AreAccounts n (a ∷ accounts) [] = ⊥

-- the first pass, which made no call, joined those that had these pockets
pub record HasTakenIn (ledger : LedgerData) (v : PassData) (pockets : List LaneData) : Type 0 where
  pub plan : IsPlan ledger.plan
  pub of : v.ledger ≡ ledger
  pub first : v.number ≡ 0
  pub silent : v.mine ≡ []
  pub home : v.lane ≡ 0
  pub accounts : AreAccounts 1 v.joined pockets

-- the first pass made so many others, and neither made a call nor joined one
pub record IsAlone (ledger : LedgerData) (others : ℕ) (v : PassData) : Type 0 where
  pub none : HasTakenIn ledger v []
  pub joined : v.joined ≡ []
  pub unseen : v.seen ≡ []
  pub made : v.made ≡ others + 1

-- The lanes and the pockets have each shard that was settled once, and no other shard. Each noted death is of an
-- attempt that died
pub record IsLeft (died : ℕ → ℕ → Type 0) (p : PlanData) (lanes pockets : List LaneData)
    (won deaths : List ℕ) : Type 0 where
  pub distinct : AreDistinct (shards_in lanes ++ shards_in pockets)
  pub settled : (s : ℕ) → 0 < slice_index won s → IsAmong s (shards_in lanes ++ shards_in pockets)
  pub only : (s : ℕ) → IsAmong s (shards_in lanes ++ shards_in pockets) → 0 < slice_index won s
  pub true_deaths : (s k : ℕ) → bit_at (slice_index deaths s) k ≡ 1 → died s k
  pub rows : (length won ≡ p.shards) × (length deaths ≡ p.shards)
