-- The ledger as a machine of one thread.
use Rattle.std.specs.Prelude.{◌≡◌, ℕ, ◌+◌, ◌-◌, ◌^◌, ◌<◌, ◌==◌, if◌then◌else◌, min, nat_lt, List, [], ◌∷◌, ◌++◌, length, replicate, slice_index, slice_index_or, slice_set, bit_or, Some, None}
use Rattle.sz_book_rules.specs.Plan.{PlanData, count_of}
use Rattle.sz_book_rules.specs.declared.claim.Claim.{Claim}
use Rattle.sz_book_rules.specs.declared.event.Event.{Event}
use Rattle.sz_book_rules.specs.declared.event.Event.TheVariants.{Draw, Number, Died, Settle, LaneOut, LaneBack, Bad}
use Rattle.sz_book_rules.specs.declared.event.Reply.{Reply}
use Rattle.sz_book_rules.specs.declared.event.Reply.TheVariants.{Ticket, Number as Numbered, Noted, Won, Late, Lane}

-- How many tickets were drawn. For each shard, how many numbers were given, the attempts whose deaths were noted as
-- the sum of their powers of two, 0 or 1 more than the winner, and 0 or 1 more than the caller who won it and has not
-- put it into a lane.
-- The least bad shard, or 2 ^ 32 where there is none. For each lane, 1 where it is out, and the shards in it.
pub record LedgerState : Type 0 where
  pub drawn : ℕ
  pub given : List ℕ
  pub deaths : List ℕ
  pub winners : List ℕ
  pub unplaced : List ℕ
  pub least_bad : ℕ
  pub outs : List ℕ
  pub lists : List (List ℕ)

-- at the opening nothing was drawn, given, noted, settled or marked bad, and so many lanes are home and empty
abbrev pub opening : PlanData → ℕ → LedgerState
opening p lanes = record {
  drawn = 0;
  given = replicate p.shards 0;
  deaths = replicate p.shards 0;
  winners = replicate p.shards 0;
  unplaced = replicate p.shards 0;
  least_bad = 2 ^ 32;
  outs = replicate lanes 0;
  lists = replicate lanes [];
}

-- the claim of ticket t: the ticket and its shard
abbrev pub claim_of : PlanData → ℕ → Claim
claim_of p t = record { ticket = t; shard = slice_index p.tickets t }

-- the shards in lane i
abbrev pub list_of : LedgerState → ℕ → List ℕ
list_of x i = slice_index_or x.lists i []

-- what is unplaced once these shards are in a lane
abbrev pub placed : List ℕ → List ℕ → List ℕ
placed unplaced [] = unplaced
placed unplaced (s ∷ ss) = placed (slice_set unplaced s 0) ss

-- these shards are distinct, and caller n won each and has not put it into a lane
abbrev pub AreUnplaced : ℕ → List ℕ → List ℕ → Type 0
AreUnplaced n unplaced [] = Unit {0}
AreUnplaced n unplaced (s ∷ ss) = (slice_index unplaced s ≡ n + 1) × AreUnplaced n (slice_set unplaced s 0) ss

-- the claim is that of a drawn ticket
pub record IsDrawn (p : PlanData) (x : LedgerState) (c : Claim) : Type 0 where
  pub drawn : c.ticket < x.drawn
  pub ticket : c.ticket < count_of p
  pub shard : slice_index p.tickets c.ticket ≡ c.shard

-- the claim was drawn, and the number was given for its shard
pub record IsTried (p : PlanData) (x : LedgerState) (c : Claim) (k : ℕ) : Type 0 where
  pub claim : IsDrawn p x c
  pub below : k < p.attempts
  pub given : k < slice_index x.given c.shard

-- the lane is out, and the shards that come with it are the caller's to bring
pub record IsReturned (x : LedgerState) (n i : ℕ) (shards : List ℕ) : Type 0 where
  pub within : i < length x.outs
  pub out : slice_index x.outs i ≡ 1
  pub brought : AreUnplaced n x.unplaced shards

-- the event of caller n, with the shards that come with a lane, fits the state. With any other event come no shards
abbrev pub Fits : PlanData → LedgerState → ℕ → Event → List ℕ → Type 0
Fits p x n Draw shards = shards ≡ []
Fits p x n (Number c) shards = (shards ≡ []) × IsDrawn p x c
Fits p x n (Died c k) shards = (shards ≡ []) × IsTried p x c k
Fits p x n (Settle c k) shards = (shards ≡ []) × IsTried p x c k
Fits p x n (LaneOut i) shards = (shards ≡ []) × (i < length x.outs)
Fits p x n (LaneBack i) shards = IsReturned x n i shards
Fits p x n (Bad s) shards = (shards ≡ []) × (s < p.shards)

-- the state after an event
abbrev pub after : PlanData → LedgerState → ℕ → Event → List ℕ → LedgerState
after p x n Draw shards = if nat_lt x.drawn (count_of p) then record x { drawn = x.drawn + 1 } else x
after p x n (Number c) shards = if nat_lt (slice_index x.given c.shard) p.attempts
    then record x { given = slice_set x.given c.shard (slice_index x.given c.shard + 1) } else x
after p x n (Died c k) shards = record x {
  deaths = slice_set x.deaths c.shard (bit_or (slice_index x.deaths c.shard) (2 ^ k));
}
after p x n (Settle c k) shards = if slice_index x.winners c.shard == 0
    then record x { winners = slice_set x.winners c.shard (k + 1); unplaced = slice_set x.unplaced c.shard (n + 1) }
    else x
after p x n (LaneOut i) shards = if slice_index x.outs i == 0 then record x { outs = slice_set x.outs i 1 } else x
after p x n (LaneBack i) shards =
    record x {
      outs = slice_set x.outs i 0;
      lists = slice_set x.lists i (list_of x i ++ shards);
      unplaced = placed x.unplaced shards;
    }
after p x n (Bad s) shards = record x { least_bad = min x.least_bad s }

-- the reply to a draw where n tickets were drawn
abbrev pub draw_reply : PlanData → ℕ → Reply
draw_reply p n = if nat_lt n (count_of p) then Ticket (Some (claim_of p n)) else Ticket None

-- the reply to an ask for a number where n were given for the shard
abbrev pub number_reply : PlanData → ℕ → Reply
number_reply p n = if nat_lt n p.attempts then Numbered (Some n) else Numbered None

-- the reply to a settlement where the shard has 0, or 1 more than its winner
abbrev pub settle_reply : ℕ → Reply
settle_reply n = if n == 0 then Won else Late (n - 1)

-- the reply to an event
abbrev pub reply_of : PlanData → LedgerState → Event → Reply
reply_of p x Draw = draw_reply p x.drawn
reply_of p x (Number c) = number_reply p (slice_index x.given c.shard)
reply_of p x (Died c k) = Noted
reply_of p x (Settle c k) = settle_reply (slice_index x.winners c.shard)
reply_of p x (LaneOut i) = Lane (slice_index x.outs i == 0)
reply_of p x (LaneBack i) = Noted
reply_of p x (Bad s) = Noted

-- a step of the ledger: the event fits the state, and the reply and the next state are those that the event gives
pub record IsStep (p : PlanData) (x : LedgerState) (n : ℕ) (event : Event) (shards : List ℕ) (reply : Reply)
    (y : LedgerState) : Type 0 where
  pub fits : Fits p x n event shards
  pub answer : reply ≡ reply_of p x event
  pub next : y ≡ after p x n event shards
