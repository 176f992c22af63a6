-- What each event does to the rows of a state.
use Rattle.std.proofs.Common.{◌≡◌, ℕ, ◌+◌, ◌<◌, ◌==◌, Bool, true, false, cond, nat_lt, List, [], ◌∷◌, ◌++◌, set, length, refl, ap, sym, ◌∙◌, subst, arith, length-set, eq-eqb}
use Rattle.std.specs.Prelude.{slice_index}
use Rattle.std.proofs.lemmas.Bool.{eqb-true}
use Rattle.std.proofs.lemmas.List.{get_or-set_same, get_or-set_other, length-replicate}
use Rattle.sz_book_rules.specs.Plan.{PlanData, IsPlan, count_of}
use Rattle.sz_book_rules.specs.declared.claim.Claim.{Claim}
use Rattle.sz_book_rules.specs.declared.event.Event.{Event}
use Rattle.sz_book_rules.specs.declared.event.Event.TheVariants.{Draw, Number, Died, Settle, LaneOut, LaneBack, Bad}
use Rattle.sz_book_rules.specs.declared.event.Entry.{Entry}
use Rattle.sz_book_rules.specs.Machine.{LedgerState, opening, after, Fits, placed, IsDrawn, list_of}
use Rattle.sz_book_rules.specs.History.{state_after, IsLegalFrom}

-- a row for each shard, and for each lane
pub record HasRows (p : PlanData) (x : LedgerState) : Type 0 where
  pub given : length x.given ≡ p.shards
  pub deaths : length x.deaths ≡ p.shards
  pub winners : length x.winners ≡ p.shards
  pub unplaced : length x.unplaced ≡ p.shards
  pub lists : length x.lists ≡ length x.outs

-- what holds of both states holds of the one that a test takes
pub either : (P : LedgerState → Type 0) (b : Bool) (x y : LedgerState) → P x → P y → P (cond b x y)
either P true x y h k = h
either P false x y h k = k

-- the shard of a drawn claim is one of the plan's
pub shard_within : (p : PlanData) (x : LedgerState) (c : Claim) → IsPlan p → IsDrawn p x c → c.shard < p.shards
shard_within p x c plan d = let low = plan.within c.ticket d.ticket in let is = d.shard in omega arith

-- a row with one more, at this shard or at another
pub set_here : (row : List ℕ) (s t v : ℕ) → s < length row → (s == t) ≡ true → slice_index (set row s v) t ≡ v
set_here row s t v low is = let same : s ≡ t = eqb-true s t is in
    ap (slice_index (set row s v)) (sym same) ∙ get_or-set_same row s v 0 low

pub set_there : (row : List ℕ) (s t v : ℕ) → (s == t) ≡ false → slice_index (set row s v) t ≡ slice_index row t
set_there row s t v is =
    get_or-set_other row s t v 0 (λ (same : t ≡ s). apart (subst (λ (n : ℕ). (s == n) ≡ false) same is)) where
      apart : (s == s) ≡ false → ⊥
      apart h = cc (sym h ∙ eq-eqb s s refl)

pub length-placed : (row ss : List ℕ) → length (placed row ss) ≡ length row
length-placed row [] = refl
length-placed row (s ∷ ss) = length-placed (set row s 0) ss ∙ length-set row s 0

pub rows_open : (p : PlanData) (lanes : ℕ) → HasRows p (opening p lanes)
rows_open p lanes = record {
  given = length-replicate p.shards 0;
  deaths = length-replicate p.shards 0;
  winners = length-replicate p.shards 0;
  unplaced = length-replicate p.shards 0;
  lists = length-replicate lanes [] ∙ sym (length-replicate lanes 0);
}

pub rows_kept : (p : PlanData) (x : LedgerState) (n : ℕ) (e : Event) (ss : List ℕ) → HasRows p x
    → HasRows p (after p x n e ss)
rows_kept p x n Draw ss h = either (HasRows p) (nat_lt x.drawn (count_of p)) (record x { drawn = x.drawn + 1 }) x
    record { given = h.given; deaths = h.deaths; winners = h.winners; unplaced = h.unplaced; lists = h.lists } h
rows_kept p x n (Number c) ss h = either (HasRows p) (nat_lt (slice_index x.given c.shard) p.attempts)
    (record x { given = set x.given c.shard (slice_index x.given c.shard + 1) }) x
    record {
      given = length-set x.given c.shard (slice_index x.given c.shard + 1) ∙ h.given;
      deaths = h.deaths;
      winners = h.winners;
      unplaced = h.unplaced;
      lists = h.lists;
    } h
rows_kept p x n (Died c k) ss h = record {
  given = h.given;
  deaths = length-set x.deaths c.shard _ ∙ h.deaths;
  winners = h.winners;
  unplaced = h.unplaced;
  lists = h.lists;
}
rows_kept p x n (Settle c k) ss h = either (HasRows p) (slice_index x.winners c.shard == 0)
    (record x { winners = set x.winners c.shard (k + 1); unplaced = set x.unplaced c.shard (n + 1) }) x
    record {
      given = h.given;
      deaths = h.deaths;
      winners = length-set x.winners c.shard (k + 1) ∙ h.winners;
      unplaced = length-set x.unplaced c.shard (n + 1) ∙ h.unplaced;
      lists = h.lists;
    } h
rows_kept p x n (LaneOut i) ss h = either (HasRows p) (slice_index x.outs i == 0) (record x { outs = set x.outs i 1 }) x
    record {
      given = h.given;
      deaths = h.deaths;
      winners = h.winners;
      unplaced = h.unplaced;
      lists = h.lists ∙ sym (length-set x.outs i 1);
    } h
rows_kept p x n (LaneBack i) ss h = record {
  given = h.given;
  deaths = h.deaths;
  winners = h.winners;
  unplaced = length-placed x.unplaced ss ∙ h.unplaced;
  lists = length-set x.lists i (list_of x i ++ ss) ∙ h.lists ∙ sym (length-set x.outs i 0);
}
rows_kept p x n (Bad s) ss h = record {
  given = h.given;
  deaths = h.deaths;
  winners = h.winners;
  unplaced = h.unplaced;
  lists = h.lists;
}

-- what each step keeps holds after a history
pub kept_on : (p : PlanData) (P : LedgerState → Type 0)
    → ((x : LedgerState) (n : ℕ) (e : Event) (ss : List ℕ) → HasRows p x → Fits p x n e ss → P x → P (after p x n e ss))
    → (x : LedgerState) (es : List Entry) → HasRows p x → IsLegalFrom p x es → P x → P (state_after p x es)
kept_on p P step x [] rows h now = now
kept_on p P step x (e ∷ es) rows h now =
    kept_on p P step (after p x e.by e.event e.shards) es (rows_kept p x e.by e.event e.shards rows) h.2
    (step x e.by e.event e.shards rows h.0 now)
