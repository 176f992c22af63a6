-- What a call of a pass keeps, and what a claim and a number are good for.
use Rattle.std.proofs.Common.{◌≡◌, ℕ, ◌+◌, ◌<◌, true, List, [], ◌∷◌, ◌++◌, refl, ap, sym, ◌∙◌, subst, inl, inr}
use Rattle.std.specs.Prelude.{slice_index}
use Rattle.std.proofs.lemmas.List.{append_assoc, length-replicate}
use Rattle.sz_book_rules.specs.Plan.{PlanData, IsPlan, count_of}
use Rattle.sz_book_rules.specs.declared.claim.Claim.{Claim}
use Rattle.sz_book.specs.Lanes.{LaneData}
use Rattle.sz_book_rules.specs.declared.event.Event.{Event}
use Rattle.sz_book_rules.specs.declared.event.Event.TheVariants.{LaneOut, LaneBack}
use Rattle.sz_book_rules.specs.declared.event.Reply.{Reply}
use Rattle.sz_book_rules.specs.declared.event.Reply.TheVariants.{Noted, Lane}
use Rattle.sz_book_rules.specs.declared.event.Entry.{Entry}
use Rattle.sz_book_rules.specs.Machine.{LedgerState, opening, after, IsDrawn}
use Rattle.sz_book.specs.Books.{IsClaim}
use Rattle.sz_book_rules.specs.History.{entry, state_after, IsLegal, IsLegalFrom, calls_by, StartsWith, HasDrawn, HasNumber}
use Rattle.sz_book_rules.proofs.HistoryLemmas.{starts_self, starts_more}
use Rattle.sz_book_rules.proofs.StepLemmas.{shard_within}
use Rattle.sz_book_rules.proofs.GrowthLemmas.{has_drawn, has_number, own_drawn, own_number}
use Rattle.sz_claims.specs.Known.{LedgerData, PassData, ends_in, Calls, CallsWith, IsLent}
use Rattle.sz_workers.specs.Working.{Goes, IsInPlace}

starts_then : (a b c : List Entry) → StartsWith a b → StartsWith b c → StartsWith a c
starts_then a b c h g = (g.0 ++ h.0, h.1 ∙ ap (λ (l : List Entry). l ++ h.0) g.1 ∙ append_assoc c g.0 h.0)

pub goes_self : (v : PassData) → Goes v v
goes_self v = record {
  ledger = refl;
  number = refl;
  made = refl;
  limit = refl;
  joined = refl;
  lane = refl;
  lent = refl;
  seen = starts_self v.seen;
}

pub goes_then : (u v w : PassData) → Goes u v → Goes v w → Goes u w
goes_then u v w g h = record {
  ledger = h.ledger ∙ g.ledger;
  number = h.number ∙ g.number;
  made = h.made ∙ g.made;
  limit = h.limit ∙ g.limit;
  joined = h.joined ∙ g.joined;
  lane = h.lane ∙ g.lane;
  lent = h.lent ∙ g.lent;
  seen = starts_then w.seen v.seen u.seen h.seen g.seen;
}

pub goes_call : (v w : PassData) (e : Event) (r : Reply) → Calls v e r w → Goes v w
goes_call v w e r h =
    let last : Entry = entry v.number e [] r in record {
      ledger = ap (λ (u : PassData). u.ledger) h.1;
      number = ap (λ (u : PassData). u.number) h.1;
      made = ap (λ (u : PassData). u.made) h.1;
      limit = ap (λ (u : PassData). u.limit) h.1;
      joined = ap (λ (u : PassData). u.joined) h.1;
      lane = ap (λ (u : PassData). u.lane) h.1;
      lent = ap (λ (u : PassData). u.lent) h.1;
      seen = subst (λ (u : PassData). StartsWith u.seen v.seen) (sym h.1) (starts_more h.0 v.seen (last ∷ []) h.2);
    }

-- what a pass had seen is a beginning of what it has seen after a call
starts_with : (v w : PassData) (e : Event) (ss : List ℕ) (r : Reply) (lane : ℕ) (lent : List ℕ)
    → CallsWith v e ss r lane lent w → StartsWith w.seen v.seen
starts_with v w e ss r lane lent h =
    subst (λ (u : PassData). StartsWith u.seen v.seen) (sym h.1)
    (starts_more h.0 v.seen (entry v.number e ss r ∷ []) h.2)

-- a lane was lent and given back
pub goes_lent : (v w x : PassData) (i : ℕ) (lane : LaneData) (ss : List ℕ) → IsLent v i lane w
    → CallsWith w (LaneBack i) ss Noted 0 [] x → v.lane ≡ 0 → v.lent ≡ [] → Goes v x
goes_lent v w x i lane ss h g idle none = record {
  ledger = ap (λ (u : PassData). u.ledger) g.1 ∙ ap (λ (u : PassData). u.ledger) h.0.1;
  number = ap (λ (u : PassData). u.number) g.1 ∙ ap (λ (u : PassData). u.number) h.0.1;
  made = ap (λ (u : PassData). u.made) g.1 ∙ ap (λ (u : PassData). u.made) h.0.1;
  limit = ap (λ (u : PassData). u.limit) g.1 ∙ ap (λ (u : PassData). u.limit) h.0.1;
  joined = ap (λ (u : PassData). u.joined) g.1 ∙ ap (λ (u : PassData). u.joined) h.0.1;
  lane = ap (λ (u : PassData). u.lane) g.1 ∙ sym idle;
  lent = ap (λ (u : PassData). u.lent) g.1 ∙ sym none;
  seen = starts_then x.seen w.seen v.seen (starts_with w x (LaneBack i) ss Noted 0 [] g)
      (starts_with v w (LaneOut i) [] (Lane true) (i + 1) lane.shards h.0);
}

pub in_place_with : (v w : PassData) (e : Event) (ss : List ℕ) (r : Reply) (lane : ℕ) (lent : List ℕ)
    → CallsWith v e ss r lane lent w → IsInPlace v → IsInPlace w
in_place_with v w e ss r lane lent h place =
    let ledger : w.ledger ≡ v.ledger = ap (λ (u : PassData). u.ledger) h.1 in
    let number : w.number ≡ v.number = ap (λ (u : PassData). u.number) h.1 in record {
      plan = subst (λ (l : LedgerData). IsPlan l.plan) (sym ledger) place.plan;
      legal = subst (λ (l : LedgerData). IsLegal l.plan l.lanes w.seen) (sym ledger) h.3;
      own = subst (λ (n : ℕ). calls_by n w.seen ≡ w.mine) (sym number) h.4;
    }

pub in_place_call : (v w : PassData) (e : Event) (r : Reply) → Calls v e r w → IsInPlace v → IsInPlace w
in_place_call v w e r h place = in_place_with v w e [] r v.lane v.lent h place

-- a claim that a pass drew is that of a drawn ticket
pub claim_drawn : (v : PassData) (c : Claim) → IsInPlace v → HasDrawn c v.mine
    → IsDrawn v.ledger.plan (ends_in v v.seen) c
claim_drawn v c place drew =
    has_drawn v.ledger.plan (opening v.ledger.plan v.ledger.lanes) v.seen c place.legal.from
    (own_drawn v.number v.seen c (subst (HasDrawn c) (sym place.own) drew))

-- it is a claim of the plan
pub is_claim : (p : PlanData) (v : PassData) (c : Claim) → v.ledger.plan ≡ p → IsInPlace v
    → HasDrawn c v.mine → IsClaim p c
is_claim p v c of place drew =
    let drawn = claim_drawn v c place drew in record {
      ticket = subst (λ (q : PlanData). c.ticket < count_of q) of drawn.ticket;
      shard = subst (λ (q : PlanData). slice_index q.tickets c.ticket ≡ c.shard) of drawn.shard;
    }

-- and it is of a shard of the plan
pub claims_shard : (v : PassData) (c : Claim) → IsInPlace v → HasDrawn c v.mine → c.shard < v.ledger.plan.shards
claims_shard v c place drew = shard_within v.ledger.plan (ends_in v v.seen) c place.plan (claim_drawn v c place drew)

-- a number that a pass was given is one of the plan's
pub numbers_low : (v : PassData) (c : Claim) (k : ℕ) → IsInPlace v → HasNumber c k v.mine → k < v.ledger.plan.attempts
numbers_low v c k place given =
    let p : PlanData = v.ledger.plan in
    let all : HasNumber c k v.seen = own_number v.number v.seen c k (subst (HasNumber c k) (sym place.own) given) in
    (has_number p (opening p v.ledger.lanes) v.seen c k place.plan (length-replicate p.shards 0) place.legal.from all).0

pub drawn_front : (c : Claim) (es more : List Entry) → HasDrawn c es → HasDrawn c (es ++ more)
drawn_front c [] more h = absurd h
drawn_front c (e ∷ es) more (inl h) = inl h
drawn_front c (e ∷ es) more (inr h) = inr (drawn_front c es more h)

-- what was drawn stays drawn
pub drawn_since : (v w : PassData) (c : Claim) (further : List Entry) → w.mine ≡ v.mine ++ further → HasDrawn c v.mine
    → HasDrawn c w.mine
drawn_since v w c further later drew = subst (HasDrawn c) (sym later) (drawn_front c v.mine further drew)

-- a legal history's front is one, and what comes after it goes on
pub legal_parts : (p : PlanData) (x : LedgerState) (es ds : List Entry) → IsLegalFrom p x (es ++ ds)
    → IsLegalFrom p x es × IsLegalFrom p (state_after p x es) ds
legal_parts p x [] ds h = (tt, h)
legal_parts p x (e ∷ es) ds h = let t = legal_parts p (after p x e.by e.event e.shards) es ds h.2 in
    ((h.0, h.1, t.0), t.1)
