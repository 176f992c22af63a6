-- One word changes: what it then shows, and what a pass knows of it.
use Rattle.std.proofs.Common.{◌≡◌, ◌≢◌, ◌⊎◌, ℕ, ◌+◌, ◌*◌, ◌<◌, ◌≤◌, min, Bool, true, false, cond, List, [], ◌∷◌, ◌++◌, set, length, refl, ap}
use Rattle.std.proofs.Common.{sym, ◌∙◌, subst, inl, inr, ⊎_elim, arith, Some, None, lt-ltb, le-ltb}
use Rattle.std.specs.Prelude.{slice_index}
use Rattle.std.proofs.lemmas.List.{get_or-set_same, get_or-set_other, length-replicate}
use mathlib.Core.Option.{Option as Maybe}
use mathlib.Core.Logic.{dite}
use native.Mathlib.Decide.{dec_le}
use Rattle.sz_book_rules.specs.Plan.{PlanData}
use Rattle.sz_book_rules.specs.declared.claim.Claim.{Claim}
use Rattle.sz_book_rules.specs.declared.event.Reply.TheVariants.{Ticket, Number as Numbered}
use Rattle.sz_book_rules.specs.declared.event.Entry.{Entry}
use Rattle.sz_claims.specs.declared.view.Account.{Account}
use Rattle.sz_claims.specs.declared.view.View.{View}
use Rattle.sz_book_rules.specs.Plan.{IsPlan, count_of}
use Rattle.sz_book_rules.specs.Machine.{LedgerState, opening, IsDrawn, claim_of, draw_reply, number_reply}
use Rattle.sz_book_rules.specs.History.{state_after, IsLegal, calls_by, HasDrawn, HasNumber}
use Rattle.sz_claims.specs.Rule.{Slot, ShowsLanes, turn_at, IsBounded, IsTrueOf, number_at}
use Rattle.sz_book_rules.proofs.GrowthLemmas.{has_drawn, has_number, own_drawn, own_number}
use Rattle.sz_claims.proofs.SumLemmas.{bars, dries_grow, bars_grow}

-- n is below m or not
pub below : (n m : ℕ) → (n < m) ⊎ (m ≤ n)
below n m = dite (dec_le m n) (λ (h : m ≤ n). inr h) (λ (h : ¬ (m ≤ n)). inl (omega arith))

pub by_test : {P : Type 0} (b : Bool) → (b ≡ true → P) → (b ≡ false → P) → P
by_test true f g = f refl
by_test false f g = g refl

-- ---- the replies, by cases

pub ticket_some : (p : PlanData) (n : ℕ) → n < count_of p → draw_reply p n ≡ Ticket (Some (claim_of p n))
ticket_some p n h = ap (λ (b : Bool). cond b (Ticket (Some (claim_of p n))) (Ticket None)) (lt-ltb n (count_of p) h)

pub ticket_none : (p : PlanData) (n : ℕ) → count_of p ≤ n → draw_reply p n ≡ Ticket None
ticket_none p n h = ap (λ (b : Bool). cond b (Ticket (Some (claim_of p n))) (Ticket None)) (le-ltb n (count_of p) h)

-- the ticket word and the number of tickets drawn give one reply
pub one_ticket : (p : PlanData) (n drawn : ℕ) → drawn ≡ min n (count_of p) → draw_reply p n ≡ draw_reply p drawn
one_ticket p n drawn e = ⊎_elim
    (λ (low : n < count_of p). let same : n ≡ drawn = omega arith in ap (draw_reply p) same)
    (λ (high : count_of p ≤ n). ticket_none p n high ∙ sym (ticket_none p drawn (omega arith)))
    (below n (count_of p))

pub number_some : (p : PlanData) (n : ℕ) → n < p.attempts → number_reply p n ≡ Numbered (Some n)
number_some p n h = ap (λ (b : Bool). cond b (Numbered (Some n)) (Numbered None)) (lt-ltb n p.attempts h)

pub number_none : (p : PlanData) (n : ℕ) → p.attempts ≤ n → number_reply p n ≡ Numbered None
number_none p n h = ap (λ (b : Bool). cond b (Numbered (Some n)) (Numbered None)) (le-ltb n p.attempts h)

pub one_number : (p : PlanData) (n given : ℕ) → given ≡ min n p.attempts → number_reply p n ≡ number_reply p given
one_number p n given e = ⊎_elim
    (λ (low : n < p.attempts). let same : n ≡ given = omega arith in ap (number_reply p) same)
    (λ (high : p.attempts ≤ n). number_none p n high ∙ sym (number_none p given (omega arith)))
    (below n p.attempts)

-- ---- a word changes

pub set_same : (words : List ℕ) (i n : ℕ) → i < length words → slice_index (set words i n) i ≡ n
set_same words i n h = get_or-set_same words i n 0 h

pub set_other : (words : List ℕ) (i j n : ℕ) → j ≢ i → slice_index (set words i n) j ≡ slice_index words j
set_other words i j n h = get_or-set_other words i j n 0 h

-- a word below those of the lanes changes
pub slots_set : (p : PlanData) (lanes : ℕ) (words : List ℕ) (homes : List (Maybe Slot)) (outs : List ℕ) (lists : List (List ℕ)) (i n : ℕ)
    → i < 3 * p.shards + 2
    → ShowsLanes p lanes words homes outs lists → ShowsLanes p lanes (set words i n) homes outs lists
slots_set p lanes words homes outs lists i n low h =
    record { counts = h.counts; turns = λ j within. set_other words i (turn_at p j) n (omega arith) ∙ h.turns j within; home = h.home; out = h.out }

-- the number words keep their bound at a step on another word
pub bound_numbers : (p : PlanData) (words : List ℕ) (log : List Entry) (made i n : ℕ) (e : Entry) → IsBounded p words log made
    → ((s : ℕ) → s < p.shards → number_at s ≢ i)
    → (s : ℕ) → s < p.shards → slice_index (set words i n) (number_at s) ≤ p.attempts + bars (count_of p) (log ++ e ∷ []) made
bound_numbers p words log made i n e b away s low =
    let same = set_other words i (number_at s) n (away s low) in
    let up = bars_grow (count_of p) log e made in
    let old = b.numbers s low in
    omega arith

-- a claim that was drawn has a shard of the plan
pub claimed : (p : PlanData) (x : LedgerState) (c : Claim) → IsPlan p → IsDrawn p x c → c.shard < p.shards
claimed p x c plan d = let a = plan.within c.ticket d.ticket in let b = d.shard in omega arith

-- a claim that this pass drew
pub drew : (p : PlanData) (lanes : ℕ) (v : View) (c : Claim) (log : List Entry) (made : ℕ) (joined : List Account) → HasDrawn c v.mine
    → IsLegal p lanes log → IsTrueOf p lanes log (state_after p (opening p lanes) log) made joined v
    → IsDrawn p (state_after p (opening p lanes) log) c
drew p lanes v c log made joined h legal t =
    let own : HasDrawn c (calls_by v.number log) = subst (λ (l : List Entry). HasDrawn c l) (sym t.mine) h in
    has_drawn p (opening p lanes) log c legal.from (own_drawn v.number log c own)

-- a number that this pass was given
pub tried : (p : PlanData) (lanes : ℕ) (v : View) (c : Claim) (k : ℕ) (log : List Entry) (made : ℕ) (joined : List Account) → HasNumber c k v.mine
    → IsPlan p → IsLegal p lanes log → IsTrueOf p lanes log (state_after p (opening p lanes) log) made joined v
    → (k < p.attempts) × (k < slice_index (state_after p (opening p lanes) log).given c.shard)
tried p lanes v c k log made joined h plan legal t =
    let own : HasNumber c k (calls_by v.number log) = subst (λ (l : List Entry). HasNumber c k l) (sym t.mine) h in
    has_number p (opening p lanes) log c k plan (length-replicate p.shards 0) legal.from (own_number v.number log c k own)

-- a step on a word of deaths, settling or a lane keeps the bounds
pub bound_other : (p : PlanData) (words : List ℕ) (log : List Entry) (made i n : ℕ) (e : Entry) → IsBounded p words log made → 0 ≢ i
    → ((s : ℕ) → s < p.shards → number_at s ≢ i) → IsBounded p (set words i n) (log ++ e ∷ []) made
bound_other p words log made i n e b first away = record {
  tickets = let same = set_other words i 0 n first in let up = dries_grow log e made in let old = b.tickets in omega arith;
  numbers = bound_numbers p words log made i n e b away;
}
