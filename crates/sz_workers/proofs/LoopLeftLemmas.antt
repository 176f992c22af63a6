-- How many tickets and numbers are left. Each that is given makes them fewer.
use Rattle.std.proofs.Common.{◌≡◌, ◌≢◌, ℕ, ◌-◌, ◌<◌, ◌≤◌, Bool, true, false, cond, nat_lt, List, [], ◌∷◌, ◌++◌, refl, ap, sym, ◌∙◌, subst, arith, Some, None}
use Rattle.std.specs.Prelude.{slice_index}
use Rattle.std.proofs.lemmas.List.{length-replicate}
use Rattle.sz_book_rules.specs.Plan.{PlanData, IsPlan, count_of}
use Rattle.sz_book_rules.specs.declared.claim.Claim.{Claim}
use Rattle.sz_book_rules.specs.declared.event.Event.{Event}
use Rattle.sz_book_rules.specs.declared.event.Event.TheVariants.{Draw, Number}
use Rattle.sz_book_rules.specs.declared.event.Reply.{Reply}
use Rattle.sz_book_rules.specs.declared.event.Reply.TheVariants.{Ticket, Number as Numbered}
use Rattle.sz_book_rules.specs.declared.event.Entry.{Entry}
use Rattle.sz_book_rules.specs.Machine.{LedgerState, opening, after, reply_of, claim_of, draw_reply, number_reply}
use Rattle.sz_book_rules.specs.History.{entry, state_after, IsLegalFrom, StartsWith, HasDrawn, HasNumber}
use Rattle.sz_book_rules.proofs.GrowthLemmas.{drawn_stays, given_stays, has_drawn, has_number, own_drawn, own_number}
use Rattle.sz_claims.specs.Known.{LedgerData, PassData, Calls}
use Rattle.sz_claims.proofs.ForCallers.{has_drawn_now, has_number_now}
use Rattle.sz_workers.specs.Working.{Goes, IsInPlace}
use Rattle.sz_workers.proofs.CallLemmas.{legal_parts, drawn_front}

-- the state of a ledger after a history
abbrev left_in : LedgerData → List Entry → LedgerState
left_in l log = state_after l.plan (opening l.plan l.lanes) log

-- how many tickets are left, after what a pass has seen
abbrev pub tickets_left : PassData → ℕ
tickets_left v = count_of v.ledger.plan - (left_in v.ledger v.seen).drawn

-- how many numbers of shard s are left, after what a pass has seen
abbrev pub numbers_left : PassData → ℕ → ℕ
numbers_left v s = v.ledger.plan.attempts - slice_index (left_in v.ledger v.seen).given s

after_both : (p : PlanData) (x : LedgerState) (es ds : List Entry)
    → state_after p x (es ++ ds) ≡ state_after p (state_after p x es) ds
after_both p x [] ds = refl
after_both p x (e ∷ es) ds = after_both p (after p x e.by e.event e.shards) es ds

-- what was drawn and given before a longer history
more_drawn : (l : LedgerData) (log seen : List Entry) → StartsWith log seen
    → (left_in l seen).drawn ≤ (left_in l log).drawn
more_drawn l log seen h =
    let up = drawn_stays l.plan (left_in l seen) h.0 in
    let same : (left_in l log).drawn ≡ (state_after l.plan (left_in l seen) h.0).drawn =
    ap (λ (es : List Entry). (left_in l es).drawn) h.1
    ∙ ap (λ (x : LedgerState). x.drawn) (after_both l.plan (opening l.plan l.lanes) seen h.0) in
    omega (arith, up, same)

more_given : (l : LedgerData) (s : ℕ) (log seen : List Entry) → StartsWith log seen
    → slice_index (left_in l seen).given s ≤ slice_index (left_in l log).given s
more_given l s log seen h =
    let up = given_stays l.plan (left_in l seen) s h.0 in
    let same : slice_index (left_in l log).given s ≡ slice_index (state_after l.plan (left_in l seen) h.0).given s =
    ap (λ (es : List Entry). slice_index (left_in l es).given s) h.1
    ∙ ap (λ (x : LedgerState). slice_index x.given s) (after_both l.plan (opening l.plan l.lanes) seen h.0) in
    omega (arith, up, same)

-- the calls in front of a call are legal, and its answer is the reply of the state that they leave
found_before : (v w : PassData) (e : Event) (r : Reply) → (h : Calls v e r w)
    → IsLegalFrom v.ledger.plan (opening v.ledger.plan v.ledger.lanes) h.0
    × (r ≡ reply_of v.ledger.plan (left_in v.ledger h.0) e)
found_before v w e r h =
    let p : PlanData = v.ledger.plan in
    let start : LedgerState = opening p v.ledger.lanes in
    let seen : w.seen ≡ h.0 ++ entry v.number e [] r ∷ [] = ap (λ (u : PassData). u.seen) h.1 in
    let parts = legal_parts p start h.0 (entry v.number e [] r ∷ []) (subst (IsLegalFrom p start) seen h.3.from) in
    (parts.0, parts.1.1)

-- the ticket that is given is the number of those that were drawn
ticket_is : (p : PlanData) (n : ℕ) (c : Claim) → Ticket (Some c) ≡ draw_reply p n → c.ticket ≡ n
ticket_is p n c e = by (nat_lt n (count_of p)) refl
  where
    by : (b : Bool) → nat_lt n (count_of p) ≡ b → c.ticket ≡ n
    by true is =
        let r : Ticket (Some c) ≡ Ticket (Some (claim_of p n)) =
        e ∙ ap (λ (b : Bool). cond b (Ticket (Some (claim_of p n))) (Ticket None)) is in
        let same : c ≡ claim_of p n = cc r in ap (λ (y : Claim). y.ticket) same
    by false is =
        let r : Ticket (Some c) ≡ Ticket None =
        e ∙ ap (λ (b : Bool). cond b (Ticket (Some (claim_of p n))) (Ticket None)) is in absurd (cc r)

-- and the number that is given is that of those that were given
number_is : (p : PlanData) (n k : ℕ) → Numbered (Some k) ≡ number_reply p n → k ≡ n
number_is p n k e = by (nat_lt n p.attempts) refl
  where
    by : (b : Bool) → nat_lt n p.attempts ≡ b → k ≡ n
    by true is = let r : Numbered (Some k) ≡ Numbered (Some n) =
        e ∙ ap (λ (b : Bool). cond b (Numbered (Some n)) (Numbered None)) is in cc r
    by false is = let r : Numbered (Some k) ≡ Numbered None =
        e ∙ ap (λ (b : Bool). cond b (Numbered (Some n)) (Numbered None)) is in absurd (cc r)

-- a ticket that was just drawn was not drawn by the pass before
pub not_drawn : (v w : PassData) (c : Claim) → Calls v Draw (Ticket (Some c)) w → IsInPlace v → (d : Claim)
    → HasDrawn d v.mine → d.ticket ≢ c.ticket
not_drawn v w c h place d drew same =
    let p : PlanData = v.ledger.plan in
    let before = found_before v w Draw (Ticket (Some c)) h in
    let seen : HasDrawn d v.seen = own_drawn v.number v.seen d (subst (HasDrawn d) (sym place.own) drew) in
    let all : HasDrawn d h.0 = subst (HasDrawn d) (sym h.2.1) (drawn_front d v.seen h.2.0 seen) in
    let low = (has_drawn p (opening p v.ledger.lanes) h.0 d before.0 all).drawn in
    let is = ticket_is p (left_in v.ledger h.0).drawn c before.1 in
    absurd (omega (arith, low, is, same))

-- a ticket that was drawn is one of the plan's
pub drawn_low : (v w : PassData) (c : Claim) → Calls v Draw (Ticket (Some c)) w → c.ticket < count_of v.ledger.plan
drawn_low v w c h =
    (has_drawn v.ledger.plan (opening v.ledger.plan v.ledger.lanes) w.seen c h.3.from
    (own_drawn v.number w.seen c (subst (HasDrawn c) (sym h.4) (has_drawn_now v w c h)))).ticket

pub fewer_tickets : (u v w : PassData) (c : Claim) → Calls u Draw (Ticket (Some c)) v → Goes v w
    → tickets_left w < tickets_left u
fewer_tickets u v w c h g =
    let p : PlanData = u.ledger.plan in
    let ledger : w.ledger ≡ u.ledger = g.ledger ∙ ap (λ (x : PassData). x.ledger) h.1 in
    let before = found_before u v Draw (Ticket (Some c)) h in
    let is = ticket_is p (left_in u.ledger h.0).drawn c before.1 in
    let drawn = has_drawn p (opening p u.ledger.lanes) v.seen c h.3.from
    (own_drawn u.number v.seen c (subst (HasDrawn c) (sym h.4) (has_drawn_now u v c h))) in
    let first = more_drawn u.ledger h.0 u.seen h.2 in
    let last = more_drawn u.ledger w.seen v.seen g.seen in
    let same : tickets_left w ≡ count_of p - (left_in u.ledger w.seen).drawn =
    ap (λ (l : LedgerData). count_of l.plan - (left_in l w.seen).drawn) ledger in
    omega (arith, is, drawn.drawn, drawn.ticket, first, last, same)

pub fewer_numbers : (u v w : PassData) (c : Claim) (k : ℕ) → IsPlan u.ledger.plan
    → Calls u (Number c) (Numbered (Some k)) v → Goes v w → numbers_left w c.shard < numbers_left u c.shard
fewer_numbers u v w c k plan h g =
    let p : PlanData = u.ledger.plan in
    let ledger : w.ledger ≡ u.ledger = g.ledger ∙ ap (λ (x : PassData). x.ledger) h.1 in
    let before = found_before u v (Number c) (Numbered (Some k)) h in
    let is = number_is p (slice_index (left_in u.ledger h.0).given c.shard) k before.1 in
    let given = has_number p (opening p u.ledger.lanes) v.seen c k plan (length-replicate p.shards 0) h.3.from
    (own_number u.number v.seen c k (subst (HasNumber c k) (sym h.4) (has_number_now u v c k h))) in
    let first = more_given u.ledger c.shard h.0 u.seen h.2 in
    let last = more_given u.ledger c.shard w.seen v.seen g.seen in
    let same : numbers_left w c.shard ≡ p.attempts - slice_index (left_in u.ledger w.seen).given c.shard =
    ap (λ (l : LedgerData). l.plan.attempts - slice_index (left_in l w.seen).given c.shard) ledger in
    omega (arith, is, given.0, given.1, first, last, same)
