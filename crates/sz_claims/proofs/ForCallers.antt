-- What a caller has after a call.
use Rattle.std.proofs.Common.{◌≡◌, ◌≢◌, ℕ, zero, suc, ◌+◌, ◌-◌, ◌≤◌, ◌==◌, Bool, true, false, cond, List, [], ◌∷◌, ◌++◌, drop, length, Some, refl, ap, sym, ◌∙◌, subst, inl, inr, ⊎_elim}
use Rattle.std.proofs.Common.{eq-eqb, ne_eqb, le_refl, arith}
use Rattle.std.specs.Prelude.{slice_index, slice_index_or}
use Rattle.std.specs.List.{sum_by, fold}
use Rattle.std.proofs.Math.Seq.{drop-append_seam}
use mathlib.Core.Logic.{dite}
use native.Mathlib.Decide.{ℕ_discrete}
use Rattle.sz_book_rules.specs.Plan.{PlanData, IsPlan}
use Rattle.sz_book.specs.Lanes.{LaneData}
use Rattle.sz_book_rules.specs.Counting.{times, once}
use Rattle.sz_book_rules.specs.declared.claim.Claim.{Claim}
use Rattle.sz_book_rules.specs.declared.event.Event.{Event}
use Rattle.sz_book_rules.specs.declared.event.Event.TheVariants.{Draw, Number, Settle, LaneOut}
use Rattle.sz_book_rules.specs.declared.event.Reply.{Reply}
use Rattle.sz_book_rules.specs.declared.event.Reply.TheVariants.{Ticket, Number as Numbered, Won, Late, Lane}
use Rattle.sz_book_rules.specs.declared.event.Entry.{Entry}
use Rattle.sz_book_rules.specs.History.{entry, state_after, IsLegalFrom, calls_by, HasDrawn, HasNumber, HasWon, HasGiven, IsAmong}
use Rattle.sz_book_rules.specs.Machine.{LedgerState, opening, after, reply_of, list_of}
use Rattle.sz_claims.specs.Known.{LedgerData, PassData, ends_in, Calls, CallsWith, IsLent, AreInHand, further_in, MayGive}
use Rattle.sz_claims.proofs.UnplacedLemmas.{given_is_settled, are_unplaced}
use Rattle.sz_book_rules.proofs.CountLemmas.{each_shard_counts_once}

drawn_last : (c : Claim) (es : List Entry) (n : ℕ) → HasDrawn c (es ++ entry n Draw [] (Ticket (Some c)) ∷ [])
drawn_last c [] n = inl (refl, refl)
drawn_last c (e ∷ es) n = inr (drawn_last c es n)

drawn_more : (c : Claim) (es : List Entry) (e : Entry) → HasDrawn c es → HasDrawn c (es ++ e ∷ [])
drawn_more c [] e h = absurd h
drawn_more c (d ∷ es) e (inl h) = inl h
drawn_more c (d ∷ es) e (inr h) = inr (drawn_more c es e h)

number_last : (c : Claim) (k : ℕ) (es : List Entry) (n : ℕ) → HasNumber c k (es ++ entry n (Number c) [] (Numbered (Some k)) ∷ [])
number_last c k [] n = inl (refl, refl)
number_last c k (e ∷ es) n = inr (number_last c k es n)

pub has_drawn_now : (v w : PassData) (c : Claim) → Calls v Draw (Ticket (Some c)) w → HasDrawn c w.mine
has_drawn_now v w c h = subst (λ (u : PassData). HasDrawn c u.mine) (sym h.1) (drawn_last c v.mine v.number)

pub has_drawn_with : (v w : PassData) (c : Claim) (e : Event) (ss : List ℕ) (r : Reply) (lane : ℕ) (lent : List ℕ) → CallsWith v e ss r lane lent w
    → HasDrawn c v.mine → HasDrawn c w.mine
has_drawn_with v w c e ss r lane lent h d = subst (λ (u : PassData). HasDrawn c u.mine) (sym h.1) (drawn_more c v.mine (entry v.number e ss r) d)

pub has_drawn_still : (v w : PassData) (c : Claim) (e : Event) (r : Reply) → Calls v e r w → HasDrawn c v.mine → HasDrawn c w.mine
has_drawn_still v w c e r h d = has_drawn_with v w c e [] r v.lane v.lent h d

pub has_number_now : (v w : PassData) (c : Claim) (k : ℕ) → Calls v (Number c) (Numbered (Some k)) w → HasNumber c k w.mine
has_number_now v w c k h = subst (λ (u : PassData). HasNumber c k u.mine) (sym h.1) (number_last c k v.mine v.number)

won_last : (c : Claim) (k : ℕ) (es : List Entry) (n : ℕ) → HasWon c.shard (es ++ entry n (Settle c k) [] Won ∷ [])
won_last c k [] n = inl (refl, refl)
won_last c k (e ∷ es) n = inr (won_last c k es n)

won_more : (s : ℕ) (es : List Entry) (e : Entry) → HasWon s es → HasWon s (es ++ e ∷ [])
won_more s [] e h = absurd h
won_more s (d ∷ es) e (inl h) = inl h
won_more s (d ∷ es) e (inr h) = inr (won_more s es e h)

-- a call with which no shard comes gives none
given_before : (s : ℕ) (es : List Entry) (e : Entry) → e.shards ≡ [] → HasGiven s (es ++ e ∷ []) → HasGiven s es
given_before s [] e none (inl h) = absurd (subst (IsAmong s) none h)
given_before s [] e none (inr h) = absurd h
given_before s (d ∷ es) e none (inl h) = inl h
given_before s (d ∷ es) e none (inr h) = inr (given_before s es e none h)

kept_given : (b : Bool) (s : ℕ) (e : Entry) (es : List Entry) → HasGiven s (cond b (e ∷ es) es) → HasGiven s (e ∷ es)
kept_given true s e es h = h
kept_given false s e es h = inr h

pub own_given : (n s : ℕ) (es : List Entry) → HasGiven s (calls_by n es) → HasGiven s es
own_given n s [] h = h
own_given n s (e ∷ es) h =
    ⊎_elim inl (λ (t : HasGiven s (calls_by n es)). inr (own_given n s es t)) (kept_given (e.by == n) s e (calls_by n es) h)

last_answer : (p : PlanData) (x : LedgerState) (es : List Entry) (e : Entry) → IsLegalFrom p x (es ++ e ∷ [])
    → IsLegalFrom p x es × (e.reply ≡ reply_of p (state_after p x es) e.event)
last_answer p x [] e h = (tt, h.1)
last_answer p x (d ∷ es) e h = let t = last_answer p (after p x d.by d.event d.shards) es e h.2 in ((h.0, h.1, t.0), t.1)

-- the shard that a pass just won may come with its lane
pub in_hand_now : (v w : PassData) (c : Claim) (k : ℕ) → Calls v (Settle c k) Won w → AreInHand (c.shard ∷ []) w.mine
in_hand_now v w c k h =
    let p : PlanData = v.ledger.plan in
    let start : LedgerState = opening p v.ledger.lanes in
    let e : Entry = entry v.number (Settle c k) [] Won in
    let mine : w.mine ≡ v.mine ++ e ∷ [] = ap (λ (u : PassData). u.mine) h.1 in
    let seen : w.seen ≡ h.0 ++ e ∷ [] = ap (λ (u : PassData). u.seen) h.1 in
    let last = last_answer p start h.0 e (subst (IsLegalFrom p start) seen h.3.from) in
    let open' : slice_index (state_after p start h.0).winners c.shard ≡ 0 =
    let n : ℕ = slice_index (state_after p start h.0).winners c.shard in
    dite (ℕ_discrete n 0) (λ (z : n ≡ 0). z)
    (λ (ne : n ≢ 0). let wrong : Won ≡ Late (n - 1) = last.1 ∙ ap (λ (b : Bool). cond b Won (Late (n - 1))) (ne_eqb n 0 ne) in absurd (cc wrong)) in
    let fresh : ¬ HasGiven c.shard w.mine = λ given.
    let all : HasGiven c.shard w.seen = own_given v.number c.shard w.seen (subst (HasGiven c.shard) (sym h.4) given) in
    let before : HasGiven c.shard h.0 = given_before c.shard h.0 e refl (subst (HasGiven c.shard) seen all) in
    let some = given_is_settled p v.ledger.lanes c.shard h.0 (record { from = last.0 }) before in absurd (omega arith) in record {
      distinct = ((λ in'. in'), tt);
      won = λ s in'. ⊎_elim
          (λ (is : c.shard ≡ s). subst (λ (t : ℕ). HasWon t w.mine) is (subst (HasWon c.shard) (sym mine) (won_last c k v.mine v.number)))
          (λ (no : ⊥). absurd no) in';
      fresh = λ s in'. ⊎_elim
          (λ (is : c.shard ≡ s). subst (λ (t : ℕ). ¬ HasGiven t w.mine) is fresh)
          (λ (no : ⊥). absurd no) in';
    }

-- and it may after a call with which no shard comes
pub in_hand_still : (v w : PassData) (shards : List ℕ) (e : Event) (r : Reply) (lane : ℕ) (lent : List ℕ) → CallsWith v e [] r lane lent w
    → AreInHand shards v.mine → AreInHand shards w.mine
in_hand_still v w shards e r lane lent h hand =
    let d : Entry = entry v.number e [] r in
    let mine : w.mine ≡ v.mine ++ d ∷ [] = ap (λ (u : PassData). u.mine) h.1 in record {
      distinct = hand.distinct;
      won = λ s in'. subst (HasWon s) (sym mine) (won_more s v.mine d (hand.won s in'));
      fresh = λ s in' given. hand.fresh s in' (given_before s v.mine d refl (subst (HasGiven s) mine given));
    }

pub fewer_times : (s t : ℕ) (ts : List ℕ) → times s ts ≤ times s (t ∷ ts)
fewer_times s t ts = dite (ℕ_discrete t s)
    (λ (e : t ≡ s). let one = ap (λ (b : Bool). cond b (times s ts + 1) (times s ts)) (eq-eqb t s e) in omega arith)
    (λ (ne : t ≢ s). let same = ap (λ (b : Bool). cond b (times s ts + 1) (times s ts)) (ne_eqb t s ne) in omega arith)

no_times : (s : ℕ) (ss : List ℕ) → times s ss ≡ 0 → ¬ IsAmong s ss
no_times s [] e in' = in'
no_times s (t ∷ ts) e (inl is) =
    let one : times s (t ∷ ts) ≡ times s ts + 1 = ap (λ (b : Bool). cond b (times s ts + 1) (times s ts)) (eq-eqb t s is) in absurd (omega arith)
no_times s (t ∷ ts) e (inr in') = no_times s ts (let fewer = fewer_times s t ts in omega arith) in'

sum_up : (s a : ℕ) (lists : List (List ℕ)) → a ≤ fold (λ n l. n + times s l) a lists
sum_up s a [] = le_refl a
sum_up s a (l ∷ ls) = let up = sum_up s (a + times s l) ls in omega arith

no_times_in : (s i a : ℕ) (lists : List (List ℕ)) → fold (λ n l. n + times s l) a lists ≡ 0 → times s (slice_index_or lists i []) ≡ 0
no_times_in s i a [] e = refl
no_times_in s zero a (l ∷ ls) e = let up = sum_up s (a + times s l) ls in omega arith
no_times_in s (suc i) a (l ∷ ls) e = no_times_in s i (a + times s l) ls e

once_low : (n : ℕ) → once n ≤ 1
once_low n = dite (ℕ_discrete n 0)
    (λ (e : n ≡ 0). let is : once n ≡ 0 = ap (λ (b : Bool). cond b 0 1) (eq-eqb n 0 e) in let goal : once n ≤ 1 = omega arith in goal)
    (λ (ne : n ≢ 0). let is : once n ≡ 1 = ap (λ (b : Bool). cond b 0 1) (ne_eqb n 0 ne) in let goal : once n ≤ 1 = omega arith in goal)

-- a shard that a pass won and brought with no lane yet stands in no lane that it is lent
pub fits_lane : (v w : PassData) (i s : ℕ) (lane : LaneData) → IsPlan v.ledger.plan → IsLent v i lane w → AreInHand (s ∷ []) v.mine
    → ¬ IsAmong s lane.shards
fits_lane v w i s lane plan h hand in' =
    let p : PlanData = v.ledger.plan in
    let x : LedgerState = ends_in v w.seen in
    let still = in_hand_still v w (s ∷ []) (LaneOut i) (Lane true) (i + 1) lane.shards h.0 hand in
    let same : w.ledger ≡ v.ledger = ap (λ (u : PassData). u.ledger) h.0.1 in
    let list : lane.shards ≡ list_of x i =
    h.2 ∙ ap (λ (l : LedgerData). list_of (state_after l.plan (opening l.plan l.lanes) w.seen) i) same in
    let mark = are_unplaced p v.ledger.lanes v.number w.seen w.mine (s ∷ []) plan h.0.3 h.0.4 still.distinct still.won still.fresh in
    let counts = each_shard_counts_once p v.ledger.lanes w.seen plan h.0.3 in
    let marked : once (slice_index x.unplaced s) ≡ 1 =
    ap once mark.0 ∙ ap (λ (b : Bool). cond b 0 1) (ne_eqb (v.number + 1) 0 (omega arith)) in
    let most = once_low (slice_index x.winners s) in
    let all = counts.anywhere s in
    let none : sum_by (times s) x.lists ≡ 0 = omega arith in
    no_times s (list_of x i) (no_times_in s i 0 x.lists none) (subst (IsAmong s) list in')

-- a pass that was lent a lane holds it
pub has_lane : (v w : PassData) (i : ℕ) (lane : LaneData) → IsLent v i lane w
    → (w.ledger ≡ v.ledger) × (w.lane ≡ i + 1) × (w.lent ≡ lane.shards) × (w.ledger.plan ≡ lane.plan)
has_lane v w i lane h = (
  ap (λ (u : PassData). u.ledger) h.0.1,
  ap (λ (u : PassData). u.lane) h.0.1,
  ap (λ (u : PassData). u.lent) h.0.1,
  ap (λ (u : PassData). u.ledger.plan) h.0.1 ∙ sym h.1,
)

-- a lane that is longer by shards that the pass won and has not brought may be given back
pub may_give : (w : PassData) (i : ℕ) (lane longer : LaneData) (shards : List ℕ) → w.lane ≡ i + 1 → w.lent ≡ lane.shards → w.ledger.plan ≡ lane.plan
    → longer.plan ≡ lane.plan → longer.shards ≡ lane.shards ++ shards → AreInHand shards w.mine → MayGive w i longer
may_give w i lane longer shards has lent of same more hand =
    let all : longer.shards ≡ w.lent ++ shards = more ∙ ap (λ (l : List ℕ). l ++ shards) (sym lent) in
    let later : further_in w longer ≡ shards = ap (drop (length w.lent)) all ∙ drop-append_seam w.lent shards in record {
      has_lane = has;
      plan = same ∙ sym of;
      longer = all ∙ ap (λ (l : List ℕ). w.lent ++ l) (sym later);
      further = subst (λ (l : List ℕ). AreInHand l w.mine) (sym later) hand;
    }

-- no shard is always in hand
pub none_in_hand : (mine : List Entry) → AreInHand [] mine
none_in_hand mine = record { distinct = tt; won = λ s in'. absurd in'; fresh = λ s in'. absurd in' }
