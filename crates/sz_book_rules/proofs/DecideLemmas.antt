-- Once each ticket has ended, each shard below the least bad one is settled or lost.
use Rattle.std.proofs.Common.{◌≡◌, ◌≢◌, ℕ, zero, suc, ◌+◌, ◌-◌, ◌^◌, ◌<◌, ◌≤◌, ◌==◌, Bool, true, false, cond, nat_lt, List, [], ◌∷◌, set, length, replicate, min, refl, ap, sym, ◌∙◌, subst, le_refl, arith, Some, None, ltb-true, length-set, bit_or, inl, inr, ⊎_elim}
use Rattle.std.specs.Prelude.{slice_index}
use Rattle.std.specs.Int.{bit_at}
use Rattle.std.proofs.lemmas.Bool.{eqb-true, eqb-false, ltb-false}
use Rattle.std.proofs.lemmas.List.{get_or-set_same, get_or-set_other, length-replicate}
use Rattle.std.proofs.lemmas.Nat.Bits.{bit_at_or, bit_at-pow_same, bit_at-lt}
use Rattle.sz_book_rules.specs.Plan.{PlanData, IsPlan, count_of, tickets_of}
use Rattle.sz_book_rules.specs.declared.claim.Claim.{Claim}
use Rattle.sz_book_rules.specs.declared.event.Event.{Event}
use Rattle.sz_book_rules.specs.declared.event.Event.TheVariants.{Draw, Number, Died, Settle, LaneOut, LaneBack, Bad}
use Rattle.sz_book_rules.specs.declared.event.Reply.{Reply}
use Rattle.sz_book_rules.specs.declared.event.Reply.TheVariants.{Ticket, Number as Numbered, Won, Late}
use Rattle.sz_book_rules.specs.declared.event.Entry.{Entry}
use Rattle.sz_book_rules.specs.Machine.{LedgerState, opening, after, reply_of, claim_of, Fits, IsDrawn}
use Rattle.sz_book_rules.specs.History.{state_after, IsLegalFrom}
use Rattle.sz_book_rules.specs.Orderly.{Phase, undrawn, asks, tries, ended, phase_of, Goes, GivesUp, Turns, TurnsAll, Marks, HasBad}
use Rattle.sz_book_rules.specs.Counting.{left_by, EachShardIsDecided}
use Rattle.sz_book_rules.proofs.CountLemmas.{no_number}
use Rattle.sz_book_rules.proofs.StepLemmas.{HasRows, rows_open, rows_kept, either, shard_within, set_here, set_there}

-- a ticket of shard s has number k, and reported nothing of it yet
record Tries (p : PlanData) (phases : List Phase) (s k : ℕ) : Type 0 where
  ticket : ℕ
  within : ticket < count_of p
  shard : slice_index p.tickets ticket ≡ s
  phase : phase_of phases ticket ≡ tries k

-- what became of number k of shard s
data Fate (p : PlanData) (x : LedgerState) (phases : List Phase) (s k : ℕ) : Type 0 where
  noted : bit_at (slice_index x.deaths s) k ≡ 1 → Fate p x phases s k
  tried : Tries p phases s k → Fate p x phases s k
  settled : 0 < slice_index x.winners s → Fate p x phases s k
  marked : x.least_bad ≤ s → Fate p x phases s k

-- why a ticket of shard s asks no more
data Cause (p : PlanData) (x : LedgerState) (s : ℕ) : Type 0 where
  by_settling : 0 < slice_index x.winners s → Cause p x s
  by_asking : p.attempts ≤ slice_index x.given s → Cause p x s
  by_marking : x.least_bad ≤ s → Cause p x s

-- each number given has a fate, and each ticket that asks no more a cause
record Accounts (p : PlanData) (x : LedgerState) (phases : List Phase) : Type 0 where
  tickets : length phases ≡ count_of p
  fates : (s k : ℕ) → k < slice_index x.given s → Fate p x phases s k
  causes : (t : ℕ) → t < count_of p → phase_of phases t ≡ ended → Cause p x (slice_index p.tickets t)

-- nothing that was reported is taken back
record Grows (x y : LedgerState) : Type 0 where
  deaths : (s k : ℕ) → bit_at (slice_index x.deaths s) k ≡ 1 → bit_at (slice_index y.deaths s) k ≡ 1
  winners : (s : ℕ) → 0 < slice_index x.winners s → 0 < slice_index y.winners s
  least : y.least_bad ≤ x.least_bad
  given : (s : ℕ) → slice_index x.given s ≤ slice_index y.given s

later_fate : (p : PlanData) (x y : LedgerState) (old new : List Phase) (s k : ℕ) → Grows x y → (Tries p old s k → Fate p y new s k) → Fate p x old s k → Fate p y new s k
later_fate p x y old new s k g still (noted h) = noted (g.deaths s k h)
later_fate p x y old new s k g still (tried h) = still h
later_fate p x y old new s k g still (settled h) = settled (g.winners s h)
later_fate p x y old new s k g still (marked h) = marked (let l = g.least in omega (arith, l, h))

later_cause : (p : PlanData) (x y : LedgerState) (s : ℕ) → Grows x y → Cause p x s → Cause p y s
later_cause p x y s g (by_settling h) = by_settling (g.winners s h)
later_cause p x y s g (by_asking h) = by_asking (let l = g.given s in omega (arith, l, h))
later_cause p x y s g (by_marking h) = by_marking (let l = g.least in omega (arith, l, h))

grows_not : (x : LedgerState) → Grows x x
grows_not x = record { deaths = λ s k h. h; winners = λ s h. h; least = le_refl x.least_bad; given = λ s. le_refl (slice_index x.given s) }

-- the other tickets keep their phases, and this one has its new one
phase_here : (phases : List Phase) (t : ℕ) (q : Phase) → t < length phases → phase_of (set phases t q) t ≡ q
phase_here phases t q low = get_or-set_same phases t q undrawn low

phase_there : (phases : List Phase) (t u : ℕ) (q : Phase) → u ≢ t → phase_of (set phases t q) u ≡ phase_of phases u
phase_there phases t u q other = get_or-set_other phases t u q undrawn other

abbrev is_trying : Phase → ℕ
is_trying (tries k) = suc k
is_trying undrawn = 0
is_trying asks = 0
is_trying ended = 0

abbrev is_ended : Phase → ℕ
is_ended ended = 1
is_ended undrawn = 0
is_ended asks = 0
is_ended (tries k) = 0

-- a number that another ticket has is still with it
still_tried : (p : PlanData) (old : List Phase) (t : ℕ) (q : Phase) (s k : ℕ) → (h : Tries p old s k) → h.ticket ≢ t → Tries p (set old t q) s k
still_tried p old t q s k h other = record { ticket = h.ticket; within = h.within; shard = h.shard; phase = phase_there old t h.ticket q other ∙ h.phase }

-- ticket t went on from a phase in which it had no number, or has a number of which something was reported
record Step (p : PlanData) (x y : LedgerState) (old : List Phase) (t : ℕ) (from to : Phase) : Type 0 where
  grows : Grows x y
  within : t < count_of p
  was : phase_of old t ≡ from
  reported : (k : ℕ) → from ≡ tries k → Fate p y (set old t to) (slice_index p.tickets t) k
  new_number : (s k : ℕ) → slice_index x.given s ≤ k → k < slice_index y.given s → Fate p y (set old t to) s k
  cause : to ≡ ended → Cause p y (slice_index p.tickets t)

goes : (p : PlanData) (x y : LedgerState) (old : List Phase) (t : ℕ) (from to : Phase) → Step p x y old t from to → Accounts p x old → Accounts p y (set old t to)
goes p x y old t from to step a = record { tickets = length-set old t to ∙ a.tickets; fates = fate; causes = cause } where
  known : (s k : ℕ) → Tries p old s k → Fate p y (set old t to) s k
  known s k h = by_ticket (h.ticket == t) refl where
    by_ticket : (b : Bool) → (h.ticket == t) ≡ b → Fate p y (set old t to) s k
    by_ticket true is =
        let same : h.ticket ≡ t = eqb-true h.ticket t is in
        let shard : slice_index p.tickets t ≡ s = ap (slice_index p.tickets) (sym same) ∙ h.shard in
        let phase : from ≡ tries k = sym step.was ∙ ap (phase_of old) (sym same) ∙ h.phase in
        subst (λ (i : ℕ). Fate p y (set old t to) i k) shard (step.reported k phase)
    by_ticket false is = tried (still_tried p old t to s k h (eqb-false h.ticket t is))

  fate : (s k : ℕ) → k < slice_index y.given s → Fate p y (set old t to) s k
  fate s k low = by_age (nat_lt k (slice_index x.given s)) refl where
    by_age : (b : Bool) → nat_lt k (slice_index x.given s) ≡ b → Fate p y (set old t to) s k
    by_age true is = later_fate p x y old (set old t to) s k step.grows (known s k) (a.fates s k (ltb-true k (slice_index x.given s) is))
    by_age false is = step.new_number s k (ltb-false k (slice_index x.given s) is) low

  cause : (u : ℕ) → u < count_of p → phase_of (set old t to) u ≡ ended → Cause p y (slice_index p.tickets u)
  cause u low over = by_ticket (u == t) refl where
    by_ticket : (b : Bool) → (u == t) ≡ b → Cause p y (slice_index p.tickets u)
    by_ticket true is =
        let same : u ≡ t = eqb-true u t is in
        let now : to ≡ ended = sym (phase_here old t to (let l = a.tickets in let w = step.within in omega (arith, l, w))) ∙ ap (phase_of (set old t to)) (sym same) ∙ over in
        subst (λ (i : ℕ). Cause p y (slice_index p.tickets i)) (sym same) (step.cause now)
    by_ticket false is = later_cause p x y (slice_index p.tickets u) step.grows (a.causes u low (sym (phase_there old t u to (eqb-false u t is)) ∙ over))

-- the tickets' phases stay where no number is given
stays : (p : PlanData) (x y : LedgerState) (phases : List Phase) → Grows x y → ((s : ℕ) → slice_index y.given s ≡ slice_index x.given s) → Accounts p x phases → Accounts p y phases
stays p x y phases g same a = record {
  tickets = a.tickets;
  fates = λ s k low. later_fate p x y phases phases s k g tried (a.fates s k (let e = same s in omega (arith, e, low)));
  causes = λ t low over. later_cause p x y (slice_index p.tickets t) g (a.causes t low over);
}

draw_turn : (p : PlanData) (x : LedgerState) (old new : List Phase) (b : Bool) → nat_lt x.drawn (count_of p) ≡ b
    → Turns p old Draw (cond b (Ticket (Some (claim_of p x.drawn))) (Ticket None)) new → Accounts p x old → Accounts p (cond b (record x { drawn = x.drawn + 1 }) x) new
draw_turn p x old new false is turn a = subst (Accounts p x) (sym turn) a
draw_turn p x old new true is turn a = subst (Accounts p (record x { drawn = x.drawn + 1 })) (sym turn.1) (goes p x (record x { drawn = x.drawn + 1 }) old x.drawn undrawn asks record {
  grows = record { deaths = λ s k h. h; winners = λ s h. h; least = le_refl x.least_bad; given = λ s. le_refl (slice_index x.given s) };
  within = ltb-true x.drawn (count_of p) is;
  was = turn.0;
  reported = λ k h. absurd (let e = ap is_trying h in let z : 0 ≡ suc k = e in omega arith);
  new_number = λ s k from below. absurd (omega (arith, from, below));
  cause = λ h. absurd (let z : 0 ≡ 1 = ap is_ended h in omega arith);
} a)

number_turn : (p : PlanData) (x : LedgerState) (c : Claim) (old new : List Phase) (b : Bool) → nat_lt (slice_index x.given c.shard) p.attempts ≡ b
    → IsDrawn p x c → c.shard < length x.given
    → Turns p old (Number c) (cond b (Numbered (Some (slice_index x.given c.shard))) (Numbered None)) new → Accounts p x old
    → Accounts p (cond b (record x { given = set x.given c.shard (slice_index x.given c.shard + 1) }) x) new
number_turn p x c old new false is drawn low turn a = subst (Accounts p x) (sym turn.1) (goes p x x old c.ticket asks ended record {
  grows = grows_not x;
  within = drawn.ticket;
  was = turn.0;
  reported = λ k h. absurd (let z : 0 ≡ suc k = ap is_trying h in omega arith);
  new_number = λ s k from below. absurd (omega (arith, from, below));
  cause = λ h. by_asking (let all = ltb-false (slice_index x.given c.shard) p.attempts is in let e = ap (slice_index x.given) drawn.shard in omega (arith, all, e));
} a)
number_turn p x c old new true is drawn low turn a = subst (Accounts p y) (sym turn.1) (goes p x y old c.ticket asks (tries g) record {
  grows = record { deaths = λ s k h. h; winners = λ s h. h; least = le_refl x.least_bad; given = λ s. up s (c.shard == s) refl };
  within = drawn.ticket;
  was = turn.0;
  reported = λ k h. absurd (let z : 0 ≡ suc k = ap is_trying h in omega arith);
  new_number = λ s k from below. new_at s k from below (c.shard == s) refl;
  cause = λ h. absurd (let z : 0 ≡ 1 = ap is_ended h in omega arith);
} a) where
  g : ℕ
  g = slice_index x.given c.shard

  y : LedgerState
  y = record x { given = set x.given c.shard (slice_index x.given c.shard + 1) }

  up : (s : ℕ) (b : Bool) → (c.shard == s) ≡ b → slice_index x.given s ≤ slice_index y.given s
  up s true same = let now = set_here x.given c.shard s (g + 1) low same in let e = ap (slice_index x.given) (eqb-true c.shard s same) in omega (arith, now, e)
  up s false other = let e = set_there x.given c.shard s (g + 1) other in omega (arith, e)

  new_at : (s k : ℕ) → slice_index x.given s ≤ k → k < slice_index y.given s → (b : Bool) → (c.shard == s) ≡ b → Fate p y (set old c.ticket (tries g)) s k
  new_at s k from below false other = absurd (let e = set_there x.given c.shard s (g + 1) other in omega (arith, from, below, e))
  new_at s k from below true same =
      let now = set_here x.given c.shard s (g + 1) low same in
      let e = ap (slice_index x.given) (eqb-true c.shard s same) in
      let number : g ≡ k = omega (arith, from, below, now, e) in
      let here = phase_here old c.ticket (tries g) (let l = a.tickets in let w = drawn.ticket in omega (arith, l, w)) in
      tried record { ticket = c.ticket; within = drawn.ticket; shard = drawn.shard ∙ eqb-true c.shard s same; phase = here ∙ ap tries number }

died_turn : (p : PlanData) (x : LedgerState) (c : Claim) (k : ℕ) (old new : List Phase) → IsDrawn p x c → c.shard < length x.deaths
    → Goes old c.ticket (tries k) asks new → Accounts p x old
    → Accounts p (record x { deaths = set x.deaths c.shard (bit_or (slice_index x.deaths c.shard) (2 ^ k)) }) new
died_turn p x c k old new drawn low turn a = subst (Accounts p y) (sym turn.1) (goes p x y old c.ticket (tries k) asks record {
  grows = record { deaths = λ s j h. kept s j h (c.shard == s) refl; winners = λ s h. h; least = le_refl x.least_bad; given = λ s. le_refl (slice_index x.given s) };
  within = drawn.ticket;
  was = turn.0;
  reported = λ j h. noted (let same : k ≡ j = (let e : suc k ≡ suc j = ap is_trying h in omega arith) in ap (λ (i : ℕ). bit_at (slice_index y.deaths (slice_index p.tickets c.ticket)) i) (sym same) ∙ now);
  new_number = λ s j from below. absurd (omega (arith, from, below));
  cause = λ h. absurd (let z : 0 ≡ 1 = ap is_ended h in omega arith);
} a) where
  d : ℕ
  d = slice_index x.deaths c.shard

  y : LedgerState
  y = record x { deaths = set x.deaths c.shard (bit_or (slice_index x.deaths c.shard) (2 ^ k)) }

  set_now : slice_index y.deaths (slice_index p.tickets c.ticket) ≡ bit_or d (2 ^ k)
  set_now = ap (slice_index y.deaths) drawn.shard ∙ get_or-set_same x.deaths c.shard (bit_or d (2 ^ k)) 0 low

  now : bit_at (slice_index y.deaths (slice_index p.tickets c.ticket)) k ≡ 1
  now = ap (λ (m : ℕ). bit_at m k) set_now ∙ (let or = bit_at_or d (2 ^ k) k in let one = bit_at-pow_same k in let less = bit_at-lt d k in omega (arith, or, one, less))

  kept : (s j : ℕ) → bit_at (slice_index x.deaths s) j ≡ 1 → (b : Bool) → (c.shard == s) ≡ b → bit_at (slice_index y.deaths s) j ≡ 1
  kept s j h false other = ap (λ (m : ℕ). bit_at m j) (set_there x.deaths c.shard s (bit_or d (2 ^ k)) other) ∙ h
  kept s j h true same = ap (λ (m : ℕ). bit_at m j) (set_here x.deaths c.shard s (bit_or d (2 ^ k)) low same)
      ∙ (let or = bit_at_or d (2 ^ k) j in let less = bit_at-lt (2 ^ k) j in let e = ap (λ (t : ℕ). bit_at (slice_index x.deaths t) j) (eqb-true c.shard s same) in omega (arith, or, less, e, h))

settle_turn : (p : PlanData) (x y : LedgerState) (c : Claim) (k : ℕ) (old new : List Phase) → IsDrawn p x c → Grows x y
    → ((s : ℕ) → slice_index y.given s ≡ slice_index x.given s) → 0 < slice_index y.winners c.shard → Goes old c.ticket (tries k) ended new
    → Accounts p x old → Accounts p y new
settle_turn p x y c k old new drawn grows same won turn a = subst (Accounts p y) (sym turn.1) (goes p x y old c.ticket (tries k) ended record {
  grows = grows;
  within = drawn.ticket;
  was = turn.0;
  reported = λ j h. settled here;
  new_number = λ s j from below. absurd (let e = same s in omega (arith, from, below, e));
  cause = λ h. by_settling here;
} a) where
  here : 0 < slice_index y.winners (slice_index p.tickets c.ticket)
  here = let e = ap (slice_index y.winners) drawn.shard in omega (arith, won, e)

settled_turn : (p : PlanData) (x : LedgerState) (c : Claim) (k n : ℕ) (old new : List Phase) (b : Bool) → (slice_index x.winners c.shard == 0) ≡ b
    → IsDrawn p x c → c.shard < length x.winners
    → Turns p old (Settle c k) (cond b Won (Late (slice_index x.winners c.shard - 1))) new → Accounts p x old
    → Accounts p (cond b (record x { winners = set x.winners c.shard (k + 1); unplaced = set x.unplaced c.shard (n + 1) }) x) new
settled_turn p x c k n old new false is drawn low turn a = settle_turn p x x c k old new drawn (grows_not x) (λ s. refl) (let e = eqb-false (slice_index x.winners c.shard) 0 is in omega (arith, e)) turn a
settled_turn p x c k n old new true is drawn low turn a = settle_turn p x y c k old new drawn
    record { deaths = λ s j h. h; winners = λ s h. kept s h (c.shard == s) refl; least = le_refl x.least_bad; given = λ s. le_refl (slice_index x.given s) }
    (λ s. refl) (let e = get_or-set_same x.winners c.shard (k + 1) 0 low in omega (arith, e)) turn a where
      y : LedgerState
      y = record x { winners = set x.winners c.shard (k + 1); unplaced = set x.unplaced c.shard (n + 1) }

      kept : (s : ℕ) → 0 < slice_index x.winners s → (b : Bool) → (c.shard == s) ≡ b → 0 < slice_index y.winners s
      kept s h true same = let e = set_here x.winners c.shard s (k + 1) low same in omega (arith, e)
      kept s h false other = let e = set_there x.winners c.shard s (k + 1) other in omega (arith, e, h)

bad_turn : (p : PlanData) (x : LedgerState) (s : ℕ) (old new : List Phase) → GivesUp p old s new → Accounts p x old → Accounts p (record x { least_bad = min x.least_bad s }) new
bad_turn p x s old new g a = subst (Accounts p y) (sym g.goes.1) (goes p x y old g.ticket (tries g.number) ended record {
  grows = record { deaths = λ s j h. h; winners = λ s h. h; least = omega arith; given = λ s. le_refl (slice_index x.given s) };
  within = g.within;
  was = g.goes.0;
  reported = λ j h. marked (let e = g.shard in omega (arith, e));
  new_number = λ s j from below. absurd (omega (arith, from, below));
  cause = λ h. by_marking (let e = g.shard in omega (arith, e));
} a) where
  y : LedgerState
  y = record x { least_bad = min x.least_bad s }

turned : (p : PlanData) (x : LedgerState) (n : ℕ) (e : Event) (ss : List ℕ) (old new : List Phase) → IsPlan p → HasRows p x → Fits p x n e ss
    → Turns p old e (reply_of p x e) new → Accounts p x old → Accounts p (after p x n e ss) new
turned p x n Draw ss old new plan rows fits turn a = draw_turn p x old new (nat_lt x.drawn (count_of p)) refl turn a
turned p x n (Number c) ss old new plan rows fits turn a =
    let within = shard_within p x c plan fits.1 in
    number_turn p x c old new (nat_lt (slice_index x.given c.shard) p.attempts) refl fits.1 (let r = rows.given in omega (arith, within, r)) turn a
turned p x n (Died c k) ss old new plan rows fits turn a =
    let within = shard_within p x c plan fits.1.claim in
    died_turn p x c k old new fits.1.claim (let r = rows.deaths in omega (arith, within, r)) turn a
turned p x n (Settle c k) ss old new plan rows fits turn a =
    let within = shard_within p x c plan fits.1.claim in
    settled_turn p x c k n old new (slice_index x.winners c.shard == 0) refl fits.1.claim (let r = rows.winners in omega (arith, within, r)) turn a
turned p x n (LaneOut i) ss old new plan rows fits turn a = subst (Accounts p (after p x n (LaneOut i) ss)) (sym turn)
    (either (λ y. Accounts p y old) (slice_index x.outs i == 0) (record x { outs = set x.outs i 1 }) x
    (stays p x (record x { outs = set x.outs i 1 }) old record { deaths = λ s j h. h; winners = λ s h. h; least = le_refl x.least_bad; given = λ s. le_refl (slice_index x.given s) } (λ s. refl) a) a)
turned p x n (LaneBack i) ss old new plan rows fits turn a = subst (Accounts p (after p x n (LaneBack i) ss)) (sym turn)
    (stays p x (after p x n (LaneBack i) ss) old record { deaths = λ s j h. h; winners = λ s h. h; least = le_refl x.least_bad; given = λ s. le_refl (slice_index x.given s) } (λ s. refl) a)
turned p x n (Bad s) ss old new plan rows fits turn a = bad_turn p x s old new turn a

accounts_along : (p : PlanData) → IsPlan p → (x : LedgerState) (es : List Entry) (old new : List Phase) → HasRows p x → IsLegalFrom p x es → TurnsAll p old es new
    → Accounts p x old → Accounts p (state_after p x es) new
accounts_along p plan x [] old new rows h turns a = subst (Accounts p x) (sym turns) a
accounts_along p plan x (e ∷ es) old new rows h turns a =
    let turn = subst (λ (r : Reply). Turns p old e.event r turns.0) h.1 turns.1 in
    accounts_along p plan (after p x e.by e.event e.shards) es turns.0 new (rows_kept p x e.by e.event e.shards rows) h.2 turns.2
    (turned p x e.by e.event e.shards old turns.0 plan rows h.0 turn a)

no_phase : (n t : ℕ) → phase_of (replicate n undrawn) t ≡ undrawn
no_phase zero t = refl
no_phase (suc n) zero = refl
no_phase (suc n) (suc t) = no_phase n t

accounts_open : (p : PlanData) (lanes : ℕ) → Accounts p (opening p lanes) (replicate (count_of p) undrawn)
accounts_open p lanes = record {
  tickets = length-replicate (count_of p) undrawn;
  fates = λ s k low. absurd (let z = no_number p.shards s in omega (arith, low, z));
  causes = λ t low over. absurd (let z : 0 ≡ 1 = ap is_ended (sym (no_phase (count_of p) t) ∙ over) in omega arith);
}

least_down : (p : PlanData) (x : LedgerState) (n : ℕ) (e : Event) (ss : List ℕ) → (after p x n e ss).least_bad ≤ x.least_bad
least_down p x n Draw ss = either (λ y. y.least_bad ≤ x.least_bad) (nat_lt x.drawn (count_of p)) (record x { drawn = x.drawn + 1 }) x (le_refl x.least_bad) (le_refl x.least_bad)
least_down p x n (Number c) ss = either (λ y. y.least_bad ≤ x.least_bad) (nat_lt (slice_index x.given c.shard) p.attempts) (record x { given = set x.given c.shard (slice_index x.given c.shard + 1) }) x (le_refl x.least_bad) (le_refl x.least_bad)
least_down p x n (Died c k) ss = le_refl x.least_bad
least_down p x n (Settle c k) ss = either (λ y. y.least_bad ≤ x.least_bad) (slice_index x.winners c.shard == 0) (record x { winners = set x.winners c.shard (k + 1); unplaced = set x.unplaced c.shard (n + 1) }) x (le_refl x.least_bad) (le_refl x.least_bad)
least_down p x n (LaneOut i) ss = either (λ y. y.least_bad ≤ x.least_bad) (slice_index x.outs i == 0) (record x { outs = set x.outs i 1 }) x (le_refl x.least_bad) (le_refl x.least_bad)
least_down p x n (LaneBack i) ss = le_refl x.least_bad
least_down p x n (Bad s) ss = omega arith

least_along : (p : PlanData) (x : LedgerState) (es : List Entry) → (state_after p x es).least_bad ≤ x.least_bad
least_along p x [] = le_refl x.least_bad
least_along p x (e ∷ es) = let a = least_down p x e.by e.event e.shards in let b = least_along p (after p x e.by e.event e.shards) es in omega (arith, a, b)

marked_step : (p : PlanData) (x : LedgerState) (n s : ℕ) (e : Event) (ss : List ℕ) → Marks s e → (after p x n e ss).least_bad ≤ s
marked_step p x n s (Bad t) ss h = let e : t ≡ s = h in omega (arith, e)
marked_step p x n s Draw ss h = absurd h
marked_step p x n s (Number c) ss h = absurd h
marked_step p x n s (Died c k) ss h = absurd h
marked_step p x n s (Settle c k) ss h = absurd h
marked_step p x n s (LaneOut i) ss h = absurd h
marked_step p x n s (LaneBack i) ss h = absurd h

-- a shard that was marked bad isn't below the least bad one
bad_low : (p : PlanData) (x : LedgerState) (es : List Entry) (s : ℕ) → HasBad s es → (state_after p x es).least_bad ≤ s
bad_low p x [] s h = absurd h
bad_low p x (e ∷ es) s (inl h) = let a = marked_step p x e.by s e.event e.shards h in let b = least_along p (after p x e.by e.event e.shards) es in omega (arith, a, b)
bad_low p x (e ∷ es) s (inr h) = bad_low p (after p x e.by e.event e.shards) es s h

-- a shard of the plan has a ticket
record Has (s : ℕ) (tickets : List ℕ) : Type 0 where
  ticket : ℕ
  within : ticket < length tickets
  shard : slice_index tickets ticket ≡ s

ticket_for : (s : ℕ) (tickets : List ℕ) → 1 ≤ tickets_of s tickets → Has s tickets
ticket_for s [] h = absurd (let z : 1 ≤ 0 = h in omega arith)
ticket_for s (t ∷ ts) h = by_test (t == s) refl (λ rest. ticket_for s ts rest) h where
  by_test : (b : Bool) → (t == s) ≡ b → (1 ≤ tickets_of s ts → Has s ts) → 1 ≤ cond b (tickets_of s ts + 1) (tickets_of s ts) → Has s (t ∷ ts)
  by_test true is later h = record { ticket = 0; within = omega arith; shard = eqb-true t s is }
  by_test false is later h = let r = later h in record { ticket = suc r.ticket; within = (let w = r.within in omega (arith, w)); shard = r.shard }

pub each_shard_is_decided : EachShardIsDecided
each_shard_is_decided p lanes log phases plan legal orderly done s low below not_lost = by_word (slice_index x.winners s) refl where
  x : LedgerState
  x = left_by p lanes log

  a : Accounts p x phases
  a = accounts_along p plan (opening p lanes) log (replicate (count_of p) undrawn) phases (rows_open p lanes) legal.from orderly.turns (accounts_open p lanes)

  not_bad : HasBad s log → ⊥
  not_bad h = let m = bad_low p (opening p lanes) log s h in absurd (omega (arith, m, below))

  over : (t : ℕ) → t < count_of p → slice_index p.tickets t ≡ s → phase_of phases t ≡ ended
  over t within shard = ⊎_elim (λ (h : phase_of phases t ≡ ended). h) (λ (h : HasBad (slice_index p.tickets t) log). absurd (not_bad (subst (λ (i : ℕ). HasBad i log) shard h))) (done t within)

  fate_bit : (k : ℕ) → slice_index x.winners s ≡ 0 → Fate p x phases s k → bit_at (slice_index x.deaths s) k ≡ 1
  fate_bit k none (noted h) = h
  fate_bit k none (tried h) = absurd (let z : 1 ≡ 0 = ap is_ended (sym (over h.ticket h.within h.shard) ∙ h.phase) in omega arith)
  fate_bit k none (settled h) = absurd (omega (arith, none, h))
  fate_bit k none (marked h) = absurd (omega (arith, below, h))

  of_cause : slice_index x.winners s ≡ 0 → Cause p x s → ⊥
  of_cause none (by_settling h) = absurd (omega (arith, none, h))
  of_cause none (by_marking h) = absurd (omega (arith, below, h))
  of_cause none (by_asking h) = not_lost (λ k small. fate_bit k none (a.fates s k (omega (arith, h, small))))

  by_word : (n : ℕ) → slice_index x.winners s ≡ n → 0 < slice_index x.winners s
  by_word (suc w) is = omega (arith, is)
  by_word zero is =
      let t = ticket_for s p.tickets (plan.each s low).0 in
      absurd (of_cause is (subst (Cause p x) t.shard (a.causes t.ticket t.within (over t.ticket t.within t.shard))))
