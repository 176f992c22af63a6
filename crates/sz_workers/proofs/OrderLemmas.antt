-- The calls of several callers, each in order, are in order together.
use Rattle.std.proofs.Common.{◌≡◌, ◌≢◌, ◌⊎◌, ℕ, zero, suc, ◌+◌, ◌<◌, ◌≤◌, ◌==◌, Bool, true, false, cond, nat_lt, List, [], ◌∷◌, length, replicate}
use Rattle.std.proofs.Common.{refl, ap, sym, ◌∙◌, subst, inl, inr, ⊎_elim, le_refl, arith, Some, None, ltb-true, length-set, eq-eqb, ne_eqb}
use Rattle.std.specs.Prelude.{slice_set}
use Rattle.std.proofs.lemmas.Bool.{ltb-false}
use Rattle.std.proofs.lemmas.List.{get_or-set_same, get_or-set_other, length-replicate}
use mathlib.Core.Logic.{dite}
use native.Mathlib.Decide.{ℕ_discrete}
use Rattle.sz_book_rules.specs.Plan.{PlanData, count_of}
use Rattle.sz_book_rules.specs.declared.claim.Claim.{Claim}
use Rattle.sz_book_rules.specs.declared.event.Event.{Event}
use Rattle.sz_book_rules.specs.declared.event.Event.TheVariants.{Draw, Number, Died, Settle, LaneOut, LaneBack, Bad}
use Rattle.sz_book_rules.specs.declared.event.Reply.{Reply}
use Rattle.sz_book_rules.specs.declared.event.Reply.TheVariants.{Ticket, Number as Numbered, Noted, Won, Late, Lane}
use Rattle.sz_book_rules.specs.declared.event.Entry.{Entry}
use Rattle.sz_book_rules.specs.Machine.{LedgerState, opening, after, reply_of, claim_of, draw_reply}
use Rattle.sz_book_rules.specs.History.{state_after, IsLegalFrom, calls_by}
use Rattle.sz_book_rules.specs.Orderly.{Phase, undrawn, asks, tries, ended, phase_of, Turns, TurnsAll}
use Rattle.sz_workers.specs.Advances.{NoneOnItsWay}
use Rattle.sz_workers.specs.Laws.{OrderlyCallersAreOrderly}
use Rattle.sz_workers.proofs.AdvanceLemmas.{none_drawn}

asks_not : ¬ (asks ≡ undrawn)
asks_not e = absurd (cc)

tries_not : (k : ℕ) → ¬ (tries k ≡ undrawn)
tries_not k e = absurd (cc)

ended_not : ¬ (ended ≡ undrawn)
ended_not e = absurd (cc)

-- a ticket that isn't undrawn has a phase in the list
phase_low : (phases : List Phase) (t : ℕ) → ¬ (phase_of phases t ≡ undrawn) → t < length phases
phase_low [] t h = absurd (h refl)
phase_low (q ∷ phases) zero h = omega arith
phase_low (q ∷ phases) (suc t) h = omega (arith, phase_low phases t h)

less_other : (t n : ℕ) → t < n + 1 → t ≢ n → t < n
less_other t n less other = grind arith

low_of : (t n : ℕ) → ¬ (n ≤ t) → t < n
low_of t n h = by (nat_lt t n) refl
  where
    by : (b : Bool) → nat_lt t n ≡ b → t < n
    by true is = ltb-true t n is
    by false is = absurd (h (ltb-false t n is))

-- What an event does with its reply, by a caller whose tickets were at the old phases: it leaves all tickets where
-- they are; it takes a ticket on that was drawn before; or it draws the next ticket. Wherever these are at the same
-- phases it does the same
data Move (p : PlanData) (x y : LedgerState) (event : Event) (reply : Reply) (old next : List Phase) : Type 0 where
  stays : next ≡ old → y.drawn ≡ x.drawn → ((whole : List Phase) → Turns p whole event reply whole)
      → Move p x y event reply old next
  goes : (t : ℕ) (from to : Phase) → ¬ (from ≡ undrawn) → ¬ (to ≡ undrawn) → phase_of old t ≡ from
      → next ≡ slice_set old t to → y.drawn ≡ x.drawn
      → ((whole : List Phase) → phase_of whole t ≡ from → Turns p whole event reply (slice_set whole t to))
      → Move p x y event reply old next
  draws : next ≡ slice_set old x.drawn asks → x.drawn < count_of p → y.drawn ≡ x.drawn + 1
      → ((whole : List Phase) → phase_of whole x.drawn ≡ undrawn
      → Turns p whole event reply (slice_set whole x.drawn asks)) → Move p x y event reply old next

same_drawn : (b : Bool) (y z : LedgerState) (d : ℕ) → y.drawn ≡ d → z.drawn ≡ d → (cond b y z).drawn ≡ d
same_drawn true y z d e f = e
same_drawn false y z d e f = f

-- a draw that gave a claim
drew : (p : PlanData) (x : LedgerState) (n : ℕ) (ss : List ℕ) (c : Claim) (b : Bool) → nat_lt x.drawn (count_of p) ≡ b
    → Ticket (Some c) ≡ draw_reply p x.drawn
    → (c.ticket ≡ x.drawn) × (x.drawn < count_of p) × ((after p x n Draw ss).drawn ≡ x.drawn + 1)
drew p x n ss c true is e =
    let r : Ticket (Some c) ≡ Ticket (Some (claim_of p x.drawn)) =
    e ∙ ap (λ (b : Bool). cond b (Ticket (Some (claim_of p x.drawn))) (Ticket None)) is in
    let same : c ≡ claim_of p x.drawn = cc r in (
      ap (λ (y : Claim). y.ticket) same,
      ltb-true x.drawn (count_of p) is,
      ap (λ (b : Bool). (cond b (record x { drawn = x.drawn + 1 }) x).drawn) is,
    )
drew p x n ss c false is e =
    let r : Ticket (Some c) ≡ Ticket None =
    e ∙ ap (λ (b : Bool). cond b (Ticket (Some (claim_of p x.drawn))) (Ticket None)) is in absurd (cc r)

-- and one that gave none
drew_none : (p : PlanData) (x : LedgerState) (n : ℕ) (ss : List ℕ) (b : Bool) → nat_lt x.drawn (count_of p) ≡ b
    → Ticket None ≡ draw_reply p x.drawn → (after p x n Draw ss).drawn ≡ x.drawn
drew_none p x n ss true is e =
    let r : Ticket None ≡ Ticket (Some (claim_of p x.drawn)) =
    e ∙ ap (λ (b : Bool). cond b (Ticket (Some (claim_of p x.drawn))) (Ticket None)) is in
    absurd (cc r)
drew_none p x n ss false is e = ap (λ (b : Bool). (cond b (record x { drawn = x.drawn + 1 }) x).drawn) is

move_of : (p : PlanData) (x : LedgerState) (n : ℕ) (event : Event) (ss : List ℕ) (reply : Reply)
    (old next : List Phase) → reply ≡ reply_of p x event
    → Turns p old event reply next → Move p x (after p x n event ss) event reply old next
move_of p x n Draw ss (Ticket (Some c)) old next answer turn =
    let d = drew p x n ss c (nat_lt x.drawn (count_of p)) refl answer in
    draws (turn.1 ∙ ap (λ (t : ℕ). slice_set old t asks) d.0) d.1 d.2
    (λ whole at. (ap (phase_of whole) d.0 ∙ at, ap (λ (t : ℕ). slice_set whole t asks) (sym d.0)))
move_of p x n Draw ss (Ticket None) old next answer turn =
    stays turn (drew_none p x n ss (nat_lt x.drawn (count_of p)) refl answer) (λ whole. refl)
move_of p x n (Number c) ss (Numbered (Some k)) old next answer turn =
    goes c.ticket asks (tries k) asks_not (tries_not k) turn.0 turn.1 (same_drawn _ _ _ x.drawn refl refl)
    (λ whole at. (at, refl))
move_of p x n (Number c) ss (Numbered None) old next answer turn =
    goes c.ticket asks ended asks_not ended_not turn.0 turn.1 (same_drawn _ _ _ x.drawn refl refl)
    (λ whole at. (at, refl))
move_of p x n (Died c k) ss Noted old next answer turn =
    goes c.ticket (tries k) asks (tries_not k) asks_not turn.0 turn.1 refl (λ whole at. (at, refl))
move_of p x n (Settle c k) ss Won old next answer turn =
    goes c.ticket (tries k) ended (tries_not k) ended_not turn.0 turn.1 (same_drawn _ _ _ x.drawn refl refl)
    (λ whole at. (at, refl))
move_of p x n (Settle c k) ss (Late w) old next answer turn =
    goes c.ticket (tries k) ended (tries_not k) ended_not turn.0 turn.1 (same_drawn _ _ _ x.drawn refl refl)
    (λ whole at. (at, refl))
move_of p x n (Bad s) ss Noted old next answer turn =
    goes turn.ticket (tries turn.number) ended (tries_not turn.number) ended_not turn.goes.0 turn.goes.1 refl
    (λ whole at. record {
      ticket = turn.ticket;
      number = turn.number;
      within = turn.within;
      shard = turn.shard;
      goes = (at, refl);
    })
move_of p x n (LaneOut i) ss (Lane home) old next answer turn =
    stays turn (same_drawn _ _ _ x.drawn refl refl) (λ whole. refl)
move_of p x n (LaneBack i) ss Noted old next answer turn = stays turn refl (λ whole. refl)
move_of p x n event ss reply old next answer turn = absurd turn

-- Where each caller's calls that are still to come are in order, after a front of the history: the phases of all
-- tickets are those of the callers who drew them
record Together (p : PlanData) (x : LedgerState) (es : List Entry) (whole : List Phase) : Type 0 where
  own : ℕ → List Phase
  rest : (n : ℕ) → (phases : List Phase) × TurnsAll p (own n) (calls_by n es) phases × NoneOnItsWay phases
  rows : (length whole ≡ count_of p) × ((n : ℕ) → length (own n) ≡ count_of p)
  seen : (n t : ℕ) → (phase_of (own n) t ≡ undrawn) ⊎ (phase_of (own n) t ≡ phase_of whole t)
  apart : (n m t : ℕ) → n ≢ m → (phase_of (own n) t ≡ undrawn) ⊎ (phase_of (own m) t ≡ undrawn)
  owner : (t : ℕ) → t < x.drawn → (n : ℕ) × (¬ (phase_of (own n) t ≡ undrawn))
  fresh : (t : ℕ) → x.drawn ≤ t → phase_of whole t ≡ undrawn

mine_first : (n : ℕ) (e : Entry) (es : List Entry) → e.by ≡ n → calls_by n (e ∷ es) ≡ e ∷ calls_by n es
mine_first n e es is = ap (λ (b : Bool). cond b (e ∷ calls_by n es) (calls_by n es)) (eq-eqb e.by n is)

other_first : (n : ℕ) (e : Entry) (es : List Entry) → e.by ≢ n → calls_by n (e ∷ es) ≡ calls_by n es
other_first n e es other = ap (λ (b : Bool). cond b (e ∷ calls_by n es) (calls_by n es)) (ne_eqb e.by n other)

-- a caller's tickets went to their next phases, and those of the others stay
module _ (p : PlanData) (x y : LedgerState) (e : Entry) (es : List Entry) (whole : List Phase)
    (g : Together p x (e ∷ es) whole) (own : ℕ → List Phase) (next : List Phase)
    (rest : (n : ℕ) → (phases : List Phase) × TurnsAll p (own n) (calls_by n es) phases × NoneOnItsWay phases)
    (here : own e.by ≡ next) (there : (n : ℕ) → e.by ≢ n → own n ≡ g.own n) where
  stay : next ≡ g.own e.by → y.drawn ≡ x.drawn → Together p y es whole
  stay same drawn =
      let all : (n : ℕ) → own n ≡ g.own n = λ n.
      dite (ℕ_discrete e.by n) (λ (is : e.by ≡ n). subst (λ (k : ℕ). own k ≡ g.own k) is (here ∙ same))
      (λ (other : e.by ≢ n). there n other) in record {
        own = own;
        rest = rest;
        rows = (g.rows.0, λ n. ap (λ (l : List Phase). length l) (all n) ∙ g.rows.1 n);
        seen = λ n t. subst (λ (l : List Phase). (phase_of l t ≡ undrawn) ⊎ (phase_of l t ≡ phase_of whole t))
            (sym (all n)) (g.seen n t);
        apart = λ n m t other. subst (λ (l : List Phase). (phase_of l t ≡ undrawn) ⊎ (phase_of (own m) t ≡ undrawn))
            (sym (all n)) (subst (λ (l : List Phase). (phase_of (g.own n) t ≡ undrawn) ⊎ (phase_of l t ≡ undrawn))
            (sym (all m)) (g.apart n m t other));
        owner = λ t low. let o = g.owner t (omega (arith, low, drawn)) in (
          o.0,
          λ (none : phase_of (own o.0) t ≡ undrawn). o.1 (sym (ap (λ (l : List Phase). phase_of l t) (all o.0)) ∙ none),
        );
        fresh = λ t high. g.fresh t (omega (arith, high, drawn));
      }

  -- ticket t went to a phase
  module _ (t : ℕ) (to : Phase) (drawn : ¬ (to ≡ undrawn)) (moved : next ≡ slice_set (g.own e.by) t to)
      (within : t < count_of p)
      (others : (n : ℕ) → e.by ≢ n → phase_of (g.own n) t ≡ undrawn) where
    at_own : phase_of (own e.by) t ≡ to
    at_own = ap (λ (l : List Phase). phase_of l t) (here ∙ moved)
        ∙ get_or-set_same (g.own e.by) t to undrawn (subst (λ (k : ℕ). t < k) (sym (g.rows.1 e.by)) within)

    at_whole : phase_of (slice_set whole t to) t ≡ to
    at_whole = get_or-set_same whole t to undrawn (subst (λ (k : ℕ). t < k) (sym g.rows.0) within)

    beside : (n : ℕ) → e.by ≢ n → phase_of (own n) t ≡ undrawn
    beside n other = ap (λ (l : List Phase). phase_of l t) (there n other) ∙ others n other

    elsewhere : (n u : ℕ) → u ≢ t → phase_of (own n) u ≡ phase_of (g.own n) u
    elsewhere n u away = dite (ℕ_discrete e.by n)
        (λ (is : e.by ≡ n). subst (λ (k : ℕ). phase_of (own k) u ≡ phase_of (g.own k) u) is
        (ap (λ (l : List Phase). phase_of l u) (here ∙ moved) ∙ get_or-set_other (g.own e.by) t u to undrawn away))
        (λ (other : e.by ≢ n). ap (λ (l : List Phase). phase_of l u) (there n other))

    long : (n : ℕ) → length (own n) ≡ count_of p
    long n = dite (ℕ_discrete e.by n)
        (λ (is : e.by ≡ n). subst (λ (k : ℕ). length (own k) ≡ count_of p) is
        (ap (λ (l : List Phase). length l) (here ∙ moved) ∙ length-set (g.own e.by) t to ∙ g.rows.1 e.by))
        (λ (other : e.by ≢ n). ap (λ (l : List Phase). length l) (there n other) ∙ g.rows.1 n)

    seen_at : (n : ℕ) → (phase_of (own n) t ≡ undrawn) ⊎ (phase_of (own n) t ≡ phase_of (slice_set whole t to) t)
    seen_at n = dite (ℕ_discrete e.by n)
        (λ (is : e.by ≡ n). inr
        (subst (λ (k : ℕ). phase_of (own k) t ≡ phase_of (slice_set whole t to) t) is (at_own ∙ sym at_whole)))
        (λ (other : e.by ≢ n). inl (beside n other))

    seen_now : (n u : ℕ) → (phase_of (own n) u ≡ undrawn) ⊎ (phase_of (own n) u ≡ phase_of (slice_set whole t to) u)
    seen_now n u = dite (ℕ_discrete u t)
        (λ (is : u ≡ t). subst (λ (k : ℕ). (phase_of (own n) k ≡ undrawn)
        ⊎ (phase_of (own n) k ≡ phase_of (slice_set whole t to) k)) (sym is) (seen_at n))
        (λ (away : u ≢ t). ⊎_elim (λ (a : phase_of (g.own n) u ≡ undrawn). inl (elsewhere n u away ∙ a))
        (λ (b : phase_of (g.own n) u ≡ phase_of whole u).
        inr (elsewhere n u away ∙ b ∙ sym (get_or-set_other whole t u to undrawn away))) (g.seen n u))

    apart_at : (n m : ℕ) → n ≢ m → (phase_of (own n) t ≡ undrawn) ⊎ (phase_of (own m) t ≡ undrawn)
    apart_at n m other = dite (ℕ_discrete e.by n)
        (λ (is : e.by ≡ n). inr (beside m (λ (same : e.by ≡ m). other (sym is ∙ same))))
        (λ (away : e.by ≢ n). inl (beside n away))

    apart_now : (n m u : ℕ) → n ≢ m → (phase_of (own n) u ≡ undrawn) ⊎ (phase_of (own m) u ≡ undrawn)
    apart_now n m u other = dite (ℕ_discrete u t)
        (λ (is : u ≡ t). subst (λ (k : ℕ). (phase_of (own n) k ≡ undrawn) ⊎ (phase_of (own m) k ≡ undrawn)) (sym is)
        (apart_at n m other))
        (λ (away : u ≢ t). ⊎_elim (λ (a : phase_of (g.own n) u ≡ undrawn). inl (elsewhere n u away ∙ a))
        (λ (b : phase_of (g.own m) u ≡ undrawn). inr (elsewhere m u away ∙ b)) (g.apart n m u other))

    move : ((u : ℕ) → u < y.drawn → u ≢ t → u < x.drawn) → ((u : ℕ) → y.drawn ≤ u → (x.drawn ≤ u) × (u ≢ t))
        → Together p y es (slice_set whole t to)
    move grown later = record {
      own = own;
      rest = rest;
      rows = (length-set whole t to ∙ g.rows.0, long);
      seen = seen_now;
      apart = apart_now;
      owner = λ u low. dite (ℕ_discrete u t)
          (λ (is : u ≡ t). subst (λ (k : ℕ). (n : ℕ) × (¬ (phase_of (own n) k ≡ undrawn))) (sym is)
          (e.by, λ (none : phase_of (own e.by) t ≡ undrawn). drawn (sym at_own ∙ none)))
          (λ (away : u ≢ t). let o = g.owner u (grown u low away) in
          (o.0, λ (none : phase_of (own o.0) u ≡ undrawn). o.1 (sym (elsewhere o.0 u away) ∙ none)));
      fresh = λ u high. get_or-set_other whole t u to undrawn (later u high).1 ∙ g.fresh u (later u high).0;
    }

  stepped : Move p x y e.event e.reply (g.own e.by) next
      → (new : List Phase) × Turns p whole e.event e.reply new × Together p y es new
  stepped (stays same drawn turn) = (whole, turn whole, stay same drawn)
  stepped (goes t from to was now phase moved drawn turn) =
      let mine : ¬ (phase_of (g.own e.by) t ≡ undrawn) =
      λ (none : phase_of (g.own e.by) t ≡ undrawn). was (sym phase ∙ none) in
      let seen : phase_of whole t ≡ from = ⊎_elim (λ (a : phase_of (g.own e.by) t ≡ undrawn). absurd (mine a))
      (λ (b : phase_of (g.own e.by) t ≡ phase_of whole t). sym b ∙ phase) (g.seen e.by t) in
      let low : t < x.drawn = low_of t x.drawn (λ (high : x.drawn ≤ t). was (sym seen ∙ g.fresh t high)) in
      let within : t < count_of p = subst (λ (k : ℕ). t < k) (g.rows.1 e.by) (phase_low (g.own e.by) t mine) in
      let others : (n : ℕ) → e.by ≢ n → phase_of (g.own n) t ≡ undrawn = λ n other.
      ⊎_elim (λ (a : phase_of (g.own e.by) t ≡ undrawn). absurd (mine a)) (λ (b : phase_of (g.own n) t ≡ undrawn). b)
      (g.apart e.by n t other) in (
        slice_set whole t to,
        turn whole seen,
        move t to now moved within others (λ u less away. omega (arith, less, drawn))
            (λ u high. (omega (arith, high, drawn), λ (same : u ≡ t). absurd (omega (arith, high, drawn, low, same)))),
      )
  stepped (draws moved within drawn turn) =
      let none : phase_of whole x.drawn ≡ undrawn = g.fresh x.drawn (le_refl x.drawn) in
      let others : (n : ℕ) → e.by ≢ n → phase_of (g.own n) x.drawn ≡ undrawn = λ n other.
      ⊎_elim (λ (a : phase_of (g.own n) x.drawn ≡ undrawn). a)
      (λ (b : phase_of (g.own n) x.drawn ≡ phase_of whole x.drawn). b ∙ none)
      (g.seen n x.drawn) in (
        slice_set whole x.drawn asks,
        turn whole none,
        move x.drawn asks asks_not moved within others
            (λ u less away. less_other u x.drawn (omega (arith, less, drawn)) away)
            (λ u high. (omega (arith, high, drawn), λ (same : u ≡ x.drawn). absurd (omega (arith, high, drawn, same)))),
      )

step : (p : PlanData) (x : LedgerState) (e : Entry) (es : List Entry) (whole : List Phase)
    → e.reply ≡ reply_of p x e.event → Together p x (e ∷ es) whole
    → (new : List Phase) × Turns p whole e.event e.reply new × Together p (after p x e.by e.event e.shards) es new
step p x e es whole answer g =
    let r = g.rest e.by in
    let turned = subst (λ (l : List Entry). TurnsAll p (g.own e.by) l r.0) (mine_first e.by e es refl) r.1 in
    let next : List Phase = turned.0 in
    let own : ℕ → List Phase = λ n. cond (e.by == n) next (g.own n) in
    let here : own e.by ≡ next = ap (λ (b : Bool). cond b next (g.own e.by)) (eq-eqb e.by e.by refl) in
    let there : (n : ℕ) → e.by ≢ n → own n ≡ g.own n =
    λ n other. ap (λ (b : Bool). cond b next (g.own n)) (ne_eqb e.by n other) in
    let rest : (n : ℕ) → (phases : List Phase) × TurnsAll p (own n) (calls_by n es) phases × NoneOnItsWay phases = λ n.
    dite (ℕ_discrete e.by n)
    (λ (is : e.by ≡ n). subst
    (λ (k : ℕ). (phases : List Phase) × TurnsAll p (own k) (calls_by k es) phases × NoneOnItsWay phases) is
    (r.0, subst (λ (l : List Phase). TurnsAll p l (calls_by e.by es) r.0) (sym here) turned.2, r.2))
    (λ (other : e.by ≢ n). let q = g.rest n in (
      q.0,
      subst (λ (l : List Phase). TurnsAll p l (calls_by n es) q.0) (sym (there n other))
          (subst (λ (l : List Entry). TurnsAll p (g.own n) l q.0) (other_first n e es other) q.1),
      q.2,
    )) in
    stepped p x (after p x e.by e.event e.shards) e es whole g own next rest here there
    (move_of p x e.by e.event e.shards e.reply (g.own e.by) next answer turned.1)

-- in the end each ticket that was drawn has ended
ended_now : (p : PlanData) (x : LedgerState) (whole : List Phase) (g : Together p x [] whole) (t : ℕ) → t < x.drawn
    → phase_of whole t ≡ ended
ended_now p x whole g t low =
    let o = g.owner t low in
    let r = g.rest o.0 in
    let none : NoneOnItsWay (g.own o.0) = subst NoneOnItsWay r.1 r.2 in
    ⊎_elim (λ (a : phase_of (g.own o.0) t ≡ undrawn). absurd (o.1 a))
    (λ (b : phase_of (g.own o.0) t ≡ ended). ⊎_elim (λ (a : phase_of (g.own o.0) t ≡ undrawn). absurd (o.1 a))
    (λ (s : phase_of (g.own o.0) t ≡ phase_of whole t). sym s ∙ b) (g.seen o.0 t)) (none t)

none_now : (p : PlanData) (x : LedgerState) (whole : List Phase) → Together p x [] whole → NoneOnItsWay whole
none_now p x whole g t = by (nat_lt t x.drawn) refl
  where
    by : (b : Bool) → nat_lt t x.drawn ≡ b → (phase_of whole t ≡ undrawn) ⊎ (phase_of whole t ≡ ended)
    by true is = inr (ended_now p x whole g t (ltb-true t x.drawn is))
    by false is = inl (g.fresh t (ltb-false t x.drawn is))

joined : (p : PlanData) (x : LedgerState) (es : List Entry) (whole : List Phase) → IsLegalFrom p x es
    → Together p x es whole → (phases : List Phase) × TurnsAll p whole es phases × NoneOnItsWay phases
    × ((t : ℕ) → t < (state_after p x es).drawn → phase_of phases t ≡ ended)
joined p x [] whole legal g = (whole, refl, none_now p x whole g, ended_now p x whole g)
joined p x (e ∷ es) whole legal g =
    let s = step p x e es whole legal.1 g in
    let r = joined p (after p x e.by e.event e.shards) es s.0 legal.2 s.2 in
    (r.0, (s.0, s.1, r.1), r.2, r.3)

pub orderly_callers : OrderlyCallersAreOrderly
orderly_callers p lanes log legal each =
    let start : List Phase = replicate (count_of p) undrawn in
    let first : Together p (opening p lanes) log start = record {
      own = λ n. start;
      rest = λ n. ((each n).0, (each n).1.turns, (each n).2);
      rows = (length-replicate (count_of p) undrawn, λ n. length-replicate (count_of p) undrawn);
      seen = λ n t. inl (none_drawn (count_of p) t);
      apart = λ n m t other. inl (none_drawn (count_of p) t);
      owner = λ t low. absurd (omega (arith, low));
      fresh = λ t high. none_drawn (count_of p) t;
    } in
    let r = joined p (opening p lanes) log start legal.from first in
    (r.0, record { turns = r.1 }, r.2, r.3)
