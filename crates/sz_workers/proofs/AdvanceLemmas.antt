-- What the calls on one ticket do, one after the other, and what a worker has done between two tickets.
use Rattle.std.proofs.Common.{◌≡◌, ◌⊎◌, ℕ, zero, suc, ◌+◌, ◌<◌, ◌==◌, Bool, true, false, List, [], ◌∷◌, ◌++◌, length, replicate, refl, ap, sym, ◌∙◌, subst, inl, inr, ⊎_elim, Some, None, append-nil, length-set}
use Rattle.std.specs.Prelude.{slice_set}
use Rattle.std.proofs.lemmas.Bool.{eqb-true, eqb-false}
use Rattle.std.proofs.lemmas.List.{append_assoc, get_or-set_same, get_or-set_other, set-get_or, set-set, length-replicate}
use Rattle.sz_book_rules.specs.Plan.{PlanData, count_of}
use Rattle.sz_book.specs.Lanes.{LaneData}
use Rattle.sz_book_rules.specs.declared.claim.Claim.{Claim}
use Rattle.sz_book_rules.specs.declared.event.Event.{Event}
use Rattle.sz_book_rules.specs.declared.event.Event.TheVariants.{Draw, Number, Settle, LaneOut, LaneBack, Bad}
use Rattle.sz_book_rules.specs.declared.event.Reply.{Reply}
use Rattle.sz_book_rules.specs.declared.event.Reply.TheVariants.{Ticket, Number as Numbered, Noted, Won, Lane}
use Rattle.sz_book_rules.specs.declared.event.Entry.{Entry}
use Rattle.sz_book_rules.specs.History.{entry, HasDrawn}
use Rattle.sz_book_rules.specs.Orderly.{Phase, undrawn, asks, tries, ended, phase_of, Turns, TurnsAll}
use Rattle.sz_claims.specs.Known.{PassData, Calls, CallsWith, IsLent}
use Rattle.sz_claims.proofs.ForCallers.{has_drawn_now}
use Rattle.sz_workers.specs.Makers.{GivesEmits}
use Rattle.sz_workers.specs.Working.{IsInPlace}
use Rattle.sz_workers.specs.Advances.{TellsTruth, AllTellTruth, HasBegun, HasWorked}
use Rattle.sz_workers.specs.LoopTickets.{Leads, LeavesAll, Stops, IsBetween}
use Rattle.sz_workers.proofs.CallLemmas.{goes_self, goes_then, goes_call, goes_lent, in_place_call, in_place_with, is_claim, drawn_since}
use Rattle.sz_workers.proofs.LoopLeftLemmas.{not_drawn, drawn_low}

advances_then : (p : PlanData) (old mid new : List Phase) (es ds : List Entry) → TurnsAll p old es mid
    → TurnsAll p mid ds new → TurnsAll p old (es ++ ds) new
advances_then p old mid new [] ds a b = subst (λ (l : List Phase). TurnsAll p l ds new) a b
advances_then p old mid new (e ∷ es) ds a b = (a.0, a.1, advances_then p a.0 mid new es ds a.2 b)

pub none_drawn : (n t : ℕ) → phase_of (replicate n undrawn) t ≡ undrawn
none_drawn zero t = refl
none_drawn (suc n) zero = refl
none_drawn (suc n) (suc t) = none_drawn n t

module _ (died : ℕ → ℕ → Type 0) (is_bad : ℕ → Type 0) where
  truth_then : (es ds : List Entry) → AllTellTruth died is_bad es → AllTellTruth died is_bad ds
      → AllTellTruth died is_bad (es ++ ds)
  truth_then [] ds a b = b
  truth_then (e ∷ es) ds a b = (a.0, truth_then es ds a.1 b)

-- a ticket that goes on from where it is stays there
stays_there : (old : List Phase) (t : ℕ) (q : Phase) → phase_of old t ≡ q → slice_set old t q ≡ old
stays_there old t q is = ap (λ (r : Phase). slice_set old t r) (sym is) ∙ set-get_or old t undrawn

module _ (died : ℕ → ℕ → Type 0) (is_bad : ℕ → Type 0) (p : PlanData) where
  -- no call leaves a ticket where it is
  pub leads_self : (v : PassData) (t : ℕ) (q : Phase) → IsInPlace v → Leads died is_bad p v v t q q
  leads_self v t q place = record {
    goes = goes_self v;
    place = place;
    further = [];
    later = sym (append-nil v.mine);
    truth = tt;
    advances = λ old low is. stays_there old t q is;
  }

  -- further calls on the same ticket
  leads_then : (u v w : PassData) (t : ℕ) (a b c : Phase) → Leads died is_bad p u v t a b
      → Leads died is_bad p v w t b c → Leads died is_bad p u w t a c
  leads_then u v w t a b c g h = record {
    goes = goes_then u v w g.goes h.goes;
    place = h.place;
    further = g.further ++ h.further;
    later = h.later ∙ ap (λ (l : List Entry). l ++ h.further) g.later ∙ append_assoc u.mine g.further h.further;
    truth = truth_then died is_bad g.further h.further g.truth h.truth;
    advances = λ old low is.
        let mid : List Phase = slice_set old t b in
        let rest = h.advances mid (subst (λ (n : ℕ). t < n) (sym (length-set old t b)) low)
        (get_or-set_same old t b undrawn low) in
        advances_then p old mid (slice_set old t c) g.further h.further (g.advances old low is)
        (subst (λ (l : List Phase). TurnsAll p mid h.further l) (set-set old t b c) rest);
  }

  -- one call on a ticket
  leads_call : (v w : PassData) (e : Event) (r : Reply) (t : ℕ) (from to : Phase) → Calls v e r w → IsInPlace v
      → TellsTruth died is_bad e → ((old : List Phase) → phase_of old t ≡ from → Turns p old e r (slice_set old t to))
      → Leads died is_bad p v w t from to
  leads_call v w e r t from to h place truth advance = record {
    goes = goes_call v w e r h;
    place = in_place_call v w e r h place;
    further = entry v.number e [] r ∷ [];
    later = ap (λ (u : PassData). u.mine) h.1;
    truth = (truth, tt);
    advances = λ old low is. (slice_set old t to, advance old is, refl);
  }

  leads_drawn : (v w : PassData) (c : Claim) → Calls v Draw (Ticket (Some c)) w → IsInPlace v
      → Leads died is_bad p v w c.ticket undrawn asks
  leads_drawn v w c h place =
      leads_call v w Draw (Ticket (Some c)) c.ticket undrawn asks h place tt (λ old is. (is, refl))

  leads_number : (v w : PassData) (c : Claim) (k : ℕ) → Calls v (Number c) (Numbered (Some k)) w → IsInPlace v
      → Leads died is_bad p v w c.ticket asks (tries k)
  leads_number v w c k h place =
      leads_call v w (Number c) (Numbered (Some k)) c.ticket asks (tries k) h place tt (λ old is. (is, refl))

  leads_no_number : (v w : PassData) (c : Claim) → Calls v (Number c) (Numbered None) w → IsInPlace v
      → Leads died is_bad p v w c.ticket asks ended
  leads_no_number v w c h place =
      leads_call v w (Number c) (Numbered None) c.ticket asks ended h place tt (λ old is. (is, refl))

  pub leads_won : (v w : PassData) (c : Claim) (k : ℕ) → Calls v (Settle c k) Won w → IsInPlace v
      → GivesEmits died is_bad c.shard k → Leads died is_bad p v w c.ticket (tries k) ended
  leads_won v w c k h place truth =
      leads_call v w (Settle c k) Won c.ticket (tries k) ended h place truth (λ old is. (is, refl))

  pub leads_bad : (v w : PassData) (c : Claim) (k : ℕ) → Calls v (Bad c.shard) Noted w → IsInPlace v
      → v.ledger.plan ≡ p → HasDrawn c v.mine → is_bad c.shard → Leads died is_bad p v w c.ticket (tries k) ended
  leads_bad v w c k h place of drew truth =
      let claim = is_claim p v c of place drew in
      leads_call v w (Bad c.shard) Noted c.ticket (tries k) ended h place truth
      (λ old is. record {
        ticket = c.ticket;
        number = k;
        within = claim.ticket;
        shard = claim.shard;
        goes = (is, refl);
      })

  -- no lane was lent
  pub leaves_none : (v w : PassData) (i : ℕ) → Calls v (LaneOut i) (Lane false) w → IsInPlace v
      → LeavesAll died is_bad p v w
  leaves_none v w i h place t q =
      leads_call v w (LaneOut i) (Lane false) t q q h place tt (λ old is. stays_there old t q is)

  -- a lane was lent and given back
  pub leaves_lent : (v w x : PassData) (i : ℕ) (lane : LaneData) (ss : List ℕ) → IsLent v i lane w
      → CallsWith w (LaneBack i) ss Noted 0 [] x
      → IsInPlace v → v.lane ≡ 0 → v.lent ≡ [] → LeavesAll died is_bad p v x
  leaves_lent v w x i lane ss h g place idle none t q =
      let out : Entry = entry v.number (LaneOut i) [] (Lane true) in
      let back : Entry = entry w.number (LaneBack i) ss Noted in
      let mid : w.mine ≡ v.mine ++ out ∷ [] = ap (λ (u : PassData). u.mine) h.0.1 in
      let last : x.mine ≡ w.mine ++ back ∷ [] = ap (λ (u : PassData). u.mine) g.1 in record {
        goes = goes_lent v w x i lane ss h g idle none;
        place = in_place_with w x (LaneBack i) ss Noted 0 [] g
            (in_place_with v w (LaneOut i) [] (Lane true) (i + 1) lane.shards h.0 place);
        further = out ∷ back ∷ [];
        later = last ∙ ap (λ (l : List Entry). l ++ back ∷ []) mid ∙ append_assoc v.mine (out ∷ []) (back ∷ []);
        truth = (tt, (tt, tt));
        advances = λ old low is. subst (TurnsAll p old (out ∷ back ∷ [])) (sym (stays_there old t q is))
            (old, refl, (old, refl, refl));
      }

  -- the shard was won, and its part was kept
  pub leads_kept : (v w x : PassData) (c : Claim) (k : ℕ) → Calls v (Settle c k) Won w → IsInPlace v
      → GivesEmits died is_bad c.shard k
      → LeavesAll died is_bad p w x → Leads died is_bad p v x c.ticket (tries k) ended
  leads_kept v w x c k h place truth leaves =
      leads_then v w x c.ticket (tries k) ended ended (leads_won v w c k h place truth) (leaves c.ticket ended)

  module _ (u v w : PassData) (c : Claim) (so_far : Leads died is_bad p u v c.ticket asks asks) where
    -- the ticket was given a number, and the attempt ended
    pub leads_try : (x : PassData) (k : ℕ) (to : Phase) → Calls v (Number c) (Numbered (Some k)) w
        → Leads died is_bad p w x c.ticket (tries k) to → Leads died is_bad p u x c.ticket asks to
    leads_try x k to h tried =
        leads_then u w x c.ticket asks (tries k) to
        (leads_then u v w c.ticket asks asks (tries k) so_far (leads_number v w c k h so_far.place)) tried

    pub stops_try : (x : PassData) (k : ℕ) → Calls v (Number c) (Numbered (Some k)) w
        → Stops died is_bad p w x c.ticket (tries k) → Stops died is_bad p u x c.ticket asks
    stops_try x k h tried = (tried.0, leads_try x k tried.0 h tried.1)

    -- no number was left for it
    pub leads_dry : Calls v (Number c) (Numbered None) w → Leads died is_bad p u w c.ticket asks ended
    leads_dry h = leads_then u v w c.ticket asks asks ended so_far (leads_no_number v w c h so_far.place)

  -- a worker that has drawn no ticket
  pub between_self : (v : PassData) → IsBetween died is_bad p v v
  between_self v = record {
    goes = goes_self v;
    begun = record {
      further = [];
      phases = replicate (count_of p) undrawn;
      later = sym (append-nil v.mine);
      truth = tt;
      order = record { turns = refl };
    };
    rows = length-replicate (count_of p) undrawn;
    each = λ t. inl (none_drawn (count_of p) t);
  }

  -- what a ticket adds to what was done before
  begun_then : (u v w : PassData) (t : ℕ) (from to : Phase) (b : HasBegun died is_bad p u v) → t < length b.phases
      → phase_of b.phases t ≡ from → Leads died is_bad p v w t from to → HasBegun died is_bad p u w
  begun_then u v w t from to b low is h = record {
    further = b.further ++ h.further;
    phases = slice_set b.phases t to;
    later = h.later ∙ ap (λ (l : List Entry). l ++ h.further) b.later ∙ append_assoc u.mine b.further h.further;
    truth = truth_then died is_bad b.further h.further b.truth h.truth;
    order = record {
      turns = advances_then p
          (replicate (count_of p) undrawn) b.phases (slice_set b.phases t to) b.further h.further b.order.turns
          (h.advances b.phases low is);
    };
  }

  module _ (u v w : PassData) (c : Claim) (b : IsBetween died is_bad p u v) (of : v.ledger.plan ≡ p)
      (place : IsInPlace v)
      (draw : Calls v Draw (Ticket (Some c)) w) where
    -- a ticket that was just drawn was not drawn before
    is_undrawn : phase_of b.begun.phases c.ticket ≡ undrawn
    is_undrawn = ⊎_elim (λ (is : phase_of b.begun.phases c.ticket ≡ undrawn). is)
        (λ (done : (phase_of b.begun.phases c.ticket ≡ ended) × ((d : Claim) × (d.ticket ≡ c.ticket) × HasDrawn d v.mine)).
        absurd (not_drawn v w c draw place done.1.0 done.1.2 done.1.1)) (b.each c.ticket)

    within : c.ticket < length b.begun.phases
    within = subst (λ (n : ℕ). c.ticket < n) (ap count_of of ∙ sym b.rows) (drawn_low v w c draw)

    taken : (x : PassData) (to : Phase) → Leads died is_bad p w x c.ticket asks to
        → Leads died is_bad p v x c.ticket undrawn to
    taken x to h = leads_then v w x c.ticket undrawn asks to (leads_drawn v w c draw place) h

    -- the ticket came to its end
    pub between_then : (x : PassData) → Leads died is_bad p w x c.ticket asks ended → IsBetween died is_bad p u x
    unfolding begun_then
    between_then x tried =
        let h = taken x ended tried in
        record {
          goes = goes_then u v x b.goes h.goes;
          begun = begun_then u v x c.ticket undrawn ended b.begun within is_undrawn h;
          rows = length-set b.begun.phases c.ticket ended ∙ b.rows;
          each = λ t. by t (t == c.ticket) refl;
        }
      where
        by : (t : ℕ) (test : Bool) → (t == c.ticket) ≡ test
            → (phase_of (slice_set b.begun.phases c.ticket ended) t ≡ undrawn)
            ⊎ ((phase_of (slice_set b.begun.phases c.ticket ended) t ≡ ended)
            × ((d : Claim) × (d.ticket ≡ t) × HasDrawn d x.mine))
        by t true is =
            let same : t ≡ c.ticket = eqb-true t c.ticket is in
            inr (
              ap (phase_of (slice_set b.begun.phases c.ticket ended)) same
                  ∙ get_or-set_same b.begun.phases c.ticket ended undrawn within,
              (c, sym same, drawn_since w x c tried.further tried.later (has_drawn_now v w c draw)),
            )
        by t false is =
            let h = taken x ended tried in
            let still = get_or-set_other b.begun.phases c.ticket t ended undrawn (eqb-false t c.ticket is) in
            ⊎_elim (λ (e : phase_of b.begun.phases t ≡ undrawn). inl (still ∙ e))
            (λ (done : (phase_of b.begun.phases t ≡ ended) × ((d : Claim) × (d.ticket ≡ t) × HasDrawn d v.mine)).
            inr (still ∙ done.0, (done.1.0, done.1.1, drawn_since v x done.1.0 h.further h.later done.1.2))) (b.each t)

    -- the worker stopped on the ticket's way
    pub stopped_then : (x : PassData) → Stops died is_bad p w x c.ticket asks → HasBegun died is_bad p u x
    stopped_then x tried = begun_then u v x c.ticket undrawn tried.0 b.begun within is_undrawn (taken x tried.0 tried.1)

  -- a draw found no ticket
  pub worked_now : (u v w : PassData) → IsBetween died is_bad p u v → Calls v Draw (Ticket None) w
      → HasWorked died is_bad p u w
  worked_now u v w b h =
      let e : Entry = entry v.number Draw [] (Ticket None) in
      let d = b.begun in
      let mine : w.mine ≡ v.mine ++ e ∷ [] = ap (λ (x : PassData). x.mine) h.1 in record {
        begun = record {
          further = d.further ++ e ∷ [];
          phases = d.phases;
          later = mine ∙ ap (λ (l : List Entry). l ++ e ∷ []) d.later ∙ append_assoc u.mine d.further (e ∷ []);
          truth = truth_then died is_bad d.further (e ∷ []) d.truth (tt, tt);
          order = record {
            turns = advances_then p (replicate (count_of p) undrawn) d.phases d.phases d.further (e ∷ [])
                d.order.turns (d.phases, refl, refl);
          };
        };
        done = λ t. ⊎_elim (λ (is : phase_of d.phases t ≡ undrawn). inl is)
            (λ (done : (phase_of d.phases t ≡ ended) × ((c : Claim) × (c.ticket ≡ t) × HasDrawn c v.mine)).
            inr done.0) (b.each t);
        last = (d.further, ap (λ (n : ℕ). d.further ++ entry n Draw [] (Ticket None) ∷ []) b.goes.number);
      }
